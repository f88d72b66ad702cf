-- "Step back" (document 02, Card 11): the cells that a step writes, in order of writing, and what each held just before.
-- It is said beside the definition's step, which keeps no list of its writes: all code is proved against that step as it stands, and runs
-- without a journal are to cost what they cost.
use Rattle.definition.specs.declared.Op.TheVariants as O
use Rattle.definition.specs.declared.Op.{Op}
use Rattle.definition.specs.declared.Operand.{Operand}
use Rattle.definition.specs.declared.Reg.{Reg}
use Rattle.std.specs.Prelude.{cond, List, [], ◌∷◌, ◌++◌, ℕ, ℤ}
use Rattle.definition.specs.declared.Cell.{Cell}
use Rattle.definition.specs.declared.Error.TheVariants.{InvalidMemoryAccess, InvalidInstruction}
use Rattle.definition.specs.Constants.{INTERRUPT-PC-SAVE, INTERRUPT-SR-SAVE, INTERRUPT-EXCEPTION}
use Rattle.definition.specs.Memory.{cell_at, put_cell}
use Rattle.definition.specs.Exec.{Core, Exec, Res, ok, err, ◌>>=◌, ◌>>◌, return, raise, ask, read, permits, below}
use Rattle.definition.specs.Instructions.{cell_of, register_word, place_of, set_register}
use Rattle.definition.specs.Runtime.{Machine, fetch, guard, Turn, completes, enters, stops, turn, has_handler}

-- A cell written: its address, and what it held.
pub record Held : Type 0 where
  pub address : ℕ
  pub cell : Cell

abbrev pub held : ℕ → Cell → Held
held n v = record { address = n; cell = v }

-- What the cell at address n of l holds.
abbrev pub held_at : List ℤ → ℕ → Held
held_at l n = held n (cell_at l n)

-- ---- where an instruction comes to its one write, or an error where it ends before. Five of the 33 write: each of them here is its namesake
-- of Instructions up to `write`. That this is the definition's write and that there is no other is proved (StepBack: `OneWrite`).

-- push: "sp 0 less 1 wraps"
unfoldable pub aim_push : Exec ℕ
aim_push = ask (λ s. below s.sp)

unfoldable pub aim_push_op : Operand → Exec ℕ
aim_push_op x = do
  v ← cell_of x
  aim_push

unfoldable pub aim_st : Reg → Operand → Exec ℕ
aim_st r y = do
  w ← register_word r
  place_of y

unfoldable pub aim_fas : Operand → Exec ℕ
aim_fas x = do
  n ← place_of x
  v ← read n InvalidMemoryAccess
  return n

-- "swap writes its register first and resolves the memory address from the new registers."
unfoldable pub aim_swap : Operand → Reg → Exec ℕ
aim_swap x r = do
  v ← cell_of x
  set_register r v
  place_of x

-- It writes no cell.
unfoldable pub nowhere : Exec ℕ
nowhere = raise InvalidInstruction

unfoldable pub aim : Op → Operand → Operand → Reg → Reg → Exec ℕ
aim O.Call x y r₁ r₂ = aim_push
aim O.Fas x y r₁ r₂ = aim_fas x
aim O.Push x y r₁ r₂ = aim_push_op x
aim O.St x y r₁ r₂ = aim_st r₁ y
aim O.Swap x y r₁ r₂ = aim_swap x r₂
aim op x y r₁ r₂ = nowhere

-- The fetched instruction's.
unfoldable pub aimed : Exec ℕ
aimed = do
  i ← fetch
  aim i.op i.x i.y i.r1 i.r2

-- The cells l are written there if g, the first address that the step may write, permits it (Exec: `permits`).
unfoldable pub wrote_there : ℕ → List ℤ → Res ℕ → List Held
wrote_there g l (ok n c) = cond (permits g n l) (held_at l n ∷ []) []
wrote_there g l (err e c) = []

unfoldable pub instruction_writes : ℕ → Core → List Held
instruction_writes g c = wrote_there g c.cells (aimed c)

-- "pc, sr and code go to cells 100, 101, 102" (Runtime: `saved`), where the step turns to entry and there is a handler.
unfoldable pub entry_writes : Turn → List Held
entry_writes (completes m) = []
entry_writes (enters k m) =
    let l = m.core.cells in
    cond (has_handler l) (held_at l INTERRUPT-PC-SAVE ∷ held_at l INTERRUPT-SR-SAVE ∷ held_at l INTERRUPT-EXCEPTION ∷ []) []
entry_writes (stops s m) = []

-- "what the cells it wrote held", "in order of writing": the instruction's, then those of entry. A cell written by both is there twice, each
-- time as it was just before that write.
unfoldable pub step_writes : Machine → List Held
step_writes m = instruction_writes (guard m) m.core ++ entry_writes (turn m)

-- "last written cell first": the cells put back, the later ones before.
unfoldable pub undone : List Held → List ℤ → List ℤ
undone [] l = l
undone (h ∷ hs) l = put_cell (undone hs l) h.address h.cell
