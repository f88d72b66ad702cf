-- Card 6: "with the fence at 201 or more and nothing else touching the machine, over any number of steps in a row begun with S clear, every
-- cell below the fence holds what it held, save cells 100, 101 and 102, and those change only in the step that enters the handler." Said of
-- steps, and of calls of run as demand 3 is; of every fence, so of the card's. The proof is proofs/Fence.
use Rattle.std.specs.Prelude.{◌≡◌, ◌≢◌, true, false, List, ℕ, zero, suc, ◌<◌, ◌≤◌, ℤ}
use Rattle.definition.specs.Constants.{INTERRUPT-PC-SAVE, INTERRUPT-SR-SAVE, INTERRUPT-EXCEPTION, INTERRUPT-HANDLER, ROW-FENCE}
use Rattle.definition.specs.Memory.{cell_count, cell_at}
use Rattle.definition.specs.Registers.{supervisor}
use Rattle.definition.specs.Runtime.{Machine, turn, enters, completed, has_handler, entered, elapsed, reached, step, uncounted}
use Rattle.definition.specs.Calls.{Lent, lent_supervisor, at, number_of_row, calls}
use Rattle.definition.specs.UserMode.{Accepted, GoesNoFurther, Entry}
use Rattle.definition.specs.Accepted.{AcceptedMachine}

-- "with the fence at 201 or more", so that cell 200, where the handler begins, is below it
abbrev pub HANDLER-FENCE : ℕ
HANDLER-FENCE = 201

-- The cell at address n is the one that was there.
abbrev pub Holds : ℕ → List ℤ → List ℤ → Type 0
Holds n before after = cell_at after n ≡ cell_at before n

pub record KernelHolds (fence : ℕ) (before after : List ℤ) : Type 0 where
  -- "every cell below the fence holds what it held, save cells 100, 101 and 102"
  pub cells : (n : ℕ) → n < fence → n ≢ INTERRUPT-PC-SAVE → n ≢ INTERRUPT-SR-SAVE → n ≢ INTERRUPT-EXCEPTION → Holds n before after
  -- So the handler is the one that was there, from its first cell on.
  pub handler : HANDLER-FENCE ≤ fence → Holds INTERRUPT-HANDLER before after

-- ---- steps

-- "any number of steps in a row": the machine after n of them, each completed or stopped. The count of empty reads starts again with each.
unfoldable pub steps : ℕ → Machine → Machine
steps zero m = m
steps (suc n) m = uncounted (reached (step (steps n m)))

-- "the step that enters the handler"
pub record EntersHandler (m : Machine) : Type 0 where
  pub code : ℕ
  pub moment : Machine
  pub turns : turn m ≡ enters code moment
  pub handler : has_handler moment.core.cells ≡ true
  pub leaves : step m ≡ completed (elapsed code (entered code moment))

pub record FencedSteps (m : Machine) (n : ℕ) : Type 0 where
  pub fence : (steps n m).fence ≡ m.fence
  pub kernel : KernelHolds m.fence m.core.cells (steps n m).core.cells
  -- "and those change only in the step that enters the handler": a step that does not enter it leaves every cell below the fence.
  pub saves : (i : ℕ) → i < n → (EntersHandler (steps i m) → ⊥) → (k : ℕ) → k < m.fence → Holds k (steps i m).core.cells (steps (suc i) m).core.cells

-- "begun with S clear"
abbrev pub BegunClear : ℕ → Machine → Type 0
BegunClear n m = (i : ℕ) → i < n → supervisor (steps i m).core.regs ≡ false

abbrev pub StepsFenced : Type 0
StepsFenced = (m : Machine) → AcceptedMachine m → (n : ℕ) → BegunClear n m → FencedSteps m n

-- ---- calls of run

abbrev pub fence_of : Lent → ℕ
fence_of l = number_of_row ROW-FENCE l.row

-- The list's last completed step enters the handler; up to it every cell below the fence held what it held.
pub record EntersLast (ns : List ℕ) (l : Lent) : Type 0 where
  pub entry : Entry ns l
  pub before : (n : ℕ) → n < fence_of l → Holds n l.cells entry.last.cells

pub record FencedCalls (ns : List ℕ) (l : Lent) : Type 0 where
  pub fence : at ROW-FENCE (calls ns l).row ≡ at ROW-FENCE l.row
  pub count : cell_count (calls ns l).cells ≡ cell_count l.cells
  pub kernel : KernelHolds (fence_of l) l.cells (calls ns l).cells
  -- "and those change only in the step that enters the handler": where the list leaves S clear, no step has entered it, and cells 100, 101 and
  -- 102 hold what they held too; where it leaves S set, its last completed step has.
  pub clear : lent_supervisor (calls ns l) ≡ false → (n : ℕ) → n < fence_of l → Holds n l.cells (calls ns l).cells
  pub enters : lent_supervisor (calls ns l) ≡ true → EntersLast ns l

-- An accepted machine with S clear, and lists of budgets that go "no further than the first step that sets S".
abbrev pub CallsFenced : Type 0
CallsFenced = (l : Lent) → Accepted l → lent_supervisor l ≡ false → (ns : List ℕ) → GoesNoFurther ns l → FencedCalls ns l
