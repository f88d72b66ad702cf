-- What is found is what the definition's step writes.
use Rattle.std.specs.Prelude.{◌≡◌, refl, ℕ, ◌+◌, ◌<◌, ◌≤◌, Bool, true, false, ◌&&◌, cond, List, [], ◌∷◌, ℤ, ltb, Result, Ok, Err, Option, Some, None, MatchOption}
use Rattle.std.proofs.Common.{◌∙◌, ap, arith}
use Rattle.definition.specs.declared.Error.{Error}
use Rattle.definition.specs.declared.Ending.{Ending}
use Rattle.definition.specs.declared.Ending.TheVariants.{Exception, Stops}
use Rattle.definition.specs.declared.Stop.{Stop}
use Rattle.definition.specs.declared.Stop.TheVariants.{CyclesFull}
use Rattle.definition.specs.Exception.{stop_number}
use Rattle.definition.specs.declared.Instruction.{Instruction}
use Rattle.definition.specs.Constants.{CYCLES-END}
use Rattle.definition.specs.Word.{digit}
use Rattle.definition.specs.Exec.{Core, Res, and_then}
use Rattle.definition.specs.Runtime as M
use Rattle.definition.specs.Runtime.{Machine, fetch, has_handler}
use borrow.Author.Tests.{ltb-false}
use Rattle.definition.specs.declared.Cell.{Cell}
use Rattle.definition.specs.Memory.{cell_count, cell_at, get, found}
use Rattle.memory.specs.declared.Write.{Write}
use Rattle.memory.specs.Overlay.{overlay}
use Rattle.memory.proofs.Laws.{length_over}
use Rattle.registers.specs.Meaning.{res_of}
use Rattle.runtime.specs.Meaning.{turn_of}
use Rattle.noting.specs.declared.Was.{Was}
use Rattle.noting.specs.Meaning.{held_of, own_of}
use Rattle.journal.specs.Writes.{Held, held_at, entry_writes, aim, aimed, wrote_there, instruction_writes}
use Rattle.journal.specs.Journal.{begins, begun}
use Rattle.journal.proofs.Turn.{begun-is}

-- ---- the instruction's own write

pub aimed_err : (g : ℕ) (c d : Core) (e : Error) → res_of (Err e) d ≡ fetch c → [] ≡ instruction_writes g c
unfolding instruction_writes aimed and_then wrote_there res_of
aimed_err g c d e h = ap (λ (r : Res Instruction). wrote_there g c.cells (and_then r (λ (i : Instruction). aim i.op i.x i.y i.r1 i.r2))) h

pub aimed_ok : (g : ℕ) (c d : Core) (i : Instruction) → res_of (Ok i) d ≡ fetch c → wrote_there g c.cells (aim i.op i.x i.y i.r1 i.r2 d) ≡ instruction_writes g c
unfolding instruction_writes aimed and_then wrote_there res_of
aimed_ok g c d i h = ap (λ (r : Res Instruction). wrote_there g c.cells (and_then r (λ (i : Instruction). aim i.op i.x i.y i.r1 i.r2))) h

-- ---- is the step begun

pub begun_completed : (b w : Machine) → begun (M.limit b (M.settle (M.completes w))) ≡ ltb w.cycles CYCLES-END
begun_completed b w =
    let e : w.cycles + 0 ≡ w.cycles = omega arith in
    begun-is b false false 0 CyclesFull w (λ t. cc) ∙ ap (λ (n : ℕ). ltb n CYCLES-END) e

pub begun_entered : (b w : Machine) (k : ℕ) → begun (M.limit b (M.settle (M.enters k w))) ≡ ltb (w.cycles + digit (has_handler w.core.cells)) CYCLES-END
begun_entered b w k = begun-is b true false k CyclesFull w (λ t. cc)

stopped_not : (b : Machine) (o : M.Outcome) → begun o ≡ false → begun (M.limit b o) ≡ false
unfolding M.limit begun begins
stopped_not b o e = go (ltb (M.reached o).cycles CYCLES-END)
  where
    go : (x : Bool) → begun (cond x o (M.stopped CyclesFull b)) ≡ false
    go true = e
    go false = refl

pub begun_stopped : (b w : Machine) (s : Stop) → begun (M.limit b (M.settle (M.stops s w))) ≡ (begins (stop_number s) && ltb w.cycles CYCLES-END)
begun_stopped b w s = go (begins (stop_number s)) refl
  where
    go : (x : Bool) → begins (stop_number s) ≡ x → begun (M.limit b (M.settle (M.stops s w))) ≡ (x && ltb w.cycles CYCLES-END)
    go true e =
        let z : w.cycles + 0 ≡ w.cycles = omega arith in
        begun-is b false true 0 s w (λ t. e) ∙ ap (λ (n : ℕ). ltb n CYCLES-END) z
    go false e = stopped_not b (M.settle (M.stops s w)) (unfold M.settle begun in e)

-- ---- the cells of entry

pub no_entry : (a : Result (Unit {0}) Ending) (m : Machine) → ((k : ℕ) → a ≡ Err (Exception k) → ⊥) → [] ≡ entry_writes (turn_of a m)
unfolding M.ends entry_writes
no_entry (Ok u) m h = refl
no_entry (Err (Exception k)) m h = absurd (h k refl)
no_entry (Err (Stops s)) m h = refl

pub no_handler_cells : (k : ℕ) (m : Machine) → has_handler m.core.cells ≡ false → entry_writes (M.enters k m) ≡ []
unfolding entry_writes
no_handler_cells k m h = rw h refl

pub handler_cells : (k : ℕ) (m : Machine) → has_handler m.core.cells ≡ true → entry_writes (M.enters k m) ≡ held_at m.core.cells 100 ∷ held_at m.core.cells 101 ∷ held_at m.core.cells 102 ∷ []
unfolding entry_writes
handler_cells k m h = rw h refl

-- ---- cells with a write that waits

pub over_some : (l : List ℤ) (w : Option Write) (n : ℕ) (v : Cell) → Some v ≡ get (overlay w l) n → v ≡ cell_at (overlay w l) n
unfolding get found
over_some l w n v h = go (ltb n (cell_count (overlay w l))) h
  where
    go : (b : Bool) → Some v ≡ found b (cell_at (overlay w l) n) → v ≡ cell_at (overlay w l) n
    go true h = cc
    go false h = cc

pub over_none : (l : List ℤ) (w : Option Write) (n : ℕ) → None ≡ get (overlay w l) n → cell_count l ≤ n
unfolding get found
over_none l w n h = go (ltb n (cell_count (overlay w l))) refl h
  where
    go : (b : Bool) → ltb n (cell_count (overlay w l)) ≡ b → None ≡ found b (cell_at (overlay w l) n) → cell_count l ≤ n
    go true e h = cc
    go false e h = let z = ltb-false _ _ e in omega (arith, length_over l w)

-- what was read at an address that is inside
pub own_there : (l : List ℤ) (n : ℕ) (r : Option Was) → n < cell_count l → MatchOption r (cell_count l ≤ n) (λ w. held_of w ≡ held_at l n) → own_of r ≡ held_at l n ∷ []
own_there l n None h e = absurd (omega arith)
own_there l n (Some w) h e = ap (λ (x : Held). x ∷ []) e
