-- The tests of going back pass on what an accepted machine leaves.
use mathlib.Core.Path.{◌≡◌, refl}
use mathlib.Core.Bool.{Bool, true, false, ◌&&◌, ◌||◌}
use mathlib.Core.List.{List, [], ◌∷◌, ◌++◌}
use Prim.Native.Nat.{◌*◌, ◌%◌, ◌≤◌}
use native.Mathlib.Omega.{arith}
use lib.IntN.{ℤ}
use lib.ListN.{length}
use lib.Dec.{leb, eqb}
use borrow.Author.Tests.{le-leb, eq-eqb}
use Rattle.definition.specs.Constants.{ROW, QUEUE-MOST, OUTPUT-MOST}
use Rattle.definition.specs.Memory.{cell_count}
use Rattle.definition.specs.Runtime.{Machine}
use Rattle.definition.specs.Calls.{row_of, mark, Test, test, accepted, is_mark, cells_test, length_test, row_tests}
use Rattle.definition.specs.Accepted.{AcceptedMachine}
use Rattle.definition.proofs.Verdict.{and_both, Passes, ◌&◌, passes-verdict}
use Rattle.definition.proofs.Row.{address_is}
use Rattle.journal.specs.Journal.{count_of, newest, is_journal}
use Rattle.journal.specs.Calls.{is_record, backward, back_check}
use Rattle.journal.proofs.Record.{below-is}

mark-is : (b : Bool) → is_mark (mark b) ≡ true
unfolding is_mark
mark-is true = refl
mark-is false = refl

pub row-length : (m : Machine) → length (row_of m) ≡ ROW
unfolding row_of
row-length m = refl

-- queue and output are not lent
pub row-passes : (m : Machine) → AcceptedMachine m → Passes (row_tests QUEUE-MOST OUTPUT-MOST (cell_count m.core.cells) (row_of m))
unfolding row_tests length_test row_of
row-passes m a =
    let f = a.core_in in
    let k = a.console_in in
    let few = k.few in
    let small = k.small in
    refl
    & f.a_s
    & f.b_s
    & address_is _ f.pc_a
    & address_is _ f.sp_a
    & below-is _ _ a.cycles_in
    & mark-is m.console.marks.enable
    & mark-is m.console.marks.flag
    & mark-is m.console.marks.pending
    & below-is _ _ (let h = k.start_in in omega arith)
    & below-is _ _ (let h = k.count_in in omega arith)
    & below-is _ _ (let h = k.written_in in omega arith)
    & below-is _ _ (let h = f.fenced in omega arith)
    & below-is _ _ a.timer_in.interval_in
    & below-is _ _ (let h = a.timer_in.remaining_in in omega arith)
    & mark-is m.timer.mark
    & tt

cells-pass : (l : List ℤ) → length l ≡ 3 * cell_count l → 256 ≤ cell_count l → cell_count l ≤ 10000 → (cells_test l).passed ≡ true
unfolding cells_test
cells-pass l t low high =
    let z : length l % 3 ≡ 0 = omega arith in
    and_both _ _ (eq-eqb _ 0 z) (and_both _ _ (le-leb 256 _ low) (le-leb _ 10000 high))

passes_append : (a b : List Test) → Passes a → Passes b → Passes (a ++ b)
passes_append [] b p q = q
passes_append (t ∷ a) b p q = (p.0, passes_append a b p.1 q)

either-right : (a b : Bool) → b ≡ true → (a || b) ≡ true
either-right true b h = refl
either-right false b h = h

-- the machine m, and a journal whose newest record may be put back
pub back_passes : (m : Machine) (j : List ℤ) → AcceptedMachine m → is_journal j ≡ true → 1 ≤ count_of j → is_record (cell_count m.core.cells) (newest 0 j) ≡ true → back_check (backward m.core.cells (row_of m) j) ≡ accepted
unfolding back_check
back_passes m j a h c r =
    let f = a.core_in in
    let n = cell_count m.core.cells in
    let ts : List Test = test 20 0 (is_journal j && (eqb (count_of j) 0 || is_record n (newest 0 j))) ∷ test 21 0 (leb 1 (count_of j)) ∷ [] in
    passes-verdict
    (cells_test m.core.cells ∷ (row_tests QUEUE-MOST OUTPUT-MOST n (row_of m) ++ ts))
    (cells-pass m.core.cells f.three f.low f.high, passes_append (row_tests QUEUE-MOST OUTPUT-MOST n (row_of m)) ts (row-passes m a) (and_both _ _ h (either-right (eqb (count_of j) 0) _ r), (le-leb 1 (count_of j) c, tt)))
