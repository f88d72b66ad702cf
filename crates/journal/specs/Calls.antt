-- The calls with a journal lent, and going back (document 02, Card 11). "A refused call changes nothing lent."
use Rattle.std.specs.Prelude.{Bool, true, cond, ◌&&◌, ◌||◌, List, [], ◌∷◌, ◌++◌, ℕ, zero, suc, ◌+◌, ◌*◌, ℤ, pos, get_or, leb, eqb}
use Rattle.definition.specs.declared.Done.{Done}
use Rattle.definition.specs.declared.Ran.{Ran}
use Rattle.definition.specs.declared.Drained.{Drained}
use Rattle.definition.specs.declared.Raised.{Raised}
use Rattle.definition.specs.Constants.{QUEUE-MOST, OUTPUT-MOST, ROW}
use Rattle.definition.specs.Memory.{cell_count}
use Rattle.definition.specs.Encoding.{sound}
use Rattle.definition.specs.Calls.{test, done, accepted, verdict, passes, is_below, cells_test, row_tests, Called, called, answer, drain_answer, raise_answer, Lent, lent_machine, fresh_check, fresh, run_check, run_call, deliver_check, deliver, drain_check, drain, load_check, load, set_register_check, set_register, raise_check, raise}
use Rattle.journal.specs.Journal.{row_in, writes_in, held_in, put_back, count_of, with_start, with_count, newest, forget_newest, WRITES-MOST, whole_records, is_journal, journal}

-- "New numbers: 20 the journal is no whole number of records [...]; 21 nothing kept to go back to"
abbrev pub NO-JOURNAL : ℕ
NO-JOURNAL = 20

abbrev pub NOTHING-KEPT : ℕ
NOTHING-KEPT = 21

abbrev pub no_journal : Done
no_journal = done NO-JOURNAL 0

-- ---- the calls with a journal: "first the call's own" refusals, "then 20"

-- The call c, lent l, whose own tests passed or not; the journal's test passed or not, and the journal as the call leaves it. `refused` is the
-- call's answer where the journal is refused.
unfoldable pub with_journal : {A L : Type 0} → Bool → Called A L → Bool → A → L → List ℤ → List ℤ → Called A (L × List ℤ)
with_journal own c fits refused l left j =
    cond own (cond fits (called c.answer (c.left, left)) (called refused (l, j))) (called c.answer (c.left, j))

-- "A journal lent to a run": a run's answer and machine are those of the run without it.
unfoldable pub run_journal : ℕ → Lent → List ℤ → Called Ran (Lent × List ℤ)
run_journal budget l j =
    with_journal (passes (run_check l)) (run_call budget l) (is_journal j) (answer no_journal 0 0 0 0) l (journal budget (lent_machine l) j) j

-- "Lent to fresh, deliver, drain, load, set register or raise, it gets count 0 unless refused and keeps the rest"
unfoldable pub emptied : List ℤ → List ℤ
emptied j = with_count 0 j

-- "fresh tests its length only and sets start 0 too"
unfoldable pub fresh_journal : List ℤ → List ℤ → List ℤ → Called Done ((List ℤ × List ℤ) × List ℤ)
fresh_journal cells row j =
    with_journal (passes (fresh_check cells row)) (fresh cells row) (whole_records j) no_journal (cells, row) (with_start 0 (emptied j)) j

unfoldable pub deliver_journal : List ℕ → List ℤ → List ℕ → List ℤ → Called Done ((List ℕ × List ℤ) × List ℤ)
deliver_journal queue row bytes j =
    with_journal (passes (deliver_check queue row bytes)) (deliver queue row bytes) (is_journal j) no_journal (queue, row) (emptied j) j

unfoldable pub drain_journal : List ℕ → List ℤ → List ℕ → List ℤ → Called Drained ((List ℤ × List ℕ) × List ℤ)
drain_journal output row buffer j =
    with_journal (passes (drain_check output row buffer)) (drain output row buffer) (is_journal j) (drain_answer no_journal 0) (row, buffer) (emptied j) j

unfoldable pub load_journal : List ℤ → List ℤ → ℕ → List ℤ → Called Done (List ℤ × List ℤ)
load_journal cells image start j =
    with_journal (passes (load_check cells image start)) (load cells image start) (is_journal j) no_journal cells (emptied j) j

unfoldable pub set_register_journal : List ℤ → ℕ → ℤ → List ℤ → Called Done (List ℤ × List ℤ)
set_register_journal row r w j =
    with_journal (passes (set_register_check row r w)) (set_register row r w) (is_journal j) no_journal row (emptied j) j

unfoldable pub raise_journal : List ℤ → List ℤ → ℕ → List ℤ → Called Raised ((List ℤ × List ℤ) × List ℤ)
raise_journal cells row code j =
    with_journal (passes (raise_check cells row code)) (raise cells row code) (is_journal j) (raise_answer no_journal 0 0) (cells, row) (emptied j) j

-- ---- going back

-- Everything that going back is lent.
pub record Backward : Type 0 where
  pub cells : List ℤ
  pub row : List ℤ
  pub journal : List ℤ

abbrev pub backward : List ℤ → List ℤ → List ℤ → Backward
backward c r j = record { cells = c; row = r; journal = j }

-- "or a row or cell that 4, 5 or 8 would refuse": the first k cells of the record, of n cells; its unused places are not looked at.
unfoldable pub held_fit : ℕ → List ℤ → ℕ → Bool
held_fit n r zero = true
held_fit n r (suc i) = is_below n (get_or r (suc ROW + 4 * i) (pos 0)) && (sound (held_in r i).cell && held_fit n r i)

-- "or the record gone back to holds not 0 to 4 cells", or such a row or cell
unfoldable pub is_record : ℕ → List ℤ → Bool
is_record n r =
    is_below (suc WRITES-MOST) (get_or r ROW (pos 0)) && (passes (verdict (row_tests QUEUE-MOST OUTPUT-MOST n (row_in r))) && held_fit n r (writes_in r))

-- "checks cells as load does"; the row by 4, as every call that is lent it. Where nothing is kept, there is no record to be 20.
unfoldable pub back_check : Backward → Done
back_check b =
    let n = cell_count b.cells in
    let j = b.journal in
    verdict (
    cells_test b.cells
    ∷ (row_tests QUEUE-MOST OUTPUT-MOST n b.row ++ test NO-JOURNAL 0 (is_journal j && (eqb (count_of j) 0 || is_record n (newest 0 j))) ∷ test NOTHING-KEPT 0 (leb 1 (count_of j)) ∷ [])
    )

-- "puts the newest record back, last written cell first, and takes one off the count"
unfoldable pub backed : Backward → Backward
backed b =
    let r = newest 0 b.journal in backward (put_back (writes_in r) r b.cells) (row_in r) (forget_newest b.journal)

-- "Going back, one step a call, is lent cells, row and journal"
unfoldable pub back : Backward → Called Done Backward
back b = cond (passes (back_check b)) (called accepted (backed b)) (called (back_check b) b)
