-- What each call's check says of the things lent, where it passes.
use mathlib.Core.Path.{◌≡◌, refl}
use mathlib.Core.Bool.{Bool, true, ◌&&◌, ◌||◌}
use mathlib.Core.List.{List, [], ◌∷◌, ◌++◌}
use Prim.Native.Nat.{ℕ, ◌+◌, ◌*◌, ◌%◌, ◌<◌, ◌≤◌}
use native.Mathlib.Omega.{arith}
use lib.IntN.{ℤ}
use lib.Dec.{ltb, leb, eqb}
use lib.ListN.{length}
use borrow.Author.Tests.{ltb-true, leb-true, eqb-true}
use Rattle.definition.specs.Constants.{CELLS-MOST, QUEUE-MOST, OUTPUT-MOST, ROW, ROW-COUNT, ROW-WRITTEN}
use Rattle.definition.specs.Memory.{cell_count, cell_at}
use Rattle.definition.specs.Encoding.{sound}
use Rattle.definition.specs.Calls.{Test, test, accepted, cells_test, queue_test, output_test, length_test, row_tests, damage_test, lowest_damaged, number_of_row, fresh_check, deliver_check, drain_check, read_check, load_check, set_register_check, raise_check, is_settable}
use Rattle.definition.specs.Accepted.{RowFits, CellsFit}
use Rattle.definition.proofs.Verdict.{and_left, and_right, Passes, passes-left, passes-right, numbered}
use Rattle.definition.proofs.Checked.{accepted-passes}
use Rattle.definition.proofs.Row.{row_fits, cells_fit, queue_fits, undamaged}

-- the row's tests, and those behind them
row_of : (q o n : ℕ) (row : List ℤ) (ts : List Test) → Passes (row_tests q o n row ++ ts) → RowFits q o n row × Passes ts
row_of q o n row ts p = (row_fits q o n row (passes-left (row_tests q o n row) ts p), passes-right (row_tests q o n row) ts p)

pub fresh-passed : (cells row : List ℤ) → accepted ≡ fresh_check cells row → length row ≡ ROW
unfolding fresh_check cells_test length_test
fresh-passed cells row h = eqb-true (length row) ROW (accepted-passes (cells_test cells ∷ length_test row ∷ []) refl h).1.0

pub record DeliverPassed (queue : List ℕ) (row : List ℤ) (bytes : List ℕ) : Type 0 where
  pub queue-most : length queue ≤ QUEUE-MOST
  pub row_fits : RowFits (length queue) OUTPUT-MOST CELLS-MOST row
  pub room : number_of_row ROW-COUNT row + length bytes ≤ length queue

pub deliver-passed : (queue : List ℕ) (row : List ℤ) (bytes : List ℕ) → accepted ≡ deliver_check queue row bytes → DeliverPassed queue row bytes
unfolding deliver_check
deliver-passed queue row bytes h =
    let t : Test = test 6 0 (leb (number_of_row ROW-COUNT row + length bytes) (length queue)) in
    let ts : List Test = queue_test queue ∷ (row_tests (length queue) OUTPUT-MOST CELLS-MOST row ++ t ∷ []) in
    let n : numbered ts ≡ true = unfold queue_test row_tests length_test in refl in
    let p = accepted-passes ts n h in
    let r = row_of (length queue) OUTPUT-MOST CELLS-MOST row (t ∷ []) p.1 in
    record { queue-most = (queue_fits queue p.0).most; row_fits = r.0; room = leb-true (number_of_row ROW-COUNT row + length bytes) (length queue) r.1.0 }

pub record DrainPassed (output : List ℕ) (row : List ℤ) (buffer : List ℕ) : Type 0 where
  pub row_fits : RowFits QUEUE-MOST (length output) CELLS-MOST row
  pub room : number_of_row ROW-WRITTEN row ≤ length buffer

pub drain-passed : (output : List ℕ) (row : List ℤ) (buffer : List ℕ) → accepted ≡ drain_check output row buffer → DrainPassed output row buffer
unfolding drain_check
drain-passed output row buffer h =
    let t : Test = test 7 0 (leb (number_of_row ROW-WRITTEN row) (length buffer)) in
    let ts : List Test = output_test output ∷ (row_tests QUEUE-MOST (length output) CELLS-MOST row ++ t ∷ []) in
    let n : numbered ts ≡ true = unfold output_test row_tests length_test in refl in
    let p = accepted-passes ts n h in
    let r = row_of QUEUE-MOST (length output) CELLS-MOST row (t ∷ []) p.1 in
    record { row_fits = r.0; room = leb-true (number_of_row ROW-WRITTEN row) (length buffer) r.1.0 }

pub read-passed : (cells : List ℤ) (n : ℕ) → accepted ≡ read_check cells n → n < cell_count cells
unfolding read_check cells_test
read-passed cells n h =
    let ts : List Test = cells_test cells ∷ test 5 n (sound (cell_at cells n) || leb (cell_count cells) n) ∷ test 8 0 (ltb n (cell_count cells)) ∷ [] in
    ltb-true n (cell_count cells) (accepted-passes ts refl h).1.1.0

pub load-passed : (cells image : List ℤ) (start : ℕ) → accepted ≡ load_check cells image start → 3 * start + length image ≤ length cells
unfolding load_check cells_test
load-passed cells image start h =
    let d : Bool = eqb (lowest_damaged 0 image) (cell_count image) in
    let w : Bool = leb (start + cell_count image) (cell_count cells) in
    let ts : List Test = cells_test cells ∷ test 8 0 (ltb start (cell_count cells)) ∷ test 9 0 (eqb (length image % 3) 0 && (w && d)) ∷ [] in
    let p = (accepted-passes ts refl h).1.1.0 in
    omega (arith, eqb-true (length image % 3) 0 (and_left _ (w && d) p), leb-true (start + cell_count image) (cell_count cells) (and_left w d (and_right (eqb (length image % 3) 0) _ p)))

pub set-register-passed : (row : List ℤ) (r : ℕ) (w : ℤ) → accepted ≡ set_register_check row r w → RowFits QUEUE-MOST OUTPUT-MOST CELLS-MOST row
unfolding set_register_check
set-register-passed row r w h =
    let t : Test = test 10 0 (is_settable r w) in
    let n : numbered (row_tests QUEUE-MOST OUTPUT-MOST CELLS-MOST row ++ t ∷ []) ≡ true = unfold row_tests length_test in refl in
    (row_of QUEUE-MOST OUTPUT-MOST CELLS-MOST row (t ∷ []) (accepted-passes (row_tests QUEUE-MOST OUTPUT-MOST CELLS-MOST row ++ t ∷ []) n h)).0

pub record RaisePassed (cells row : List ℤ) (code : ℕ) : Type 0 where
  pub cells_fit : CellsFit cells
  pub row_fits : RowFits QUEUE-MOST OUTPUT-MOST (cell_count cells) row
  pub sound-cells : lowest_damaged 0 cells ≡ cell_count cells
  pub code-most : code ≤ 5

pub raise-passed : (cells row : List ℤ) (code : ℕ) → accepted ≡ raise_check cells row code → RaisePassed cells row code
unfolding raise_check
raise-passed cells row code h =
    let t : List Test = damage_test cells ∷ test 11 0 (leb code 5) ∷ [] in
    let ts : List Test = cells_test cells ∷ (row_tests QUEUE-MOST OUTPUT-MOST (cell_count cells) row ++ t) in
    let n : numbered ts ≡ true = unfold cells_test row_tests length_test damage_test in refl in
    let p = accepted-passes ts n h in
    let r = row_of QUEUE-MOST OUTPUT-MOST (cell_count cells) row t p.1 in
    record { cells_fit = cells_fit cells p.0; row_fits = r.0; sound-cells = undamaged cells r.1.0; code-most = leb-true code 5 r.1.1.0 }
