-- "Cells and row", "Turned back, in checking order" and the eight calls: functions from everything lent to the answer and everything lent
-- afterwards. A refused call leaves what it was lent.
use Rattle.std.specs.Prelude.{Bool, true, false, cond, ◌&&◌, ◌||◌, List, [], ◌∷◌, ◌++◌, ℕ, zero, suc, ◌+◌, ◌*◌, ◌-◌, ◌%◌, ℤ, pos, negsuc, nat_abs, length, get_or, set, take, drop, replicate, ltb, leb, eqb}
use Rattle.definition.specs.declared.Cell.{Cell}
use Rattle.definition.specs.declared.Done.{Done}
use Rattle.definition.specs.declared.Ran.{Ran}
use Rattle.definition.specs.declared.Drained.{Drained}
use Rattle.definition.specs.declared.CellRead.{CellRead}
use Rattle.definition.specs.declared.Raised.{Raised}
use Rattle.definition.specs.Constants.{SUPERVISOR, CELLS-LEAST, CELLS-MOST, QUEUE-MOST, OUTPUT-MOST, CYCLES-END, ROW, ROW-A, ROW-B, ROW-PC, ROW-SP, ROW-SR, ROW-CYCLES, ROW-ENABLE, ROW-FLAG, ROW-PENDING, ROW-START, ROW-COUNT, ROW-WRITTEN, ROW-FENCE, ROW-INTERVAL, ROW-REMAINING, ROW-MARK}
use Rattle.definition.specs.Word.{eq_z, address_of, bit}
use Rattle.definition.specs.Memory.{cell, empty, word, cell_count, cell_at}
use Rattle.definition.specs.Encoding.{sound, is_address}
use Rattle.definition.specs.Io.{marked, delivered, put_bytes, first_free, drained}
use Rattle.definition.specs.Timer.{timed}
use Rattle.definition.specs.Exception.{stop_number, stop_detail}
use Rattle.definition.specs.Exec.{core}
use Rattle.definition.specs.Runtime.{Machine, machine, Run, run, Outcome, completed, stopped, recover, limit}

-- ---- the row

-- The row's number at place i, from 1.
abbrev pub at : ℕ → List ℤ → ℤ
at i row = get_or row (i - 1) (pos 0)

abbrev pub put : ℕ → ℤ → List ℤ → List ℤ
put i z row = set row (i - 1) z

abbrev pub cell_of_row : ℕ → List ℤ → Cell
cell_of_row i row = cell (at i row) (at (i + 1) row) (at (i + 2) row)

abbrev pub number_of_row : ℕ → List ℤ → ℕ
number_of_row i row = nat_abs (at i row)

abbrev pub mark_of_row : ℕ → List ℤ → Bool
mark_of_row i row = eq_z (at i row) (pos 1)

abbrev pub mark : Bool → ℤ
mark true = pos 1
mark false = pos 0

-- "Row of 16 numbers: a (3), b (3), pc, sp, sr, cycles (0 to 2^63 - 1), enable, flag, pending (each 0 or 1), queue start (below the queue's
-- length), queue count, output count (each at most its buffer's length)."
unfoldable pub machine_of : List ℤ → List ℕ → List ℕ → List ℤ → Machine
machine_of cells queue output row =
    machine
    (core cells (record { a = cell_of_row ROW-A row; b = cell_of_row ROW-B row; pc = number_of_row ROW-PC row; sp = number_of_row ROW-SP row; sr = at ROW-SR row; empties = 0 }))
    (number_of_row ROW-CYCLES row)
    (record { marks = marked (mark_of_row ROW-ENABLE row) (mark_of_row ROW-FLAG row) (mark_of_row ROW-PENDING row); queue = queue; start = number_of_row ROW-START row; count = number_of_row ROW-COUNT row; output = output; written = number_of_row ROW-WRITTEN row })
    (number_of_row ROW-FENCE row)
    (timed (number_of_row ROW-INTERVAL row) (number_of_row ROW-REMAINING row) (mark_of_row ROW-MARK row))

unfoldable pub row_of : Machine → List ℤ
row_of m =
    let s = m.core.regs in
    let k = m.console in
    s.a.tag ∷ s.a.first ∷ s.a.second ∷ s.b.tag ∷ s.b.first ∷ s.b.second ∷ pos s.pc ∷ pos s.sp ∷ s.sr ∷ pos m.cycles ∷ mark k.marks.enable ∷ mark k.marks.flag ∷ mark k.marks.pending ∷ pos k.start ∷ pos k.count ∷ pos k.written ∷ pos m.fence ∷ pos m.timer.interval ∷ pos m.timer.remaining ∷ mark m.timer.mark ∷ []

-- ---- what is turned back (document 01's term): a test, and the number and place given where it fails

pub record Test : Type 0 where
  pub passed : Bool
  pub number : ℕ
  pub place : ℕ

abbrev pub test : ℕ → ℕ → Bool → Test
test n p b = record { passed = b; number = n; place = p }

-- Number and place of a refusal, 0 and 0 where there is none.
abbrev pub done : ℕ → ℕ → Done
done n p = record { refusal = n; place = p }

abbrev pub accepted : Done
accepted = done 0 0

-- "A refusal gives number and place": those of the first test that fails.
unfoldable pub verdict : List Test → Done
verdict [] = accepted
verdict (t ∷ ts) = cond t.passed (verdict ts) (done t.number t.place)

abbrev pub passes : Done → Bool
passes d = eqb d.refusal 0

-- 0 to n - 1
unfoldable pub is_below : ℕ → ℤ → Bool
is_below n (pos k) = ltb k n
is_below n (negsuc k) = false

unfoldable pub is_mark : ℤ → Bool
is_mark z = eq_z z (pos 0) || eq_z z (pos 1)

-- The lowest address of a damaged cell, from n on, or else the address past the last cell.
unfoldable pub lowest_damaged : ℕ → List ℤ → ℕ
lowest_damaged n [] = n
lowest_damaged n (t ∷ []) = n
lowest_damaged n (t ∷ f ∷ []) = n
lowest_damaged n (t ∷ f ∷ s ∷ l) = cond (sound (cell t f s)) (lowest_damaged (suc n) l) n

-- "1. The cells are not 3 numbers each for 256 to 10,000 cells."
unfoldable pub cells_test : List ℤ → Test
cells_test cells =
    test 1 0 (eqb (length cells % 3) 0 && (leb CELLS-LEAST (cell_count cells) && leb (cell_count cells) CELLS-MOST))

-- "2. The queue is not 1 to 4,096 bytes."
unfoldable pub queue_test : List ℕ → Test
queue_test queue = test 2 0 (leb 1 (length queue) && leb (length queue) QUEUE-MOST)

-- "3. The output record is over 65,536 bytes."
unfoldable pub output_test : List ℕ → Test
output_test output = test 3 0 (leb (length output) OUTPUT-MOST)

-- "4. The row is not 16 long", with the fence 17, and with the timer "20 numbers"
unfoldable pub length_test : List ℤ → Test
length_test row = test 4 0 (eqb (length row) ROW)

-- "or its number at this place (from 1, the lowest such) is out of range; a damaged a or b counts at place 1 or 4." The queue has q places,
-- the output record o, and there are n cells. "sr any word": no test.
unfoldable pub row_tests : ℕ → ℕ → ℕ → List ℤ → List Test
row_tests q o n row =
    length_test row
    ∷ test 4 ROW-A (sound (cell_of_row ROW-A row))
    ∷ test 4 ROW-B (sound (cell_of_row ROW-B row))
    ∷ test 4 ROW-PC (is_address (address_of (at ROW-PC row)))
    ∷ test 4 ROW-SP (is_address (address_of (at ROW-SP row)))
    ∷ test 4 ROW-CYCLES (is_below CYCLES-END (at ROW-CYCLES row))
    ∷ test 4 ROW-ENABLE (is_mark (at ROW-ENABLE row))
    ∷ test 4 ROW-FLAG (is_mark (at ROW-FLAG row))
    ∷ test 4 ROW-PENDING (is_mark (at ROW-PENDING row))
    ∷ test 4 ROW-START (is_below q (at ROW-START row))
    ∷ test 4 ROW-COUNT (is_below (suc q) (at ROW-COUNT row))
    ∷ test 4 ROW-WRITTEN (is_below (suc o) (at ROW-WRITTEN row))
    ∷ test 4 ROW-FENCE (is_below (suc n) (at ROW-FENCE row))
    ∷ test 4 ROW-INTERVAL (is_below CYCLES-END (at ROW-INTERVAL row))
    ∷ test 4 ROW-REMAINING (is_below (suc (number_of_row ROW-INTERVAL row)) (at ROW-REMAINING row))
    ∷ test 4 ROW-MARK (is_mark (at ROW-MARK row))
    ∷ []

-- "5. The cell at this lowest address is damaged"
unfoldable pub damage_test : List ℤ → Test
damage_test cells = test 5 (lowest_damaged 0 cells) (eqb (lowest_damaged 0 cells) (cell_count cells))

-- ---- the calls

-- What a call answers, and what it leaves of the things lent.
pub record Called (A : Type 0) (L : Type 0) : Type 0 where
  pub answer : A
  pub left : L

abbrev pub called : {A L : Type 0} → A → L → Called A L
called a l = record { answer = a; left = l }

-- The answers, each with its verdict: stop, detail, steps and empty reads of run, stop and detail of raise, the count drained, the cell read.
abbrev pub answer : Done → ℕ → ℕ → ℕ → ℕ → Ran
answer d n k s t = record { refusal = d.refusal; place = d.place; stop = n; detail = k; steps = s; empty = t }

abbrev pub raise_answer : Done → ℕ → ℕ → Raised
raise_answer d n k = record { refusal = d.refusal; place = d.place; stop = n; detail = k }

abbrev pub drain_answer : Done → ℕ → Drained
drain_answer d n = record { refusal = d.refusal; place = d.place; count = n }

abbrev pub read_answer : Done → Cell → CellRead
read_answer d v = record { refusal = d.refusal; place = d.place; tag = v.tag; first = v.first; second = v.second }

-- "fresh (all empty, row 0; cells, row)". "Fresh tests lengths only, never the row's old numbers."
unfoldable pub fresh_check : List ℤ → List ℤ → Done
fresh_check cells row = verdict (cells_test cells ∷ length_test row ∷ [])

unfoldable pub fresh : List ℤ → List ℤ → Called Done (List ℤ × List ℤ)
fresh cells row =
    cond
    (passes (fresh_check cells row))
    (called accepted (replicate (length cells) (pos 0), replicate ROW (pos 0)))
    (called (fresh_check cells row) (cells, row))

-- Everything that run is lent.
pub record Lent : Type 0 where
  pub cells : List ℤ
  pub queue : List ℕ
  pub output : List ℕ
  pub row : List ℤ

abbrev pub lent : List ℤ → List ℕ → List ℕ → List ℤ → Lent
lent c q o r = record { cells = c; queue = q; output = o; row = r }

abbrev pub lent_machine : Lent → Machine
lent_machine l = machine_of l.cells l.queue l.output l.row

abbrev pub lent_of : Machine → Lent
lent_of m = lent m.core.cells m.console.queue m.console.output (row_of m)

unfoldable pub run_check : Lent → Done
run_check l =
    verdict (cells_test l.cells ∷ queue_test l.queue ∷ output_test l.output ∷ (row_tests (length l.queue) (length l.output) (cell_count l.cells) l.row ++ damage_test l.cells ∷ []))

unfoldable pub ran : Run → Called Ran Lent
ran r = called (answer accepted r.stop r.detail r.steps r.empty) (lent_of r.left)

unfoldable pub run_refused : Done → Lent → Called Ran Lent
run_refused d l = called (answer d 0 0 0 0) l

-- "run (cells, queue, output, row)"
unfoldable pub run_call : ℕ → Lent → Called Ran Lent
run_call budget l = cond (passes (run_check l)) (ran (run budget (lent_machine l))) (run_refused (run_check l) l)

-- "deliver (queue, row)". "6. Delivered bytes exceed the queue's free places."
unfoldable pub deliver_check : List ℕ → List ℤ → List ℕ → Done
deliver_check queue row bytes =
    verdict (queue_test queue ∷ (row_tests (length queue) OUTPUT-MOST CELLS-MOST row ++ test 6 0 (leb (number_of_row ROW-COUNT row + length bytes) (length queue)) ∷ []))

unfoldable pub delivered_row : ℕ → List ℤ → List ℤ
delivered_row n row =
    let k = delivered n (marked (mark_of_row ROW-ENABLE row) (mark_of_row ROW-FLAG row) (mark_of_row ROW-PENDING row)) in
    put ROW-COUNT (pos (number_of_row ROW-COUNT row + n)) (put ROW-PENDING (mark k.pending) (put ROW-FLAG (mark k.flag) row))

unfoldable pub deliver : List ℕ → List ℤ → List ℕ → Called Done (List ℕ × List ℤ)
deliver queue row bytes =
    cond
    (passes (deliver_check queue row bytes))
    (called accepted (put_bytes (first_free queue (number_of_row ROW-START row) (number_of_row ROW-COUNT row)) bytes queue, delivered_row (length bytes) row))
    (called (deliver_check queue row bytes) (queue, row))

-- "drain (output, row)". "7. The drain buffer is shorter than the output count."
unfoldable pub drain_check : List ℕ → List ℤ → List ℕ → Done
drain_check output row buffer =
    verdict (output_test output ∷ (row_tests QUEUE-MOST (length output) CELLS-MOST row ++ test 7 0 (leb (number_of_row ROW-WRITTEN row) (length buffer)) ∷ []))

-- "answers their count and sets the count to 0"
unfoldable pub drain : List ℕ → List ℤ → List ℕ → Called Drained (List ℤ × List ℕ)
drain output row buffer =
    let d = drain_check output row buffer in
    cond
    (passes d)
    (called (drain_answer accepted (number_of_row ROW-WRITTEN row)) (put ROW-WRITTEN (pos 0) row, drained (number_of_row ROW-WRITTEN row) output buffer))
    (called (drain_answer d 0) (row, buffer))

-- "a cell read [checks] only its own". "8. The cell address or image start is outside the cells." A cell outside has no own cell to be 5.
unfoldable pub read_check : List ℤ → ℕ → Done
read_check cells n =
    verdict (cells_test cells ∷ test 5 n (sound (cell_at cells n) || leb (cell_count cells) n) ∷ test 8 0 (ltb n (cell_count cells)) ∷ [])

-- "read a cell [...] (cells)"
unfoldable pub read_cell : List ℤ → ℕ → CellRead
read_cell cells n =
    cond (passes (read_check cells n)) (read_answer accepted (cell_at cells n)) (read_answer (read_check cells n) empty)

-- "9. The image is no whole number of cells, runs past the end, or holds a damaged cell."
unfoldable pub load_check : List ℤ → List ℤ → ℕ → Done
load_check cells image start =
    verdict (
    cells_test cells
    ∷ test 8 0 (ltb start (cell_count cells))
    ∷ test 9 0 (eqb (length image % 3) 0 && (leb (start + cell_count image) (cell_count cells) && eqb (lowest_damaged 0 image) (cell_count image)))
    ∷ []
    )

-- The image in the cells' places from 3 × start on.
unfoldable pub loaded : ℕ → List ℤ → List ℤ → List ℤ
loaded start image cells = take (3 * start) cells ++ image ++ drop (3 * start + length image) cells

-- "load an image (cells)". "An image is copied into the cells from any start cell; an empty image changes nothing."
unfoldable pub load : List ℤ → List ℤ → ℕ → Called Done (List ℤ)
load cells image start =
    cond (passes (load_check cells image start)) (called accepted (loaded start image cells)) (called (load_check cells image start) cells)

-- "10. The register is not a, b, pc or sp, or pc or sp would be no address."
unfoldable pub is_settable : ℕ → ℤ → Bool
is_settable r w = ltb r 2 || (ltb r 4 && is_address (address_of w))

unfoldable pub set_register_check : List ℤ → ℕ → ℤ → Done
set_register_check row r w = verdict (row_tests QUEUE-MOST OUTPUT-MOST CELLS-MOST row ++ test 10 0 (is_settable r w) ∷ [])

abbrev pub put_cell_of_row : ℕ → Cell → List ℤ → List ℤ
put_cell_of_row i v row = put (i + 2) v.second (put (i + 1) v.first (put i v.tag row))

-- "a, b, pc, sp may be set to a word, sr not"
unfoldable pub with_register : ℕ → ℤ → List ℤ → List ℤ
with_register zero w row = put_cell_of_row ROW-A (word w) row
with_register (suc zero) w row = put_cell_of_row ROW-B (word w) row
with_register (suc (suc zero)) w row = put ROW-PC w row
with_register (suc (suc (suc r))) w row = put ROW-SP w row

unfoldable pub set_register : List ℤ → ℕ → ℤ → Called Done (List ℤ)
set_register row r w =
    cond (passes (set_register_check row r w)) (called accepted (with_register r w row)) (called (set_register_check row r w) row)

-- "11. The raised code is not 0 to 5."
unfoldable pub raise_check : List ℤ → List ℤ → ℕ → Done
raise_check cells row code =
    verdict (cells_test cells ∷ (row_tests QUEUE-MOST OUTPUT-MOST (cell_count cells) row ++ damage_test cells ∷ test 11 0 (leb code 5) ∷ []))

-- The machine of a call that is lent neither queue nor output record.
abbrev pub quiet_machine : List ℤ → List ℤ → Machine
quiet_machine cells row = machine_of cells [] [] row

unfoldable pub raised : List ℤ → List ℤ → Outcome → Called Raised (List ℤ × List ℤ)
raised cells row (completed m) =
    called (raise_answer accepted 0 0) (m.core.cells, row_of m)
raised cells row (stopped s m) = called (raise_answer accepted (stop_number s) (stop_detail s)) (cells, row)

-- "Raise is `recover_from_exception` and, added, its one cycle: done, or stop 2, or stop 7."
unfoldable pub raise : List ℤ → List ℤ → ℕ → Called Raised (List ℤ × List ℤ)
raise cells row code =
    let d = raise_check cells row code in
    let m = quiet_machine cells row in
    cond
    (passes d)
    (raised cells row (limit m (recover code m)))
    (called (raise_answer d 0 0) (cells, row))

-- ---- lists of calls of run

-- "each is lent everything as the last one left it"
unfoldable pub calls : List ℕ → Lent → Lent
calls [] l = l
calls (n ∷ ns) l = calls ns (run_call n l).left

-- What each of them answers.
unfoldable pub answers : List ℕ → Lent → List Ran
answers [] l = []
answers (n ∷ ns) l = (run_call n l).answer ∷ answers ns (run_call n l).left

-- S in the row's sr.
unfoldable pub lent_supervisor : Lent → Bool
lent_supervisor l = bit SUPERVISOR (at ROW-SR l.row)
