-- "Step back" (document 02, Card 11): what is proved of it.
use Rattle.std.specs.Prelude.{◌≡◌, ◌≢◌, true, not, cond, ◌||◌, List, [], ◌∷◌, ℕ, zero, suc, ◌+◌, ◌<◌, ◌≤◌, ℤ, length, get_or, take, eqb}
use Rattle.definition.specs.declared.Cell.{Cell}
use Rattle.definition.specs.declared.Error.TheVariants.{InvalidMemoryAccess}
use Rattle.definition.specs.declared.Stop.{Stop}
use Rattle.definition.specs.declared.Stop.TheVariants.{OutputFull, CyclesFull}
use Rattle.definition.specs.Exception.{BUDGET-SPENT}
use Rattle.definition.specs.Constants.{QUEUE-MOST, OUTPUT-MOST}
use Rattle.definition.specs.Memory.{cell_count, cell_at, put_cell}
use Rattle.definition.specs.Exec.{Core, Res, ok, err}
use Rattle.definition.specs.Runtime.{Machine, attempt, Outcome, completed, stopped, step, uncounted}
use Rattle.definition.specs.Calls.{row_of, row_tests, accepted, verdict, passes, Called, called, Lent, lent, lent_machine, lent_of, run_call, calls, fresh, deliver, drain, load, set_register, raise}
use Rattle.definition.specs.UserMode.{Accepted}
use Rattle.definition.specs.Accepted.{Sound}
use Rattle.journal.specs.Writes.{Held, held_at, instruction_writes, step_writes}
use Rattle.journal.specs.Journal.{WRITES-MOST, RECORD, count_of, with_start, records, newest, remember, whole_records, is_journal, begins, begun, step_record, noted, journal}
use Rattle.journal.specs.Calls.{run_journal, emptied, fresh_journal, deliver_journal, drain_journal, load_journal, set_register_journal, raise_journal, Backward, backward, back}

-- ---- the cells that a step writes

-- The cells as an instruction leaves them, whatever it ends with.
abbrev pub cells_of : {X : Type 0} → Res X → List ℤ
cells_of (ok v c) = c.cells
cells_of (err e c) = c.cells

-- The instruction at pc writes h where g is the first address that the step may write.
pub record Wrote (g : ℕ) (c : Core) (h : Held) : Type 0 where
  pub what : h ≡ held_at c.cells h.address
  pub inside : h.address < cell_count c.cells
  pub allowed : g ≤ h.address
  -- that cell and no other
  pub cells : (v : Cell) × (cells_of (attempt g c) ≡ put_cell c.cells h.address v)
  -- "A write [...] to an address below the fence raises code 5 and leaves that cell": so it is this address that a fence protects.
  pub fenced : (f : ℕ) → h.address < f → (d : Core) × ((attempt f c ≡ err InvalidMemoryAccess d) × (d.cells ≡ c.cells))

pub record OneWrite (g : ℕ) (c : Core) : Type 0 where
  pub few : length (instruction_writes g c) ≤ 1
  pub one : (h : Held) → instruction_writes g c ≡ h ∷ [] → Wrote g c h
  -- Where it writes none, the cells stay, and a higher fence changes nothing.
  pub none : instruction_writes g c ≡ [] → cells_of (attempt g c) ≡ c.cells
  pub free : instruction_writes g c ≡ [] → (f : ℕ) → g ≤ f → attempt f c ≡ attempt g c

-- "four times address and cell": no step writes more.
abbrev pub FourAtMost : Type 0
FourAtMost = (m : Machine) → length (step_writes m) ≤ WRITES-MOST

-- ---- the ring

-- "A full journal forgets its oldest step", and nothing else.
pub record Remembers (r j : List ℤ) : Type 0 where
  pub fits : is_journal (remember r j) ≡ true
  pub size : records (remember r j) ≡ records j
  pub last : newest 0 (remember r j) ≡ r
  pub older : (i : ℕ) → i < count_of j → suc i < records j → newest (suc i) (remember r j) ≡ newest i j
  pub more : count_of j < records j → count_of (remember r j) ≡ suc (count_of j)
  pub full : count_of j ≡ records j → count_of (remember r j) ≡ records j

abbrev pub Ring : Type 0
Ring = (r j : List ℤ) → is_journal j ≡ true → length r ≡ RECORD → Remembers r j

-- "keeps, for every step begun [...]; stops 6 and 7 begin no step"
pub record Notes (m : Machine) (j : List ℤ) : Type 0 where
  pub completes : (w : Machine) → step m ≡ completed w → noted m j ≡ remember (step_record m) j
  pub stops : (s : Stop) (w : Machine) → step m ≡ stopped s w → s ≢ OutputFull → s ≢ CyclesFull → noted m j ≡ remember (step_record m) j
  pub stop_6 : (w : Machine) → step m ≡ stopped OutputFull w → noted m j ≡ j
  pub stop_7 : (w : Machine) → step m ≡ stopped CyclesFull w → noted m j ≡ j

-- ---- going back

-- The machines before the steps that a run begins, that of the last step first, and behind them those of h.
unfoldable pub go_on_past : Outcome → List Machine → (Machine → List Machine → List Machine) → List Machine
go_on_past (completed w) h k = k (uncounted w) h
go_on_past (stopped s w) h k = h

unfoldable pub past : ℕ → Machine → List Machine → List Machine
past zero m h = h
past (suc n) m h = go_on_past (step m) (cond (begun (step m)) (m ∷ h) h) (past n)

-- They are the machines that the runs on smaller budgets leave, and as many as the run completed steps, with one that stopped, if one did.
pub record Past (n : ℕ) (l : Lent) : Type 0 where
  pub each : (i k : ℕ) → suc i + k ≡ length (past n (lent_machine l) []) → lent_of (get_or (past n (lent_machine l) []) i (lent_machine l)) ≡ (run_call k l).left
  pub many : length (past n (lent_machine l) []) ≡ (run_call n l).answer.steps + cond (eqb (run_call n l).answer.stop BUDGET-SPENT || not (begins (run_call n l).answer.stop)) 0 1

-- Of a list of runs, one after another.
unfoldable pub pasts : List ℕ → Lent → List Machine → List Machine
pasts [] l h = h
pasts (n ∷ ns) l h = pasts ns (run_call n l).left (past n (lent_machine l) h)

-- A list of runs with a journal.
unfoldable pub runs_journal : List ℕ → Lent → List ℤ → Lent × List ℤ
runs_journal [] l j = (l, j)
runs_journal (n ∷ ns) l j = let c = run_journal n l j in runs_journal ns c.left.0 c.left.1

-- i calls of going back
unfoldable pub backs : ℕ → Backward → Backward
backs zero b = b
backs (suc i) b = backs i (back b).left

abbrev pub SoundCells : List ℤ → Type 0
SoundCells l = (n : ℕ) → n < cell_count l → Sound (cell_at l n)

-- What going back is lent after a list of runs.
abbrev pub left : Lent × List ℤ → Backward
left x = backward x.0.cells x.0.row x.1

-- "restores row, cells, unread queue and counted output from before them exactly": those of m. Going back is not lent queue and output, whose
-- bytes are l's: of the queue, all are m's, so that the unread ones are again those from the row's queue start on.
pub record Restored (b : Backward) (l : Lent) (m : Machine) : Type 0 where
  pub cells : b.cells ≡ m.core.cells
  pub row : b.row ≡ row_of m
  pub queue : l.queue ≡ m.console.queue
  pub output : take m.console.written l.output ≡ take m.console.written m.console.output
  -- A run from there is not refused.
  pub accepted : Accepted (lent b.cells l.queue l.output b.row)

pub record GoesBack (ns : List ℕ) (l : Lent) (j : List ℤ) : Type 0 where
  -- No run is refused, and the machine is that of the runs without a journal.
  pub runs : (runs_journal ns l j).0 ≡ calls ns l
  pub fits : is_journal (runs_journal ns l j).1 ≡ true
  -- Every step of these runs is kept, as far as there is room.
  pub kept : (i : ℕ) → i < length (pasts ns l []) → i < records j → i < count_of (runs_journal ns l j).1
  -- "Going back over n kept steps, stopping ones included": going back once more than i times is not refused, and gives the machine before
  -- the step that was begun as the last but i.
  pub done : (i : ℕ) → i < length (pasts ns l []) → i < records j → (back (backs i (left (runs_journal ns l j)))).answer ≡ accepted
  pub restored : (i : ℕ) → i < length (pasts ns l []) → i < records j → Restored (backs (suc i) (left (runs_journal ns l j))) (runs_journal ns l j).0 (get_or (pasts ns l []) i (lent_machine l))

abbrev pub StepBack : Type 0
StepBack = (ns : List ℕ) (l : Lent) (j : List ℤ) → Accepted l → is_journal j ≡ true → GoesBack ns l j

-- Whatever the journal holds ("A journal that missed a call or write, or is another machine's, restores only what it holds"): going back that
-- is not refused leaves a row, cells and a journal that no call refuses by 1, 4, 5 or 20, queue and output record aside.
pub record BackLeaves (b : Backward) : Type 0 where
  pub row : passes (verdict (row_tests QUEUE-MOST OUTPUT-MOST (cell_count (back b).left.cells) (back b).left.row)) ≡ true
  pub size : length (back b).left.cells ≡ length b.cells
  pub undamaged : SoundCells b.cells → SoundCells (back b).left.cells
  pub journal : is_journal (back b).left.journal ≡ true
  pub count : count_of b.journal ≡ suc (count_of (back b).left.journal)

abbrev pub NoDamage : Type 0
NoDamage = (b : Backward) → (back b).answer.refusal ≡ 0 → BackLeaves b

-- ---- the calls with a journal

-- "`z33_run_journal` answers exactly what `z33_run` answers and leaves the same machine."
abbrev pub SameRun : Type 0
SameRun =
    (n : ℕ) (l : Lent) (j : List ℤ) → Accepted l → is_journal j ≡ true → run_journal n l j ≡ called (run_call n l).answer ((run_call n l).left, journal n (lent_machine l) j)

-- Not refused, a call c answers what it answers without a journal and leaves that beside the journal j.
pub record LeavesBoth {A L : Type 0} (c : Called A (L × List ℤ)) (d : Called A L) (j : List ℤ) : Type 0 where
  pub answer : c.answer ≡ d.answer
  pub lent : c.left.0 ≡ d.left
  pub journal : c.left.1 ≡ j

-- "it gets count 0 unless refused and keeps the rest"; fresh "sets start 0 too"
pub record Empties : Type 0 where
  pub by_fresh : (cells row j : List ℤ) → (fresh_journal cells row j).answer.refusal ≡ 0 → LeavesBoth (fresh_journal cells row j) (fresh cells row) (with_start 0 (emptied j))
  pub by_deliver : (queue : List ℕ) (row : List ℤ) (bytes : List ℕ) (j : List ℤ) → (deliver_journal queue row bytes j).answer.refusal ≡ 0 → LeavesBoth (deliver_journal queue row bytes j) (deliver queue row bytes) (emptied j)
  pub by_drain : (output : List ℕ) (row : List ℤ) (buffer : List ℕ) (j : List ℤ) → (drain_journal output row buffer j).answer.refusal ≡ 0 → LeavesBoth (drain_journal output row buffer j) (drain output row buffer) (emptied j)
  pub by_load : (cells image : List ℤ) (start : ℕ) (j : List ℤ) → (load_journal cells image start j).answer.refusal ≡ 0 → LeavesBoth (load_journal cells image start j) (load cells image start) (emptied j)
  pub by_set_register : (row : List ℤ) (r : ℕ) (w : ℤ) (j : List ℤ) → (set_register_journal row r w j).answer.refusal ≡ 0 → LeavesBoth (set_register_journal row r w j) (set_register row r w) (emptied j)
  pub by_raise : (cells row : List ℤ) (code : ℕ) (j : List ℤ) → (raise_journal cells row code j).answer.refusal ≡ 0 → LeavesBoth (raise_journal cells row code j) (raise cells row code) (emptied j)

-- What they leave is a journal again, with nothing kept.
pub record Emptied : Type 0 where
  pub by_fresh : (j : List ℤ) → whole_records j ≡ true → is_journal (with_start 0 (emptied j)) ≡ true
  pub by_others : (j : List ℤ) → is_journal j ≡ true → is_journal (emptied j) ≡ true
  pub none_kept : (j : List ℤ) → count_of (emptied j) ≡ 0

-- "A refusal gives number and place [...] and changes nothing."
pub record RefusedKeeps : Type 0 where
  pub run_keeps : (budget : ℕ) (l : Lent) (j : List ℤ) → (run_journal budget l j).answer.refusal ≢ 0 → (run_journal budget l j).left ≡ (l, j)
  pub fresh_keeps : (cells row j : List ℤ) → (fresh_journal cells row j).answer.refusal ≢ 0 → (fresh_journal cells row j).left ≡ ((cells, row), j)
  pub deliver_keeps : (queue : List ℕ) (row : List ℤ) (bytes : List ℕ) (j : List ℤ) → (deliver_journal queue row bytes j).answer.refusal ≢ 0 → (deliver_journal queue row bytes j).left ≡ ((queue, row), j)
  pub drain_keeps : (output : List ℕ) (row : List ℤ) (buffer : List ℕ) (j : List ℤ) → (drain_journal output row buffer j).answer.refusal ≢ 0 → (drain_journal output row buffer j).left ≡ ((row, buffer), j)
  pub load_keeps : (cells image : List ℤ) (start : ℕ) (j : List ℤ) → (load_journal cells image start j).answer.refusal ≢ 0 → (load_journal cells image start j).left ≡ (cells, j)
  pub set_register_keeps : (row : List ℤ) (r : ℕ) (w : ℤ) (j : List ℤ) → (set_register_journal row r w j).answer.refusal ≢ 0 → (set_register_journal row r w j).left ≡ (row, j)
  pub raise_keeps : (cells row : List ℤ) (code : ℕ) (j : List ℤ) → (raise_journal cells row code j).answer.refusal ≢ 0 → (raise_journal cells row code j).left ≡ ((cells, row), j)
  pub back_keeps : (b : Backward) → (back b).answer.refusal ≢ 0 → (back b).left ≡ b
