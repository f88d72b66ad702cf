-- What an accepted machine is, what holds of every call of run, in either mode, and of every refused call. The proofs are proofs/Row,
-- proofs/Accepted and proofs/Refused.
use Rattle.std.specs.Prelude.{◌≡◌, ◌≢◌, true, List, ℕ, suc, ◌*◌, ◌%◌, ◌^◌, ◌<◌, ◌≤◌, ℤ, pos, nat_abs, length}
use Rattle.definition.specs.declared.Cell.{Cell}
use Rattle.definition.specs.declared.Timer.{Timer}
use Rattle.definition.specs.Constants.{CELLS-LEAST, CELLS-MOST, QUEUE-MOST, OUTPUT-MOST, CYCLES-END, ROW, ROW-A, ROW-B, ROW-PC, ROW-SP, ROW-CYCLES, ROW-ENABLE, ROW-FLAG, ROW-PENDING, ROW-START, ROW-COUNT, ROW-WRITTEN, ROW-FENCE, ROW-INTERVAL, ROW-REMAINING, ROW-MARK}
use Rattle.definition.specs.Word.{eq_z}
use Rattle.definition.specs.Memory.{cell_count, cell_at}
use Rattle.definition.specs.Encoding.{sound}
use Rattle.definition.specs.Io.{Console}
use Rattle.definition.specs.Exec.{Core}
use Rattle.definition.specs.Runtime.{Machine}
use Rattle.definition.specs.Calls.{at, cell_of_row, number_of_row, mark, lowest_damaged, Lent, run_call, fresh, deliver, drain, load, set_register, raise}
use Rattle.definition.specs.UserMode.{Accepted}

-- ---- an accepted machine: what the tests of run say, as facts

-- "An address is a word 0 to 4,294,967,295."
abbrev pub Addr : ℕ → Type 0
Addr n = n < 2 ^ 32

abbrev pub Sound : Cell → Type 0
Sound v = sound v ≡ true

-- 0 to n - 1
abbrev pub Below : ℕ → ℤ → Type 0
Below n z = (z ≡ pos (nat_abs z)) × (nat_abs z < n)

abbrev pub IsMark : ℤ → Type 0
IsMark z = mark (eq_z z (pos 1)) ≡ z

-- The row's tests with q places in the queue, o in the output record and n cells, passed.
pub record RowFits (q o n : ℕ) (row : List ℤ) : Type 0 where
  pub long : length row ≡ ROW
  pub a_sound : Sound (cell_of_row ROW-A row)
  pub b_sound : Sound (cell_of_row ROW-B row)
  pub pc : Below (2 ^ 32) (at ROW-PC row)
  pub sp : Below (2 ^ 32) (at ROW-SP row)
  pub cycles : Below CYCLES-END (at ROW-CYCLES row)
  pub enable : IsMark (at ROW-ENABLE row)
  pub flag : IsMark (at ROW-FLAG row)
  pub pending : IsMark (at ROW-PENDING row)
  pub start : Below q (at ROW-START row)
  pub count : Below (suc q) (at ROW-COUNT row)
  pub written : Below (suc o) (at ROW-WRITTEN row)
  pub fence : Below (suc n) (at ROW-FENCE row)
  pub interval : Below CYCLES-END (at ROW-INTERVAL row)
  pub remaining : Below (suc (number_of_row ROW-INTERVAL row)) (at ROW-REMAINING row)
  pub mark : IsMark (at ROW-MARK row)

-- The cells' and the queue's lengths.
pub record CellsFit (cells : List ℤ) : Type 0 where
  pub three : length cells % 3 ≡ 0
  pub least : CELLS-LEAST ≤ cell_count cells
  pub most : cell_count cells ≤ CELLS-MOST

pub record QueueFits (queue : List ℕ) : Type 0 where
  pub least : 1 ≤ length queue
  pub most : length queue ≤ QUEUE-MOST

-- All tests of run.
pub record RunPassed (l : Lent) : Type 0 where
  pub cells_fit : CellsFit l.cells
  pub queue_fits : QueueFits l.queue
  pub output_most : length l.output ≤ OUTPUT-MOST
  pub row_fits : RowFits (length l.queue) (length l.output) (cell_count l.cells) l.row
  pub undamaged : lowest_damaged 0 l.cells ≡ cell_count l.cells

-- The machine that such lent things hold, with the fence f.
pub record AcceptedCore (f : ℕ) (c : Core) : Type 0 where
  pub three : length c.cells ≡ 3 * cell_count c.cells
  pub low : CELLS-LEAST ≤ cell_count c.cells
  pub high : cell_count c.cells ≤ CELLS-MOST
  pub fenced : f ≤ cell_count c.cells
  pub pc_a : Addr c.regs.pc
  pub sp_a : Addr c.regs.sp
  pub a_s : Sound c.regs.a
  pub b_s : Sound c.regs.b
  pub cells_s : (n : ℕ) → n < cell_count c.cells → Sound (cell_at c.cells n)

pub record ConsoleIn (k : Console) : Type 0 where
  pub some : 1 ≤ length k.queue
  pub few : length k.queue ≤ QUEUE-MOST
  pub small : length k.output ≤ OUTPUT-MOST
  pub start_in : k.start < length k.queue
  pub count_in : k.count ≤ length k.queue
  pub written_in : k.written ≤ length k.output

pub record TimerIn (t : Timer) : Type 0 where
  pub interval_in : t.interval < CYCLES-END
  pub remaining_in : t.remaining ≤ t.interval

pub record AcceptedMachine (m : Machine) : Type 0 where
  pub core_in : AcceptedCore m.fence m.core
  pub cycles_in : m.cycles < CYCLES-END
  pub console_in : ConsoleIn m.console
  pub timer_in : TimerIn m.timer
  -- Between steps nothing is counted: the row has no place for it.
  pub none_counted : m.core.regs.empties ≡ 0

-- ---- calls of run

pub record RunLaws (budget : ℕ) (l : Lent) : Type 0 where
  -- A run of an accepted machine leaves an accepted machine.
  pub stays : Accepted (run_call budget l).left
  -- "a run takes no more steps than its budget"
  pub within : (run_call budget l).answer.steps ≤ budget
  -- "0 is given exactly when steps equals the budget"
  pub spent : (run_call budget l).answer.stop ≡ 0 → (run_call budget l).answer.steps ≡ budget
  pub whole : (run_call budget l).answer.steps ≡ budget → (run_call budget l).answer.stop ≡ 0

abbrev pub RunsAccepted : Type 0
RunsAccepted = (budget : ℕ) (l : Lent) → Accepted l → RunLaws budget l

-- ---- refused calls

-- "A refusal gives number and place [...] and changes nothing." (A cell read is lent nothing that it could change.)
pub record RefusedKeeps : Type 0 where
  pub fresh_keeps : (cells row : List ℤ) → (fresh cells row).answer.refusal ≢ 0 → (fresh cells row).left ≡ (cells, row)
  pub run_keeps : (budget : ℕ) (l : Lent) → (run_call budget l).answer.refusal ≢ 0 → (run_call budget l).left ≡ l
  pub deliver_keeps : (queue : List ℕ) (row : List ℤ) (bytes : List ℕ) → (deliver queue row bytes).answer.refusal ≢ 0 → (deliver queue row bytes).left ≡ (queue, row)
  pub drain_keeps : (output : List ℕ) (row : List ℤ) (buffer : List ℕ) → (drain output row buffer).answer.refusal ≢ 0 → (drain output row buffer).left ≡ (row, buffer)
  pub load_keeps : (cells image : List ℤ) (start : ℕ) → (load cells image start).answer.refusal ≢ 0 → (load cells image start).left ≡ cells
  pub set_register_keeps : (row : List ℤ) (r : ℕ) (w : ℤ) → (set_register row r w).answer.refusal ≢ 0 → (set_register row r w).left ≡ row
  pub raise_keeps : (cells row : List ℤ) (code : ℕ) → (raise cells row code).answer.refusal ≢ 0 → (raise cells row code).left ≡ (cells, row)
  -- A raise that stops is no refusal and changes nothing.
  pub raise_stops : (cells row : List ℤ) (code : ℕ) → (raise cells row code).answer.stop ≢ 0 → (raise cells row code).left ≡ (cells, row)
