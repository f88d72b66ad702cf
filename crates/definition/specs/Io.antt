-- io.rs: the serial console on ports 110 and 111. "`VecDeque` and `Vec`: lent bytes and counts."
use Rattle.std.specs.Prelude.{Bool, true, false, cond, ◌&&◌, List, [], ◌∷◌, ◌++◌, ℕ, suc, ◌+◌, ◌-◌, ℤ, length, get_or, set, take, drop, ltb, leb, eqb}
use Rattle.definition.specs.declared.Marks.{Marks}
use Rattle.definition.specs.Constants.{SERIAL-STATUS-PORT, SERIAL-DATA-PORT}
use Rattle.definition.specs.Word.{bit, low_byte}

-- "The console is enable, flag, pending, queue start, both counts and every byte of queue and output record."
pub record Console : Type 0 where
  pub marks : Marks
  pub queue : List ℕ
  pub start : ℕ
  pub count : ℕ
  pub output : List ℕ
  pub written : ℕ

abbrev pub marked : Bool → Bool → Bool → Marks
marked e f p = record { enable = e; flag = f; pending = p }

abbrev pub with_marks : Marks → Console → Console
with_marks k c = record { marks = k; queue = c.queue; start = c.start; count = c.count; output = c.output; written = c.written }

-- "sets flag and mark"
abbrev pub raise_interrupt : Marks → Marks
raise_interrupt k = marked k.enable true true

-- The pending mark given another value.
abbrev pub with_pending : Bool → Marks → Marks
with_pending p k = marked k.enable k.flag p

-- Are bytes queued?
unfoldable pub input_ready : ℕ → Bool
input_ready count = ltb 0 count

-- "Port 110 read: 2, plus 1 if bytes are queued, plus 4 if the interrupt flag is set"
unfoldable pub status : Bool → Marks → ℕ
status ready k = 2 + cond ready 1 0 + cond k.flag 4 0

-- "the read clears the flag, not the pending mark"
unfoldable pub read_status : Marks → Marks
read_status k = marked k.enable false k.pending

-- "Port 110 write: the lowest bit sets or clears receive-interrupt enable; writing it as 1 with bytes queued, enabled before or not,
-- sets flag and mark."
unfoldable pub write_control : Bool → ℤ → Marks → Marks
write_control ready w k = cond (bit 0 w && ready) (marked true true true) (marked (bit 0 w) k.flag k.pending)

-- A place in the queue, "wrapping at the queue's end".
unfoldable pub around : ℕ → ℕ → ℕ
around size n = cond (ltb n size) n (n - size)

-- "Port 111 read: the oldest byte, or 0." "a read moves the start on by one, wrapping too"
unfoldable pub read_data : Console → ℕ × Console
read_data c =
    cond
    (input_ready c.count)
    (get_or c.queue c.start 0, record { marks = c.marks; queue = c.queue; start = around (length c.queue) (suc c.start); count = c.count - 1; output = c.output; written = c.written })
    (0, c)

-- "Other ports read 0"
unfoldable pub read_port : ℕ → Console → ℕ × Console
read_port p c =
    cond
    (eqb p SERIAL-STATUS-PORT)
    (status (input_ready c.count) c.marks, with_marks (read_status c.marks) c)
    (cond (eqb p SERIAL-DATA-PORT) (read_data c) (0, c))

-- "out keeps the low 8 bits on port 111": the byte goes behind those already written.
unfoldable pub write_data : ℤ → Console → Console
write_data w c =
    record { marks = c.marks; queue = c.queue; start = c.start; count = c.count; output = set c.output c.written (low_byte w); written = suc c.written }

-- "Other ports read 0 and swallow writes."
unfoldable pub write_port : ℕ → ℤ → Console → Console
write_port p w c =
    cond
    (eqb p SERIAL-STATUS-PORT)
    (with_marks (write_control (input_ready c.count) w c.marks) c)
    (cond (eqb p SERIAL-DATA-PORT) (write_data w c) c)

-- "the step would write a byte past the output record"
unfoldable pub output_full : ℕ → Console → Bool
output_full p c = eqb p SERIAL-DATA-PORT && leb (length c.output) c.written

-- "Delivering one byte or more with enable set sets flag and mark; delivering none does nothing."
unfoldable pub delivered : ℕ → Marks → Marks
delivered n k = cond (ltb 0 n && k.enable) (raise_interrupt k) k

-- "Unread bytes run from the queue start, wrapping at the queue's end": bytes put into the queue one after another from place p on.
unfoldable pub put_bytes : ℕ → List ℕ → List ℕ → List ℕ
put_bytes p [] queue = queue
put_bytes p (b ∷ bs) queue = put_bytes (around (length queue) (suc p)) bs (set queue p b)

-- Where the first delivered byte goes: behind the unread ones.
unfoldable pub first_free : List ℕ → ℕ → ℕ → ℕ
first_free queue start count = around (length queue) (start + count)

-- "Drain copies the counted bytes to the front of its buffer, leaves the rest of it"
unfoldable pub drained : ℕ → List ℕ → List ℕ → List ℕ
drained n output buffer = take n output ++ drop n buffer
