-- "How to replay": the lines that call, and what every byte of the list makes of the replay (host/recorded/FORMAT.md).
use Rattle.std.specs.Prelude.{cond, ℕ, ℤ, pos, int_lt, length, take, drop, replicate, List, ◌++◌, Option, Some, None, Result, Ok, Err}
use mathlib.Core.List.{foldl}
use Rattle.definition.specs.Word.{bits}
use Rattle.definition.specs.declared.Done.{Done}
use Rattle.definition.specs.declared.Drained.{Drained}
use Rattle.definition.specs.declared.Ran.{Ran}
use Rattle.definition.specs.Calls.{Called, called, Lent, lent, run_call, deliver, drain, raise, set_register}
use Rattle.recorded.specs.declared.compare.Answer.{Answer}
use Rattle.recorded.specs.declared.compare.Fault.{Fault}
use Rattle.recorded.specs.declared.compare.Fault.TheVariants as F
use Rattle.recorded.specs.declared.length.Lengths.{Lengths}
use Rattle.recorded.specs.declared.machine.Machine.{Machine}
use Rattle.recorded.specs.declared.reader.Broken.{Broken}
use Rattle.recorded.specs.declared.reader.Line.{Line}
use Rattle.recorded.specs.declared.reader.Reader.{Reader}
use Rattle.recorded.specs.Compare.{answer, of_done, of_drained, of_raised, of_ran, answer_fault}
use Rattle.recorded.specs.Length.{length_of, is_length}
use Rattle.recorded.specs.Machine.{no_machine, lent_of, with_lent, with_cells, with_queue, with_row, with_buffer, emptied}
use Rattle.recorded.specs.Reader.{no_line, fed}
use Rattle.recorded_cases.specs.declared.kind.Call.{Call}
use Rattle.recorded_cases.specs.declared.kind.Call.TheVariants as C
use Rattle.recorded_cases.specs.declared.kind.Kind.{Kind}
use Rattle.recorded_cases.specs.declared.kind.Kind.TheVariants as K
use Rattle.recorded_cases.specs.declared.lines.Replay.{Replay}
use Rattle.recorded_cases.specs.declared.state.Phase.TheVariants as P
use Rattle.recorded_cases.specs.declared.state.State.{State}
use Rattle.recorded_cases.specs.State.{lengths, started, fails, with_fault, kept, next_line, one_more, broken_line, text_end}
use Rattle.recorded_cases.specs.Kind.{due_kind}
use Rattle.recorded_cases.specs.Case.{first_line, last_line, empty_line, opened, replay, with_state, byte_line, before_line, after_line, close_line}
use Rattle.recorded_cases.specs.Verdict.{verdict_text}
use Rattle.recorded_calls.specs.declared.act.Reading.{Reading}

-- ---- the calls

-- After a call with a drain buffer of n bytes: the lines "after" may come, and the answers are compared.
abbrev pub after_call : State → ℕ → Answer → Answer → State
after_call s n got wanted =
    kept (record { phase = P.After; lengths = lengths s.lengths.queue s.lengths.output 0 n; empty = 0; cases = s.cases; calls = one_more s.calls; lines = s.lines; fault = None }) (answer_fault got wanted)

-- What a call on the machine left of it, and its answer held to the due one. Its drain buffer has n bytes.
abbrev pub call_done : Replay → ℕ → Machine → Answer → Answer → Replay
call_done w n m got wanted = replay (after_call w.state n got wanted) m w.due w.bytes

abbrev pub out_of_range : Replay → Replay
out_of_range w = with_state w (with_fault w.state F.Number)

-- The calls on the case's queue and output record, which are the fronts of the arrays; the ends stay as they were.
abbrev pub ran_in : ℕ → Lengths → Lent → Called Ran Lent
ran_in budget n m =
    let x = run_call budget (lent m.cells (take n.queue m.queue) (take n.output m.output) m.row) in
    let u = x.left in
    called x.answer (lent u.cells (u.queue ++ drop n.queue m.queue) (u.output ++ drop n.output m.output) u.row)

abbrev pub delivered_in : ℕ → List ℕ → List ℤ → List ℕ → Called Done (List ℕ × List ℤ)
delivered_in q queue row bytes =
    let x = deliver (take q queue) row bytes in
    called x.answer (x.left.0 ++ drop q queue, x.left.1)

abbrev pub drained_in : ℕ → List ℕ → List ℤ → List ℕ → Called Drained (List ℤ × List ℕ)
drained_in n output row buffer =
    let x = drain output row (take n buffer) in
    called x.answer (x.left.0, x.left.1 ++ drop n buffer)

-- "call run; it is not refused, and answers so"
unfoldable pub run_line : Line → Replay → Replay
run_line l w =
    let x = ran_in (bits l.a) w.state.lengths (lent_of w.machine) in
    call_done w 0 (with_lent w.machine x.left) (of_ran x.answer) (answer 0 0 (bits l.b) (bits l.c) (bits l.d) w.state.empty)

-- "call deliver with the bytes of the lines 6 before it"
unfoldable pub deliver_line : Line → Replay → Replay
deliver_line l w =
    let m = w.machine in
    let n = w.state.lengths in
    let x = delivered_in n.queue m.queue m.row (take n.bytes w.bytes) in
    cond
    (is_length l.a n.bytes)
    (call_done w 0 (with_row (with_queue m x.left.0) x.left.1) (of_done x.answer) (answer (bits l.b) 0 0 0 0 0))
    (out_of_range w)

-- "call drain; every byte of the buffer is 0 before"
abbrev pub zeroed : Machine → Machine
zeroed m = with_buffer m (replicate (length m.buffer) 0)

abbrev pub drain_with : Line → Replay → Result ℕ Fault → Replay
drain_with l w (Err f) = with_state w (with_fault w.state f)
drain_with l w (Ok n) =
    let m = zeroed w.machine in
    let x = drained_in n (take w.state.lengths.output m.output) m.row m.buffer in
    call_done (replay w.state m (zeroed w.due) w.bytes) n (with_buffer (with_row m x.left.0) x.left.1) (of_drained x.answer) (answer (bits l.b) 0 0 0 (bits l.c) 0)

unfoldable pub drain_line : Line → Replay → Replay
drain_line l w = drain_with l w (length_of 128 l.a)

-- "call raise": "After 13, stop 0 means that the exception was entered."
unfoldable pub raise_line : Line → Replay → Replay
raise_line l w =
    let m = w.machine in
    let x = raise m.cells m.row (bits l.a) in
    cond
    (int_lt l.a (pos 0))
    (out_of_range w)
    (call_done w 0 (with_row (with_cells m x.left.0) x.left.1) (of_raised x.answer) (answer (bits l.b) 0 (bits l.c) (bits l.d) 0 0))

-- "call set register"
unfoldable pub set_line : Line → Replay → Replay
set_line l w =
    let x = set_register w.machine.row (bits l.a) l.b in
    cond
    (int_lt l.a (pos 0))
    (out_of_range w)
    (call_done w 0 (with_row w.machine x.left) (of_done x.answer) (answer (bits l.c) 0 0 0 0 0))

-- "Lines 10 to 14 make the call on the first and compare its answer."
abbrev pub call_line : Call → Line → Replay → Replay
call_line C.Run l w = run_line l w
call_line C.Deliver l w = deliver_line l w
call_line C.Drain l w = drain_line l w
call_line C.Raise l w = raise_line l w
call_line C.SetRegister l w = set_line l w

-- "opens a case: all cells empty, all bytes 0, the row's 20 numbers 0"
unfoldable pub open_line : Line → Replay → Replay
open_line l w = replay (opened w.state l) (emptied w.machine) (emptied w.due) w.bytes

-- ---- the replay

-- A line of this kind, done.
unfoldable pub kind_done : Kind → Line → Replay → Replay
kind_done K.First l w = with_state w (first_line w.state l)
kind_done K.Case l w = open_line l w
kind_done (K.Before p) l w = before_line p l w
kind_done K.Byte l w = byte_line l w
kind_done K.Empty l w = with_state w (empty_line w.state l)
kind_done (K.Call c) l w = call_line c l w
kind_done (K.After p) l w = after_line p l w
kind_done K.Close l w = close_line w
kind_done K.Last l w = with_state w (last_line w.state l)

abbrev pub done_if_due : Result Kind Fault → Line → Replay → Replay
done_if_due (Ok k) l w = kind_done k l w
done_if_due (Err f) l w = with_state w (with_fault w.state f)

-- A whole line: it is counted, and does what its kind asks if such a line may come.
unfoldable pub line_done : Line → Replay → Replay
line_done l w = done_if_due (due_kind w.state.phase l) l (with_state w (next_line w.state))

abbrev pub reading : Reader → Replay → Reading
reading r w = record { reader = r; replay = w }

-- What the line makes of the replay that the byte ended, if it ended one.
abbrev pub fed_done : Result (Option Line) Broken → Replay → Replay
fed_done (Ok None) w = w
fed_done (Ok (Some l)) w = line_done l w
fed_done (Err e) w = with_state w (broken_line w.state)

-- A byte of the list. After the first fault nothing more is done.
unfoldable pub byte_taken : Reading → ℕ → Reading
byte_taken r b = let x = fed r.reader b in cond (fails r.replay.state) r (reading x.0 (fed_done x.1 r.replay))

abbrev pub opening : Reading
opening = reading no_line (replay started no_machine no_machine (replicate 8 0))

-- Where the replay of a text ends.
abbrev pub at_end : Reading → State
at_end r = text_end r.reader r.replay.state

unfoldable pub verdict : List ℕ → State
verdict text = at_end (foldl byte_taken opening text)

-- What is printed of a text.
abbrev pub printed : List ℕ → List ℕ
printed text = verdict_text (verdict text)
