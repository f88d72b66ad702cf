-- What each line of the list makes of the replay (host/recorded/FORMAT.md), apart from the calls.
use Rattle.std.specs.Prelude.{ℕ, ◌+◌, cond, ◌&&◌, List, pos, int_lt, nat_eq, nat_lt, None, Result, Ok, Err}
use Rattle.std.specs.Ordering.{int_eq}
use Rattle.definition.specs.Word.{bits, address_of}
use Rattle.recorded.specs.declared.compare.Fault.{Fault}
use Rattle.recorded.specs.declared.compare.Fault.TheVariants as F
use Rattle.recorded.specs.declared.machine.Machine.{Machine}
use Rattle.recorded.specs.declared.machine.Part.{Part}
use Rattle.recorded.specs.declared.reader.Line.{Line}
use Rattle.recorded.specs.Compare.{Verdict, left_fault}
use Rattle.recorded.specs.Length.{length_of, is_length}
use Rattle.recorded.specs.Machine.{put_in}
use Rattle.recorded.specs.Place.{byte_put}
use Rattle.recorded_cases.specs.declared.lines.Replay.{Replay}
use Rattle.recorded_cases.specs.declared.state.Phase.TheVariants as P
use Rattle.recorded_cases.specs.declared.state.State.{State}
use Rattle.recorded_cases.specs.State.{lengths, with_fault, with_fault_of, kept, with_phase, one_more, checked}

-- "first line: version of the format, count of cells of every machine"
abbrev pub first_line : State → Line → State
first_line s l = checked (with_phase s P.Case) (int_eq l.a (pos 1) && int_eq l.b (pos 10000))

-- "last line": "count of cases"
abbrev pub last_line : State → Line → State
last_line s l = cond (nat_eq (bits l.a) s.cases) (with_phase s P.End) (with_fault s F.Cases)

-- "the words that the next call, a run, takes from empty cells; 0 without such a line"
abbrev pub before_run : State → ℕ → State
before_run s n =
    record { phase = P.Run; lengths = s.lengths; empty = n; cases = s.cases; calls = s.calls; lines = s.lines; fault = s.fault }

abbrev pub empty_line : State → Line → State
empty_line s l = checked (before_run s (bits l.a)) (int_lt (pos 0) l.a)

-- "opens a case": "number, from 1", "queue's length", "output record's length", "1 for the runner"
abbrev pub case_with : State → Result ℕ Fault → Result ℕ Fault → Result ℕ Fault → Result State Fault
case_with s (Ok r) (Ok q) (Ok o) =
    Ok (record { phase = P.Before; lengths = lengths q o 0 0; empty = 0; cases = one_more s.cases; calls = s.calls; lines = s.lines; fault = None })
case_with s (Ok r) (Ok q) (Err f) = Err f
case_with s (Ok r) (Err f) o = Err f
case_with s (Err f) q o = Err f

abbrev pub case_of : State → Line → Result State Fault
case_of s l =
    cond (nat_eq (bits l.a) (one_more s.cases)) (case_with s (length_of 1 l.d) (length_of 256 l.b) (length_of 4096 l.c)) (Err F.Cases)

abbrev pub opened_as : State → Result State Fault → State
opened_as s (Ok u) = u
opened_as s (Err f) = with_fault s f

abbrev pub opened : State → Line → State
opened s l = opened_as s (case_of s l)

abbrev pub replay : State → Machine → Machine → List ℕ → Replay
replay s m d t = record { state = s; machine = m; due = d; bytes = t }

abbrev pub with_state : Replay → State → Replay
with_state w s = replay s w.machine w.due w.bytes

abbrev pub replay_kept : Replay → Verdict → Replay
replay_kept w r = with_state w (kept w.state r)

-- "a byte for the next line 11, in order"
abbrev pub more_bytes : State → State
more_bytes s =
    record { phase = P.Delivery; lengths = lengths s.lengths.queue s.lengths.output (s.lengths.bytes + 1) s.lengths.buffer; empty = s.empty; cases = s.cases; calls = s.calls; lines = s.lines; fault = s.fault }

abbrev pub byte_line : Line → Replay → Replay
byte_line l w =
    let s = w.state in
    let x = byte_put (address_of l.a) (address_of l.b) w.bytes in
    cond
    (nat_lt s.lengths.bytes 8)
    (replay (kept (checked (more_bytes s) (is_length l.a s.lengths.bytes)) x.0) w.machine w.due x.1)
    (with_state w (with_fault s F.Number))

-- "Lines 2 to 5 set both."
abbrev pub before_line : Part → Line → Replay → Replay
before_line p l w =
    let m = put_in p l w.state.lengths w.machine in
    let d = put_in p l w.state.lengths w.due in
    replay (kept (kept w.state d.0) m.0) m.1 d.1 w.bytes

-- "Lines 20 to 24 set the second."
abbrev pub after_line : Part → Line → Replay → Replay
after_line p l w =
    let d = put_in p l w.state.lengths w.due in
    replay (kept w.state d.0) w.machine d.1 w.bytes

-- "closes a call: everything not named since the call is as before the call"
abbrev pub close_line : Replay → Replay
close_line w = with_state w (kept (with_fault_of (with_phase w.state P.Call) None) (left_fault w.machine w.due))
