-- How far the replay is (host/recorded/FORMAT.md).
use Rattle.std.specs.Prelude.{ℕ, ◌+◌, ◌%◌, ◌^◌, Bool, true, false, cond, ◌&&◌, is_some, Option, Some, None, Ok, Err}
use Rattle.recorded.specs.declared.compare.Fault.{Fault}
use Rattle.recorded.specs.declared.compare.Fault.TheVariants as F
use Rattle.recorded.specs.declared.length.Lengths.{Lengths}
use Rattle.recorded.specs.declared.reader.Reader.{Reader}
use Rattle.recorded.specs.Compare.{Verdict, unless}
use Rattle.recorded.specs.Reader.{is_at_start}
use Rattle.recorded_cases.specs.declared.state.Phase.{Phase}
use Rattle.recorded_cases.specs.declared.state.Phase.TheVariants as P
use Rattle.recorded_cases.specs.declared.state.State.{State}

abbrev pub lengths : ℕ → ℕ → ℕ → ℕ → Lengths
lengths q o b d = record { queue = q; output = o; bytes = b; buffer = d }

abbrev pub started : State
started =
    record { phase = P.First; lengths = lengths 0 0 0 0; empty = 0; cases = 0; calls = 0; lines = 0; fault = None }

-- Whether something is not as the list says.
abbrev pub fails : State → Bool
fails s = is_some s.fault

abbrev pub with_fault_of : State → Option Fault → State
with_fault_of s f =
    record { phase = s.phase; lengths = s.lengths; empty = s.empty; cases = s.cases; calls = s.calls; lines = s.lines; fault = f }

abbrev pub with_fault : State → Fault → State
with_fault s f = with_fault_of s (Some f)

-- What a line that was met or not leaves: its fault is kept.
abbrev pub kept : State → Verdict → State
kept s (Ok x) = s
kept s (Err f) = with_fault s f

abbrev pub with_phase : State → Phase → State
with_phase s p =
    record { phase = p; lengths = s.lengths; empty = s.empty; cases = s.cases; calls = s.calls; lines = s.lines; fault = s.fault }

-- One more; counts are of 64 bits.
abbrev pub one_more : ℕ → ℕ
one_more n = (n + 1) % 2 ^ 64

abbrev pub next_line : State → State
next_line s =
    record { phase = s.phase; lengths = s.lengths; empty = s.empty; cases = s.cases; calls = s.calls; lines = one_more s.lines; fault = s.fault }

-- A line's numbers are out of range unless this holds.
abbrev pub checked : State → Bool → State
checked s ok = kept s (unless ok F.Number (Ok tt))

-- A line that is not five numbers.
abbrev pub broken_line : State → State
broken_line s = with_fault (next_line s) F.Text

abbrev pub is_end : Phase → Bool
is_end P.End = true
is_end _ = false

-- The text ends: after its last line, or something is missing. What failed before stays.
abbrev pub text_end : Reader → State → State
text_end r s = cond (fails s) s (cond (is_at_start r && is_end s.phase) s (with_fault (next_line s) F.End))
