-- The timer on ports 120 and 121 (document 02, Card 14).
use Rattle.std.specs.Prelude.{Bool, true, cond, ℕ, zero, suc, ◌-◌, ℤ, pos, negsuc, ltb, eqb}
use Rattle.definition.specs.declared.Timer.{Timer}
use Rattle.definition.specs.Constants.{CYCLES-END, TIMER-INTERVAL-PORT, TIMER-REMAINING-PORT}

abbrev pub timed : ℕ → ℕ → Bool → Timer
timed i r b = record { interval = i; remaining = r; mark = b }

-- The mark given another value.
abbrev pub with_timer_mark : Bool → Timer → Timer
with_timer_mark b t = timed t.interval t.remaining b

-- "where a number below 1 turns it off as 0". A word is below 2^63; what is none counts as 0 too, so that every interval is below 2^63.
unfoldable pub interval_of : ℤ → ℕ
interval_of (pos n) = cond (ltb n CYCLES-END) n 0
interval_of (negsuc n) = 0

-- "Port 120 written sets interval and remaining cycles". "Turning the timer off keeps a mark already set."
unfoldable pub set_timer : ℤ → Timer → Timer
set_timer w t = timed (interval_of w) (interval_of w) t.mark

-- n cycles taken off what remains, "While the timer is on". "Where what is taken off leaves 0 or less, the timer's mark is set and the
-- interval starts afresh."
unfoldable pub tick : ℕ → Timer → Timer
tick n t =
    cond
    (ltb 0 t.interval)
    (cond (ltb n t.remaining) (timed t.interval (t.remaining - n) t.mark) (timed t.interval t.interval true))
    t

-- Entry by a code, in a step: "each exception step its one cycle; a handler entry by code 0 [...] takes off none".
unfoldable pub tick_entry : ℕ → Timer → Timer
tick_entry zero t = t
tick_entry (suc k) t = tick 1 t

-- Port 120 "read, it gives the interval. Port 121 reads what remains". Any other port reads n, the console's answer.
unfoldable pub read_timer : ℕ → Timer → ℕ → ℕ
read_timer p t n = cond (eqb p TIMER-INTERVAL-PORT) t.interval (cond (eqb p TIMER-REMAINING-PORT) t.remaining n)
