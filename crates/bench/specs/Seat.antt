-- A seat's record: "its step limit, steps used and last stop".
use Rattle.std.specs.Prelude.{Bool, cond, ◌&&◌, ℕ, ◌+◌, ◌-◌, ltb, eqb}
use Rattle.bench.specs.declared.Seat.{Seat}

-- Stands where a list has no record.
abbrev pub no_seat : Seat
no_seat = record { limit = 0; used = 0; stop = 0 }

-- "passing over seats that stopped other than by 0 or reached their limit"
unfoldable pub can_go_on : Seat → Bool
can_go_on s = eqb s.stop 0 && ltb s.used s.limit

unfoldable pub least : ℕ → ℕ → ℕ
least a b = cond (ltb a b) a b

-- "a run on the least of 100, its limit's rest and the total's"
unfoldable pub turn_budget : Seat → ℕ → ℕ
turn_budget s total = least 100 (least (s.limit - s.used) total)

-- After a turn: its steps are added, its stop is the last.
abbrev pub after : ℕ → ℕ → Seat → Seat
after steps stop s = record { limit = s.limit; used = s.used + steps; stop = stop }
