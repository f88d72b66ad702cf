-- "Room that a replaying program needs": a length lies within its array.
use Rattle.std.specs.Prelude.{ℕ, ℤ, nat_le, nat_eq, cond, Bool, false, Option, Some, None, Result, Ok, Err}
use Rattle.definition.specs.Word.{address_of}
use Rattle.recorded.specs.declared.compare.Fault.{Fault}
use Rattle.recorded.specs.declared.compare.Fault.TheVariants as F

-- The number as a length of at most this.
abbrev pub length_within : ℕ → ℕ → Option ℕ
length_within most n = cond (nat_le n most) (Some n) None

abbrev pub or_out_of_range : Option ℕ → Result ℕ Fault
or_out_of_range None = Err F.Number
or_out_of_range (Some n) = Ok n

abbrev pub length_at : ℕ → Option ℕ → Result ℕ Fault
length_at most None = Err F.Number
length_at most (Some n) = or_out_of_range (length_within most n)

-- A line's number as a length, or else it is out of range.
abbrev pub length_of : ℕ → ℤ → Result ℕ Fault
length_of most z = length_at most (address_of z)

-- Whether a line's number is this length.
abbrev pub is_at : Option ℕ → ℕ → Bool
is_at None n = false
is_at (Some m) n = nat_eq m n

abbrev pub is_length : ℤ → ℕ → Bool
is_length z n = is_at (address_of z) n
