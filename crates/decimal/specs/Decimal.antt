-- Decimal numbers of 64 bits (documents 01 and 02: "decimal digits after an optional minus, within 64 bits"). 48 to 57 are the digits.
use Rattle.std.specs.Prelude.{Bool, true, false, cond, List, [], ◌∷◌, ◌++◌, ℕ, ◌+◌, ◌*◌, ◌<◌, ℤ, neg_ℤ, ltb}
use Rattle.std.specs.Int.{w64}
use Rattle.std.proofs.Common.{to_z}
use Rattle.definition.specs.Word.{wrap}

-- One decimal digit or more ("leading zeros allowed"), and the value.
pub data Digits : List ℕ → ℕ → Type 0 where
  one : {d : ℕ} → d < 10 → Digits ((48 + d) ∷ []) d
  more : {s : List ℕ} {v d : ℕ} → Digits s v → d < 10 → Digits (s ++ ((48 + d) ∷ [])) (v * 10 + d)

-- A magnitude with one digit more, or 2^63 + 1 where it would be larger.
unfoldable pub cap_step : ℕ → ℕ → ℕ
cap_step v d = cond (ltb 922337203685477580 v) 9223372036854775809 (v * 10 + d)

-- "within 64 bits": the largest magnitude of a number.
abbrev pub limit : Bool → ℕ
limit true = 9223372036854775808
limit false = 9223372036854775807

-- The number of a sign and a magnitude within its limit; past it, wrapped at 64 bits, which no reader meets.
unfoldable pub value_of : Bool → ℕ → ℤ
value_of false m = to_z w64 m
value_of true m = wrap (neg_ℤ (to_z w64 m))
