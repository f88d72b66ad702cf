-- Numbers as text: a list of bytes, where 48 is the digit 0 and 45 a minus.
use Rattle.std.specs.Prelude.{Bool, true, false, cond, List, [], ◌∷◌, ◌++◌, ℕ, zero, suc, ◌+◌, ◌/◌, ◌%◌, ltb, ℤ, pos, negsuc}

-- The decimal digits of n with no zero in front; of a number with more than k digits, the last k.
unfoldable pub decimal_in : ℕ → ℕ → List ℕ
decimal_in zero n = []
decimal_in (suc k) n = cond (ltb n 10) ((48 + n) ∷ []) (decimal_in k (n / 10) ++ ((48 + n % 10) ∷ []))

-- A number of 64 bits has at most 20 digits.
abbrev pub decimal : ℕ → List ℕ
decimal n = decimal_in 20 n

-- As in the input, "decimal digits after an optional minus".
unfoldable pub numeral : ℤ → List ℕ
numeral (pos n) = decimal n
numeral (negsuc n) = 45 ∷ decimal (suc n)

abbrev pub is_negative : ℤ → Bool
is_negative (pos n) = false
is_negative (negsuc n) = true
