-- Words: the numbers from -2^63 to 2^63 - 1, and the operations on them that instructions.rs takes from i64.
use Rattle.std.specs.Prelude.{Bool, true, false, not, cond, ◌&&◌, ◌||◌, ℕ, suc, ◌+◌, ◌*◌, ◌-◌, ◌/◌, ◌%◌, ◌^◌, ℤ, pos, negsuc, ◌*ℤ◌, ltb, leb, eqb, None, Option, Some}
use Rattle.std.specs.Int.Signed.{le_z, lt_z, quot_z, shr_z}
use Rattle.std.specs.Int.Bits.{bit_and, bit_or, bit_xor}
use Rattle.std.specs.Int.{w64}
use Rattle.std.proofs.Common.{to_z}
use Rattle.definition.specs.declared.Wrapped.{Wrapped}

-- Two's complement: the 64 bits of a number, as a number below 2^64. `to_z w64` reads 64 bits back as a word.
abbrev pub bits : ℤ → ℕ
bits (pos n) = n % 2 ^ 64
bits (negsuc n) = 2 ^ 64 - suc (n % 2 ^ 64)

-- "wrap at 64 bits": the word that differs from z by a multiple of 2^64.
unfoldable pub wrap : ℤ → ℤ
wrap z = to_z w64 (bits z)

-- -2^63 to 2^63 - 1
unfoldable pub is_word : ℤ → Bool
is_word (pos n) = ltb n (2 ^ 63)
is_word (negsuc n) = ltb n (2 ^ 63)

-- "add, sub, mul and neg wrap at 64 bits and set V": the exact result z, wrapped, and whether it is no word.
unfoldable pub wrapped : ℤ → Wrapped
wrapped z = record { value = wrap z; overflow = not (is_word z) }

-- whether two numbers are equal
abbrev pub eq_z : ℤ → ℤ → Bool
eq_z (pos a) (pos b) = eqb a b
eq_z (pos a) (negsuc b) = false
eq_z (negsuc a) (pos b) = false
eq_z (negsuc a) (negsuc b) = eqb a b

-- "An address is a word 0 to 4,294,967,295."
unfoldable pub address_of : ℤ → Option ℕ
address_of (pos n) = cond (leb n 4294967295) (Some n) None
address_of (negsuc n) = None

-- "smallest word"
abbrev pub smallest : ℤ
smallest = negsuc 9223372036854775807

-- "div is register / operand, rounded toward zero. Operand 0, or smallest word / -1, raises code 1."
unfoldable pub quotient : ℤ → ℤ → Option ℤ
quotient w v = cond (eq_z v (pos 0) || (eq_z w smallest && eq_z v (negsuc 0))) None (Some (quot_z w v))

-- "Shift amounts are 0 to 63"
unfoldable pub is_shift : ℤ → Bool
is_shift v = le_z (pos 0) v && lt_z v (pos 64)

-- The word shifted left by n, what leaves 64 bits dropped.
unfoldable pub shl_w : ℤ → ℕ → ℤ
shl_w w n = wrap (w *ℤ pos (2 ^ n))

-- "shr keeps the sign": the word by 2^n, rounded down.
unfoldable pub shr_w : ℤ → ℕ → ℤ
shr_w w n = shr_z w (2 ^ n)

-- and, or, xor and not, bit by bit
unfoldable pub and_w : ℤ → ℤ → ℤ
and_w a b = to_z w64 (bit_and (bits a) (bits b))

unfoldable pub or_w : ℤ → ℤ → ℤ
or_w a b = to_z w64 (bit_or (bits a) (bits b))

unfoldable pub xor_w : ℤ → ℤ → ℤ
xor_w a b = to_z w64 (bit_xor (bits a) (bits b))

unfoldable pub not_w : ℤ → ℤ
not_w (pos n) = negsuc n
not_w (negsuc n) = pos n

-- Bit k of a word, from 0.
unfoldable pub bit : ℕ → ℤ → Bool
bit k w = eqb (bits w / 2 ^ k % 2) 1

abbrev pub digit : Bool → ℕ
digit true = 1
digit false = 0

-- The word with its bit k made `on` and its other bits as they are.
unfoldable pub put_bit : ℕ → Bool → ℤ → ℤ
put_bit k on w = to_z w64 (bits w - bits w / 2 ^ k % 2 * 2 ^ k + digit on * 2 ^ k)

-- The low 8 bits.
unfoldable pub low_byte : ℤ → ℕ
low_byte w = bits w % 256
