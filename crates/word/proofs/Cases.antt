-- Cases at the edges, computed by the checker.
use Rattle.std.specs.Prelude.{None, Some}
use Rattle.std.proofs.Common.{◌≡◌, true, false, ℤ, pos, negsuc, ◌+ℤ◌, ◌-ℤ◌, ◌*ℤ◌, neg_ℤ, refl}
use Rattle.definition.specs.Word.{wrap, is_word, wrapped, smallest, address_of, quotient, is_shift, shl_w, shr_w, put_bit, low_byte}

abbrev greatest : ℤ
greatest = pos 9223372036854775807

add-one : wrapped (greatest +ℤ pos 1) ≡ record { value = smallest; overflow = true }
unfolding wrapped wrap is_word
add-one = refl

sub-one : wrapped (smallest -ℤ pos 1) ≡ record { value = greatest; overflow = true }
unfolding wrapped wrap is_word
sub-one = refl

neg-smallest : wrapped (neg_ℤ smallest) ≡ record { value = smallest; overflow = true }
unfolding wrapped wrap is_word
neg-smallest = refl

-- 2^32 * -2^31 is the smallest word, 2^32 * 2^31 is none
mul-smallest : wrapped (pos 4294967296 *ℤ negsuc 2147483647) ≡ record { value = smallest; overflow = false }
unfolding wrapped wrap is_word
mul-smallest = refl

mul-over : wrapped (pos 4294967296 *ℤ pos 2147483648) ≡ record { value = smallest; overflow = true }
unfolding wrapped wrap is_word
mul-over = refl

div-one : quotient smallest (pos 1) ≡ Some smallest
unfolding quotient
div-one = refl

div-minus-one : quotient smallest (negsuc 0) ≡ None
unfolding quotient
div-minus-one = refl

-- -7 / 2 is -3, and -7 >> 1 is -4
div-rounds : quotient (negsuc 6) (pos 2) ≡ Some (negsuc 2)
unfolding quotient
div-rounds = refl

shr-rounds : shr_w (negsuc 6) 1 ≡ negsuc 3
unfolding shr_w
shr-rounds = refl

shl-drops : shl_w (pos 3) 63 ≡ smallest
unfolding shl_w wrap
shl-drops = refl

shift-63 : is_shift (pos 63) ≡ true
unfolding is_shift
shift-63 = refl

shift-64 : is_shift (pos 64) ≡ false
unfolding is_shift
shift-64 = refl

address-last : address_of (pos 4294967295) ≡ Some 4294967295
unfolding address_of
address-last = refl

address-past : address_of (pos 4294967296) ≡ None
unfolding address_of
address-past = refl

-- the sign is bit 63
put-sign : put_bit 63 true (pos 0) ≡ smallest
unfolding put_bit
put-sign = refl

-- S, bit 9, cleared in -1
put-clear : put_bit 9 false (negsuc 0) ≡ negsuc 512
unfolding put_bit
put-clear = refl

byte-minus-one : low_byte (negsuc 0) ≡ 255
unfolding low_byte
byte-minus-one = refl
