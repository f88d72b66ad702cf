-- Laws of the definition's bits, for every number: `bits z` is below 2^64 whatever z is.
use mathlib.Core.Path.{◌≡◌, refl, sym, ap, ap₂, ◌∙◌}
use mathlib.Core.Bool.{Bool, true, false, not, ◌&&◌, ◌||◌, beq}
use mathlib.Core.Logic.{◌⊎◌, inl, inr, ⊎_elim}
use Prim.Native.Nat.{ℕ, zero, suc, ◌+◌, ◌-◌, ◌*◌, ◌/◌, ◌%◌, ◌^◌, ◌<◌}
use native.Mathlib.Omega.{arith}
use native.Mathlib.Nat.{mod-lt, add-mul, mul_comm, mul-sub, one-mul, zero-mul, mod-le, mul-le-mul_right, pow-suc}
use lib.IntN.{ℤ, pos, negsuc}
use lib.Dec.{eqb}
use lib.Bits.{bit_and, bit_or, bit_xor, and_high, and_le_l, and_mask, and_mod, and_shr, or_add_and, or_mod, or_shr, xor_add_and, xor_mod, xor_shr}
use lib.Pow.{pow-lt, pow_pos, split, high, high_ones, low, ones_lt, ones_split, field, mod-mod-pow, shr-shr}
use mir.Syntax.{w64}
use mir.Val.{of_z, to_z, SFits, Fits}
use mir.Facts.{of_z-to_z, sfits_to_z, Fits-and, Fits-or, Fits-xor, Fits-of_lt}
use Rattle.definition.specs.Word.{bits, bit, put_bit, digit, and_w, or_w, xor_w, not_w}

-- ---- the bits of a number

pub bits-fits : (z : ℤ) → Fits w64 (bits z)
bits-fits (pos n) = record { fits = omega arith }
bits-fits (negsuc n) = record { fits = omega arith }

-- a word's bits are those that the machine holds
pub bits-of_z : (z : ℤ) → SFits w64 z → bits z ≡ of_z w64 z
bits-of_z (pos n) f = omega (arith, f.sfits)
bits-of_z (negsuc n) f = omega (arith, f.sfits)

-- bits read as a word have that word's bits
pub bits-to_z : (n : ℕ) → Fits w64 n → bits (to_z w64 n) ≡ n
bits-to_z n f = bits-of_z (to_z w64 n) (sfits_to_z f) ∙ of_z-to_z f

-- bit k of the word that has the bits n
pub bit-to_z : (k n : ℕ) → Fits w64 n → bit k (to_z w64 n) ≡ eqb (n / 2 ^ k % 2) 1
unfolding bit
bit-to_z k n f = ap (λ (m : ℕ). eqb (m / 2 ^ k % 2) 1) (bits-to_z n f)

-- ---- one bit put

-- the bits n with digit k made e
abbrev pub put : ℕ → ℕ → ℕ → ℕ
put k e n = n - n / 2 ^ k % 2 * 2 ^ k + e * 2 ^ k

-- the digits above k and those below are as they were
pub put-split : (k e n : ℕ) → put k e n ≡ (n / 2 ^ k - n / 2 ^ k % 2 + e) * 2 ^ k + n % 2 ^ k
put-split k e n =
    let s : (n / 2 ^ k - n / 2 ^ k % 2) * 2 ^ k ≡ n / 2 ^ k * 2 ^ k - n / 2 ^ k % 2 * 2 ^ k =
    mul_comm (n / 2 ^ k - n / 2 ^ k % 2) (2 ^ k) ∙ mul-sub (2 ^ k) (n / 2 ^ k) (n / 2 ^ k % 2) ∙ ap₂ (λ (x y : ℕ). x - y) (mul_comm (2 ^ k) (n / 2 ^ k)) (mul_comm (2 ^ k) (n / 2 ^ k % 2)) in
    omega (arith, split n k, add-mul (n / 2 ^ k - n / 2 ^ k % 2) e (2 ^ k), s, mul-le-mul_right (2 ^ k) (mod-le (n / 2 ^ k) 2))

-- the digits from k on
put-from : (k e n : ℕ) → put k e n / 2 ^ k ≡ n / 2 ^ k - n / 2 ^ k % 2 + e
put-from k e n = ap (λ (m : ℕ). m / 2 ^ k) (put-split k e n) ∙ high (n / 2 ^ k - n / 2 ^ k % 2 + e) k (mod-lt n (pow_pos k))

pub put-here : (k e n : ℕ) → e < 2 → put k e n / 2 ^ k % 2 ≡ e
put-here k e n h = omega (arith, put-from k e n)

-- a digit below k
digit_low : (n i j : ℕ) → n / 2 ^ j % 2 ≡ n % 2 ^ (suc i + j) / 2 ^ j % 2
digit_low n i j = sym (ap (λ (m : ℕ). m % 2) (field n (suc i) j) ∙ ap (λ (m : ℕ). n / 2 ^ j % 2 ^ m % 2) (i1 i) ∙ mod-mod-pow (n / 2 ^ j) i 1)
  where
    i1 : (i : ℕ) → suc i ≡ i + 1
    i1 i = omega arith

pub put_low : (k e n j : ℕ) → j < k → put k e n / 2 ^ j % 2 ≡ n / 2 ^ j % 2
put_low k e n j h =
    let w : suc (k - suc j) + j ≡ k = omega arith in
    digit_low (put k e n) (k - suc j) j
    ∙ ap (λ (m : ℕ). m / 2 ^ j % 2) (ap (λ (m : ℕ). put k e n % 2 ^ m) w ∙ ap (λ (m : ℕ). m % 2 ^ k) (put-split k e n)
    ∙ low (n / 2 ^ k - n / 2 ^ k % 2 + e) k (mod-lt n (pow_pos k)) ∙ sym (ap (λ (m : ℕ). n % 2 ^ m) w))
    ∙ sym (digit_low n (k - suc j) j)

-- a digit above k
digit-high : (n k i : ℕ) → n / 2 ^ (k + (1 + i)) ≡ n / 2 ^ k / 2 / 2 ^ i
digit-high n k i = sym (ap (λ (m : ℕ). m / 2 ^ i) (shr-shr n k 1) ∙ shr-shr n (k + 1) i ∙ ap (λ (m : ℕ). n / 2 ^ m) (assoc k i))
  where
    assoc : (k i : ℕ) → k + 1 + i ≡ k + (1 + i)
    assoc k i = omega arith

pub put-high : (k e n j : ℕ) → e < 2 → k < j → put k e n / 2 ^ j % 2 ≡ n / 2 ^ j % 2
put-high k e n j h l =
    let w : k + (1 + (j - suc k)) ≡ j = omega arith in
    let q : put k e n / 2 ^ k / 2 ≡ n / 2 ^ k / 2 = omega (arith, put-from k e n) in
    ap (λ (m : ℕ). m % 2) (ap (λ (m : ℕ). put k e n / 2 ^ m) (sym w) ∙ digit-high (put k e n) k (j - suc k) ∙ ap (λ (m : ℕ). m / 2 ^ (j - suc k)) q
    ∙ sym (digit-high n k (j - suc k)) ∙ ap (λ (m : ℕ). n / 2 ^ m) w)

-- a mask of one bit
pub and-bit : (n k : ℕ) → bit_and n (2 ^ k) ≡ n / 2 ^ k % 2 * 2 ^ k
and-bit n k = ap (bit_and n) (sym (high_ones 1 k ∙ one-mul (2 ^ k))) ∙ and_high n 1 k

pub or-bit : (n k : ℕ) → bit_or n (2 ^ k) ≡ put k 1 n
or-bit n k = omega (arith, or_add_and n (2 ^ k), and_le_l n (2 ^ k), and-bit n k, one-mul (2 ^ k))

pub put-fits : (k : ℕ) (on : Bool) (n : ℕ) → k < 64 → Fits w64 n → Fits w64 (put k (digit on) n)
put-fits k true n h f =
    let g : Fits w64 (bit_or n (2 ^ k)) = Fits-or f (Fits-of_lt (pow-lt h)) in
    omega (arith, g, or-bit n k)
put-fits k false n h f = omega (arith, f, zero-mul (2 ^ k))

digit_lt : (on : Bool) → digit on < 2
digit_lt true = omega arith
digit_lt false = omega arith

digit-is : (on : Bool) → eqb (digit on) 1 ≡ on
digit-is true = refl
digit-is false = refl

module _ (k : ℕ) (on : Bool) (w : ℤ) (h : k < 64) where
  -- the bit that was put
  pub put_same : bit k (put_bit k on w) ≡ on
  unfolding put_bit
  put_same = bit-to_z k (put k (digit on) (bits w)) (put-fits k on (bits w) h (bits-fits w)) ∙ ap (λ (m : ℕ). eqb m 1) (put-here k (digit on) (bits w) (digit_lt on)) ∙ digit-is on

  -- and the others
  pub put_other : (j : ℕ) → (j ≡ k → ⊥) → bit j (put_bit k on w) ≡ bit j w
  unfolding put_bit bit
  put_other j n =
      bit-to_z j (put k (digit on) (bits w)) (put-fits k on (bits w) h (bits-fits w))
      ∙ ap (λ (m : ℕ). eqb m 1) (⊎_elim (put_low k (digit on) (bits w) j) (put-high k (digit on) (bits w) j (digit_lt on)) (apart j k n))
    where
      apart : (j k : ℕ) → (j ≡ k → ⊥) → (j < k) ⊎ (k < j)
      apart zero zero n = absurd (n refl)
      apart zero (suc k) n = inl (omega arith)
      apart (suc j) zero n = inr (omega arith)
      apart (suc j) (suc k) n = ⊎_elim (λ p. inl (omega arith)) (λ p. inr (omega arith)) (apart j k (λ e. n (ap suc e)))

-- ---- what and, or, xor and not are, bit by bit: for who reads the definition, cited by no other proof

digit-of : (d : ℕ) → d < 2 → d ≡ digit (eqb d 1)
digit-of zero h = refl
digit-of (suc zero) h = refl
digit-of (suc (suc d)) h = absurd (omega arith)

-- an operation of numbers that goes by digits, by its table on one digit
by_bits : (f : ℕ → ℕ → ℕ) (op : Bool → Bool → Bool) → ((a b k : ℕ) → f a b / 2 ^ k ≡ f (a / 2 ^ k) (b / 2 ^ k)) → ((a b k : ℕ) → f a b % 2 ^ k ≡ f (a % 2 ^ k) (b % 2 ^ k))
    → eqb (f 1 1) 1 ≡ op true true → eqb (f 1 0) 1 ≡ op true false → eqb (f 0 1) 1 ≡ op false true → eqb (f 0 0) 1 ≡ op false false
    → (k : ℕ) (a b : ℤ) → Fits w64 (f (bits a) (bits b)) → bit k (to_z w64 (f (bits a) (bits b))) ≡ op (bit k a) (bit k b)
unfolding bit
by_bits f op f-shr f-mod e11 e10 e01 e00 k a b fits =
    let x : ℕ = bits a / 2 ^ k in
    let y : ℕ = bits b / 2 ^ k in
    bit-to_z k (f (bits a) (bits b)) fits
    ∙ ap (λ (m : ℕ). eqb (m % 2) 1) (f-shr (bits a) (bits b) k)
    ∙ ap (λ (m : ℕ). eqb m 1) (f-mod x y 1 ∙ ap₂ f (digit-of (x % 2) (omega arith)) (digit-of (y % 2) (omega arith)))
    ∙ table (eqb (x % 2) 1) (eqb (y % 2) 1)
  where
    table : (p q : Bool) → eqb (f (digit p) (digit q)) 1 ≡ op p q
    table true true = e11
    table true false = e10
    table false true = e01
    table false false = e00

module _ (k : ℕ) (a b : ℤ) where
  pub and-bits : bit k (and_w a b) ≡ (bit k a && bit k b)
  unfolding and_w
  and-bits = by_bits bit_and ◌&&◌ and_shr and_mod refl refl refl refl k a b (Fits-and (bits b) (bits-fits a))

  pub or-bits : bit k (or_w a b) ≡ (bit k a || bit k b)
  unfolding or_w
  or-bits = by_bits bit_or ◌||◌ or_shr or_mod refl refl refl refl k a b (Fits-or (bits-fits a) (bits-fits b))

  pub xor-bits : bit k (xor_w a b) ≡ not (beq (bit k a) (bit k b))
  unfolding xor_w
  xor-bits = by_bits bit_xor (λ x y. not (beq x y)) xor_shr xor_mod refl refl refl refl k a b (Fits-xor (bits-fits a) (bits-fits b))

-- not is xor with -1, whose bits are all 1
not-of : (z : ℤ) → bits (not_w z) ≡ (2 ^ 64 - 1) - bits z
unfolding not_w
not-of (pos n) = omega arith
not-of (negsuc n) = omega arith

not-xor : (z : ℤ) → bits (not_w z) ≡ bits (xor_w z (negsuc 0))
unfolding xor_w
not-xor z = not-of z ∙ e (bits z) (bits-fits z).fits ∙ sym (bits-to_z (bit_xor (bits z) (2 ^ 64 - 1)) (Fits-xor (bits-fits z) (bits-fits (negsuc 0))))
  where
    e : (n : ℕ) → n < 2 ^ 64 → (2 ^ 64 - 1) - n ≡ bit_xor n (2 ^ 64 - 1)
    e n h = omega (arith, xor_add_and n (2 ^ 64 - 1), and_mask n 64)

ones_bit : (k : ℕ) → k < 64 → bit k (negsuc 0) ≡ true
unfolding bit
ones_bit k h =
    let w : suc (63 - k) + k ≡ 64 = omega arith in
    let e : 2 ^ 64 - 1 ≡ (2 ^ suc (63 - k) - 1) * 2 ^ k + (2 ^ k - 1) = ap (λ (m : ℕ). 2 ^ m - 1) (sym w) ∙ ones_split (suc (63 - k)) k in
    let q : (2 ^ 64 - 1) / 2 ^ k ≡ 2 ^ suc (63 - k) - 1 = ap (λ (m : ℕ). m / 2 ^ k) e ∙ high (2 ^ suc (63 - k) - 1) k (ones_lt k) in
    let d : (2 ^ 64 - 1) / 2 ^ k % 2 ≡ 1 = omega (arith, q, pow-suc 2 (63 - k), pow_pos (63 - k)) in
    ap (λ (m : ℕ). eqb m 1) d

pub not-bit : (k : ℕ) (z : ℤ) → k < 64 → bit k (not_w z) ≡ not (bit k z)
unfolding bit
not-bit k z h =
    ap (λ (n : ℕ). eqb (n / 2 ^ k % 2) 1) (not-xor z) ∙ xor-bits k z (negsuc 0)
    ∙ ap (λ (t : Bool). not (beq (bit k z) t)) (ones_bit k h) ∙ beq-true (bit k z)
  where
    beq-true : (t : Bool) → not (beq t true) ≡ not t
    beq-true true = refl
    beq-true false = refl
