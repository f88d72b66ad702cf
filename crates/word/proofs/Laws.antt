-- Laws of the operations on words: what the machine computes on 64 bits is what the definition says of numbers.
use Rattle.std.proofs.Common.{◌≡◌, ℕ, zero, suc, ◌+◌, ◌-◌, ◌*◌, ◌/◌, ◌%◌, ◌^◌, ◌<◌, ◌≤◌, min, Bool, true, false, not, eqb, ltb, ℤ, pos, negsuc, ◌+ℤ◌, ◌-ℤ◌, ◌*ℤ◌, neg_ℤ, nat_abs, sym, refl, ap, ◌∙◌, ap₂, mul-le-mul_right, mul_assoc, mul_comm, div-lt_iff_lt-mul, add-mul, mul-le-mul_left, one-mul, pow-suc, div-add-mod', le-div_iff_mul-le, zero-mul, mul-add, arith, pow_pos, shl_exact, to_z-of_z, w64, Fits, SFits, to_z, of_z, ltb-false, ltb-true, le-ltb, lt-ltb, eq-eqb, ne_eqb, eqb-true}
use Rattle.std.specs.Int.{int_wrapping_add, int_wrapping_sub}
use Rattle.std.specs.Bool.{FalseIff}
use mathlib.Core.Bool.{beq}
use native.Mathlib.Nat.{mul-sub}
use lib.IntN.{sub_ℕ}
use lib.Signed.{mag, lt_z}
use lib.Bits.{bit_and, bit_or, and_step, and_zero_l, or_zero_r}
use lib.Pow.{pow-lt}
use mir.Val.{bool_byte}
use mir.Facts.{Fits-of_z}
use borrow.Author.Tests.{eqb-false}
use Rattle.definition.specs.Word.{bits, wrap, is_word, eq_z, digit}
use Rattle.definition.proofs.Bits.{bits-of_z, put, put-here, and-bit, or-bit}
use Rattle.definition.proofs.Words.{is_word_lem}

-- ---- cases of a test, of a difference, of bits

pub ltb-elim : (a b : ℕ) {P : Type 0} → (ltb a b ≡ true → a < b → P) → (ltb a b ≡ false → b ≤ a → P) → P
ltb-elim a b {P} f g = by (ltb a b) refl
  where
    by : (t : Bool) → ltb a b ≡ t → P
    by true e = f e (ltb-true a b e)
    by false e = g e (ltb-false a b e)

ltb-is : (a b : ℕ) {t : Bool} → (a < b → t ≡ true) → (b ≤ a → t ≡ false) → ltb a b ≡ t
ltb-is a b f g = ltb-elim a b (λ e h. e ∙ sym (f h)) (λ e h. e ∙ sym (g h))

-- a difference of two naturals
pub sub-ind : (a b : ℕ) (P : ℤ → Type 0) → (a < b → P (negsuc (b - suc a))) → (b ≤ a → P (pos (a - b))) → P (sub_ℕ a b)
sub-ind a b P f g = ltb-elim a b (λ e h. rw e (f h)) (λ e h. rw e (g h))

-- bits, read as a word
pub to_z-ind : (n : ℕ) (P : ℤ → Type 0) → (n < 2 ^ 63 → P (pos n)) → (2 ^ 63 ≤ n → P (negsuc (2 ^ 64 - suc n))) → P (to_z w64 n)
to_z-ind n P f g = ltb-elim n (2 ^ 63) (λ e h. rw e (f h)) (λ e h. rw e (g h))

-- ---- what the machine reads back from a word's bits

-- from the bound as a call's result or a read element has it
pub back : (z : ℤ) → mag z < 2 ^ 63 → to_z w64 (of_z w64 z) ≡ z
back z h = to_z-of_z {w = w64} {z = z} (record { sfits = h })

-- ---- the sign

-- what a test of the sign says
pub negative : (z : ℤ) → lt_z z (pos 0) ≡ true → z ≡ negsuc (mag z)
negative (pos n) h = let k : n < 0 = ltb-true n 0 h in absurd (omega arith)
negative (negsuc n) h = refl

pub pos-sign : (n : ℕ) → lt_z (pos n) (pos 0) ≡ false
pos-sign n = le-ltb n 0 (omega arith)

-- whether two signs differ
abbrev pub differ : ℤ → ℤ → Bool
differ a b = not (beq (lt_z a (pos 0)) (lt_z b (pos 0)))

-- ---- sum and difference

pub add-bits : (a b : ℤ) → (bits a + bits b) % 2 ^ 64 ≡ bits (a +ℤ b)
add-bits (pos a) (pos b) = omega arith
add-bits (pos a) (negsuc b) = sub-ind a (suc b) (λ (z : ℤ). (bits (pos a) + bits (negsuc b)) % 2 ^ 64 ≡ bits z) (λ h. omega arith) (λ h. omega arith)
add-bits (negsuc a) (pos b) = sub-ind b (suc a) (λ (z : ℤ). (bits (negsuc a) + bits (pos b)) % 2 ^ 64 ≡ bits z) (λ h. omega arith) (λ h. omega arith)
add-bits (negsuc a) (negsuc b) = omega arith

pub sub-bits : (a b : ℤ) (r : ℕ) → r < 2 ^ 64 → (r + bits b) % 2 ^ 64 ≡ bits a → r ≡ bits (a -ℤ b)
sub-bits (pos a) (pos zero) r h e = omega arith
sub-bits (pos a) (pos (suc b)) r h e = sub-ind a (suc b) (λ (z : ℤ). r ≡ bits z) (λ k. omega arith) (λ k. omega arith)
sub-bits (pos a) (negsuc b) r h e = omega arith
sub-bits (negsuc a) (pos zero) r h e = sub-ind 0 (suc a) (λ (z : ℤ). r ≡ bits z) (λ k. omega arith) (λ k. omega arith)
sub-bits (negsuc a) (pos (suc b)) r h e = omega arith
sub-bits (negsuc a) (negsuc b) r h e = sub-ind (suc b) (suc a) (λ (z : ℤ). r ≡ bits z) (λ k. omega arith) (λ k. omega arith)

-- a sum of two words that is no word changes its sign where it wraps
over : (z : ℤ) → mag z < 2 ^ 64 → differ (wrap z) z ≡ not (is_word z)
unfolding wrap is_word
over (pos n) h =
    let e : n % 2 ^ 64 ≡ n = omega arith in
    rw e (to_z-ind n (λ (z : ℤ). not (beq (lt_z z (pos 0)) (ltb n 0)) ≡ not (ltb n (2 ^ 63))) (λ k. rw (pos-sign n, lt-ltb n (2 ^ 63) k)) (λ k. rw (pos-sign n, le-ltb n (2 ^ 63) k)))
over (negsuc n) h =
    let e : n % 2 ^ 64 ≡ n = omega arith in
    rw e (to_z-ind (2 ^ 64 - suc n) (λ (z : ℤ). not (beq (lt_z z (pos 0)) true) ≡ not (ltb n (2 ^ 63)))
    (λ k. rw (pos-sign (2 ^ 64 - suc n), le-ltb n (2 ^ 63) (omega arith))) (λ k. rw (lt-ltb n (2 ^ 63) (omega arith))))

-- what `overflowing_add` and `overflowing_sub` say
pub add-wraps : (a b : ℤ) → SFits w64 a → SFits w64 b → int_wrapping_add w64 a b ≡ wrap (a +ℤ b)
unfolding wrap
add-wraps a b f g = ap (to_z w64) (ap₂ (λ (m n : ℕ). (m + n) % 2 ^ 64) (sym (bits-of_z a f)) (sym (bits-of_z b g)) ∙ add-bits a b)

pub sub-wraps : (a b : ℤ) → SFits w64 a → SFits w64 b → int_wrapping_sub w64 a b ≡ wrap (a -ℤ b)
unfolding wrap
sub-wraps a b f g =
    let r = (of_z w64 a + (2 ^ 64 - of_z w64 b)) % 2 ^ 64 in
    let h : (r + bits b) % 2 ^ 64 ≡ bits a = rw (bits-of_z a f, bits-of_z b g) (less (of_z w64 a) (of_z w64 b) (Fits-of_z f).fits (Fits-of_z g).fits) in
    ap (to_z w64) (sub-bits a b r (omega arith) h)
  where
    less : (x y : ℕ) → x < 2 ^ 64 → y < 2 ^ 64 → ((x + (2 ^ 64 - y)) % 2 ^ 64 + y) % 2 ^ 64 ≡ x
    less x y h k = omega arith

word-fits : (z : ℤ) → is_word z ≡ true → SFits w64 z
unfolding is_word
word-fits (pos n) h = record { sfits = ltb-true n (2 ^ 63) h }
word-fits (negsuc n) h = record { sfits = ltb-true n (2 ^ 63) h }

pub overflow-is : (z : ℤ) (o : Bool) → FalseIff o (SFits w64 z) → o ≡ not (is_word z)
overflow-is z false h = sym (ap not (is_word_lem z h))
overflow-is z true h = by (is_word z) refl
  where
    by : (b : Bool) → is_word z ≡ b → true ≡ not b
    by false e = refl
    by true e = absurd (h (word-fits z e))

-- ---- shifts and the product

-- a multiple of 2^64 less m, in its 64 low bits
neg_low : (m p : ℕ) → m ≤ p * 2 ^ 64 → (p * 2 ^ 64 - m) % 2 ^ 64 ≡ bits (neg_ℤ (pos m))
neg_low zero p h = omega arith
neg_low (suc m) p h = omega arith

pub shl-bits : (x : ℤ) (p : ℕ) → SFits w64 x → (of_z w64 x * p) % 2 ^ 64 ≡ bits (x *ℤ pos p)
shl-bits (pos a) p f = refl
shl-bits (negsuc a) p f =
    let h : suc a ≤ 2 ^ 64 = omega (arith, f.sfits) in
    ap (λ (x : ℕ). x % 2 ^ 64) (mul_comm (2 ^ 64 - suc a) p ∙ mul-sub p (2 ^ 64) (suc a) ∙ ap (λ (m : ℕ). p * 2 ^ 64 - m) (mul_comm p (suc a)))
    ∙ neg_low (suc a * p) p (omega (arith, mul-le-mul_right p h))

pub mul-bits : (a b : ℤ) → SFits w64 a → SFits w64 b → (of_z w64 a * of_z w64 b) % 2 ^ 64 ≡ bits (a *ℤ b)
mul-bits a (pos b) f g = shl-bits a b f
mul-bits (pos a) (negsuc b) f g =
    let h : suc b ≤ 2 ^ 64 = omega (arith, g.sfits) in
    ap (λ (x : ℕ). x % 2 ^ 64) (mul-sub a (2 ^ 64) (suc b)) ∙ neg_low (a * suc b) a (omega (arith, mul-le-mul_left a h))
mul-bits (negsuc a) (negsuc b) f g =
    let h : suc b ≤ 2 ^ 64 = omega (arith, g.sfits) in
    let k : suc a ≤ 2 ^ 64 = omega (arith, f.sfits) in
    let e : (2 ^ 64 - suc a) * (2 ^ 64 - suc b) ≡ (2 ^ 64 - suc a) * 2 ^ 64 - (2 ^ 64 - suc a) * suc b = mul-sub (2 ^ 64 - suc a) (2 ^ 64) (suc b) in
    let d : (2 ^ 64 - suc a) * suc b ≡ suc b * 2 ^ 64 - suc a * suc b =
    mul_comm (2 ^ 64 - suc a) (suc b) ∙ mul-sub (suc b) (2 ^ 64) (suc a) ∙ ap (λ (m : ℕ). suc b * 2 ^ 64 - m) (mul_comm (suc b) (suc a)) in
    both (suc a * suc b) (suc b) (2 ^ 64 - suc a) ((2 ^ 64 - suc a) * suc b) ((2 ^ 64 - suc a) * (2 ^ 64 - suc b)) d (omega (arith, mul-le-mul_right (suc b) k)) e
    (omega (arith, mul-le-mul_left (2 ^ 64 - suc a) h))
  where
    both : (m s A X Y : ℕ) → X ≡ s * 2 ^ 64 - m → m ≤ s * 2 ^ 64 → Y ≡ A * 2 ^ 64 - X → X ≤ A * 2 ^ 64 → Y % 2 ^ 64 ≡ m % 2 ^ 64
    both m s A X Y p q r t = omega arith

-- the limit of a product of equal signs, and of different ones
over-same : (m : ℕ) → ltb (2 ^ 63 - 1) m ≡ not (is_word (pos m))
unfolding is_word
over-same m = ltb-is (2 ^ 63 - 1) m (λ h. ap not (le-ltb m (2 ^ 63) (omega arith))) (λ h. ap not (lt-ltb m (2 ^ 63) (omega arith)))

over-other : (m : ℕ) → ltb (2 ^ 63) m ≡ not (is_word (neg_ℤ (pos m)))
unfolding is_word
over-other zero = refl
over-other (suc m) = ltb-is (2 ^ 63) (suc m) (λ h. ap not (le-ltb m (2 ^ 63) (omega arith))) (λ h. ap not (lt-ltb m (2 ^ 63) (omega arith)))

pub mul-over : (a b : ℤ) → ltb (2 ^ 63 - 1 + bool_byte (differ a b)) (nat_abs a * nat_abs b) ≡ not (is_word (a *ℤ b))
mul-over (pos a) (pos b) = rw (pos-sign a, pos-sign b) (over-same (a * b))
mul-over (pos a) (negsuc b) = rw (pos-sign a) (over-other (a * suc b))
mul-over (negsuc a) (pos b) = rw (pos-sign b) (over-other (suc a * b))
mul-over (negsuc a) (negsuc b) = over-same (suc a * suc b)

pub limit-fits : (t : Bool) → Fits w64 (2 ^ 63 - 1 + bool_byte t)
limit-fits true = record { fits = omega arith }
limit-fits false = record { fits = omega arith }

pub above-by : (m n l : ℕ) → 0 < m → ltb (l / m) n ≡ ltb l (m * n)
above-by m n l z =
    ltb-is (l / m) n (λ h. lt-ltb l (m * n) (omega (arith, mul_comm m n, (div-lt_iff_lt-mul z).0 h)))
    (λ h. le-ltb l (m * n) (omega (arith, mul_comm m n, (le-div_iff_mul-le z).0 h)))

-- the product by halves
columns : (a b c d : ℕ) → (a * 2 ^ 32 + b) * (c * 2 ^ 32 + d) ≡ a * c * 2 ^ 64 + (a * d + b * c) * 2 ^ 32 + b * d
columns a b c d =
    let e : (a * 2 ^ 32 + b) * (c * 2 ^ 32 + d) ≡ a * 2 ^ 32 * (c * 2 ^ 32) + a * 2 ^ 32 * d + (b * (c * 2 ^ 32) + b * d) =
    add-mul (a * 2 ^ 32) b (c * 2 ^ 32 + d) ∙ ap₂ (λ (x y : ℕ). x + y) (mul-add (a * 2 ^ 32) (c * 2 ^ 32) d) (mul-add b (c * 2 ^ 32) d) in
    omega (arith, e, swap a (2 ^ 32) (c * 2 ^ 32), swap a (2 ^ 32) d, sym (mul_assoc a c (2 ^ 32)), sym (mul_assoc b c (2 ^ 32)))
  where
    swap : (x y z : ℕ) → x * y * z ≡ x * z * y
    swap x y z = mul_assoc x y z ∙ ap (λ (t : ℕ). x * t) (mul_comm y z) ∙ sym (mul_assoc x z y)

pub halves : (x y : ℕ) → (x % 2 ^ 32 * (y % 2 ^ 32) + (x / 2 ^ 32 * (y % 2 ^ 32) + x % 2 ^ 32 * (y / 2 ^ 32)) % 2 ^ 64 * 2 ^ 32 % 2 ^ 64) % 2 ^ 64 ≡ (x * y) % 2 ^ 64
halves x y =
    let e : x * y ≡ (x / 2 ^ 32 * 2 ^ 32 + x % 2 ^ 32) * (y / 2 ^ 32 * 2 ^ 32 + y % 2 ^ 32) = ap₂ (λ (a b : ℕ). a * b) (sym (div-add-mod' x (2 ^ 32))) (sym (div-add-mod' y (2 ^ 32))) in
    sums (x / 2 ^ 32 * (y % 2 ^ 32)) (x % 2 ^ 32 * (y / 2 ^ 32)) (x % 2 ^ 32 * (y % 2 ^ 32)) (x / 2 ^ 32 * (y / 2 ^ 32)) (x * y)
    (e ∙ columns (x / 2 ^ 32) (x % 2 ^ 32) (y / 2 ^ 32) (y % 2 ^ 32))
  where
    sums : (A B C D P : ℕ) → P ≡ D * 2 ^ 64 + (A + B) * 2 ^ 32 + C → (C + (A + B) % 2 ^ 64 * 2 ^ 32 % 2 ^ 64) % 2 ^ 64 ≡ P % 2 ^ 64
    sums A B C D P e = omega arith

-- ---- equality and the quotient

pub eq-bits : (a b : ℤ) → SFits w64 a → SFits w64 b → eqb (of_z w64 a) (of_z w64 b) ≡ eq_z a b
eq-bits (pos a) (pos b) f g = refl
eq-bits (pos a) (negsuc b) f g = ne_eqb a (2 ^ 64 - suc b) (λ e. omega (arith, f.sfits, g.sfits))
eq-bits (negsuc a) (pos b) f g = ne_eqb (2 ^ 64 - suc a) b (λ e. omega (arith, f.sfits, g.sfits))
eq-bits (negsuc a) (negsuc b) f g = by (eqb a b) refl
  where
    by : (t : Bool) → eqb a b ≡ t → eqb (2 ^ 64 - suc a) (2 ^ 64 - suc b) ≡ eqb a b
    by true e = eq-eqb (2 ^ 64 - suc a) (2 ^ 64 - suc b) (omega (arith, eqb-true a b e)) ∙ sym e
    by false e = ne_eqb (2 ^ 64 - suc a) (2 ^ 64 - suc b) (λ d. eqb-false a b e (omega (arith, f.sfits, g.sfits))) ∙ sym e

-- ---- single bits

-- one digit, shifted to place k
pub shl-digit : (d k : ℕ) → d < 2 → k < 64 → (d * 2 ^ k) % 2 ^ 64 ≡ d * 2 ^ k
shl-digit d k h l = shl_exact 1 k 64 h (omega arith)

pub one_shl : (k : ℕ) → k < 64 → (1 * 2 ^ k) % 2 ^ 64 ≡ 2 ^ k
one_shl k h = shl-digit 1 k (omega arith) h ∙ one-mul (2 ^ k)

-- a digit is 0 or 1
two : (P : ℕ → Type 0) → P 0 → P 1 → (d : ℕ) → d < 2 → P d
two P z o zero h = z
two P z o (suc zero) h = o
two P z o (suc (suc d)) h = absurd (omega arith)

pub mask-test : (n k : ℕ) → not (eqb (bit_and n (2 ^ k)) 0) ≡ eqb (n / 2 ^ k % 2) 1
mask-test n k =
    ap (λ (m : ℕ). not (eqb m 0)) (and-bit n k)
    ∙ two (λ (d : ℕ). not (eqb (d * 2 ^ k) 0) ≡ eqb d 1) (ap (λ (m : ℕ). not (eqb m 0)) (zero-mul (2 ^ k)))
    (ap (λ (m : ℕ). not (eqb m 0)) (one-mul (2 ^ k)) ∙ ap not (ne_eqb (2 ^ k) 0 (λ e. omega (arith, pow_pos k)))) (n / 2 ^ k % 2) (omega arith)

-- the digits of n where m has 0, and those where m has 1
and-not : (w n m : ℕ) → n < 2 ^ w → m < 2 ^ w → bit_and n ((2 ^ w - 1) - m) + bit_and n m ≡ n
and-not zero n m h k =
    let e : n ≡ 0 = omega arith in
    rw e (omega (arith, and_zero_l ((2 ^ 0 - 1) - m), and_zero_l m))
and-not (suc w) n m h k =
    let p : 2 ^ suc w ≡ 2 ^ w * 2 = pow-suc 2 w in
    let q : ((2 ^ suc w - 1) - m) / 2 ≡ (2 ^ w - 1) - m / 2 = rw p (half (2 ^ w) m (rw p at k)) in
    let r : ((2 ^ suc w - 1) - m) % 2 ≡ 1 - m % 2 = rw p (last (2 ^ w) m (rw p at k)) in
    let t : min (n % 2) (1 - m % 2) + min (n % 2) (m % 2) ≡ n % 2 =
    two (λ (x : ℕ). min x (1 - m % 2) + min x (m % 2) ≡ x)
    (two (λ (y : ℕ). min 0 (1 - y) + min 0 y ≡ 0) refl refl (m % 2) (omega arith))
    (two (λ (y : ℕ). min 1 (1 - y) + min 1 y ≡ 1) refl refl (m % 2) (omega arith)) (n % 2) (omega arith) in
    rw (and_step n ((2 ^ suc w - 1) - m), and_step n m, q, r)
    (whole n (bit_and (n / 2) ((2 ^ w - 1) - m / 2)) (bit_and (n / 2) (m / 2)) (min (n % 2) (1 - m % 2)) (min (n % 2) (m % 2)) (and-not w (n / 2) (m / 2) (below (2 ^ w) n (rw p at h)) (below (2 ^ w) m (rw p at k))) t)
  where
    -- over plain numbers, where `omega` has little to read
    half : (P a : ℕ) → a < P * 2 → ((P * 2 - 1) - a) / 2 ≡ (P - 1) - a / 2
    half P a l = omega arith

    last : (P a : ℕ) → a < P * 2 → ((P * 2 - 1) - a) % 2 ≡ 1 - a % 2
    last P a l = omega arith

    below : (P a : ℕ) → a < P * 2 → a / 2 < P
    below P a l = omega arith

    whole : (a x y u v : ℕ) → x + y ≡ a / 2 → u + v ≡ a % 2 → (x * 2 + u) + (y * 2 + v) ≡ a
    whole a x y u v e f = omega arith

and-clear : (n k : ℕ) → k < 64 → n < 2 ^ 64 → bit_and n ((2 ^ 64 - 1) - 2 ^ k) ≡ put k 0 n
and-clear n k h f = omega (arith, and-not 64 n (2 ^ k) f (pow-lt h), and-bit n k, zero-mul (2 ^ k))

-- a digit put twice
put-put : (k d e n : ℕ) → d < 2 → put k e (put k d n) ≡ put k e n
put-put k d e n h = rw (put-here k d n h) (omega arith)

pub mask-put : (n k : ℕ) (on : Bool) → k < 64 → n < 2 ^ 64 → bit_or (bit_and n ((2 ^ 64 - 1) - (1 * 2 ^ k) % 2 ^ 64)) ((bool_byte on * 2 ^ k) % 2 ^ 64) ≡ put k (digit on) n
mask-put n k true h f = rw (one_shl k h, and-clear n k h f) (or-bit (put k 0 n) k ∙ put-put k 0 1 n (omega arith))
mask-put n k false h f = rw (one_shl k h, and-clear n k h f, zero-mul (2 ^ k)) (or_zero_r (n - n / 2 ^ k % 2 * 2 ^ k + 0))
