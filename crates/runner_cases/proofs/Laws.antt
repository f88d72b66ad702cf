-- When a case passes, how the tally grows and where it ends. Assumes nothing.
use Rattle.std.proofs.Common.{◌≡◌, refl, sym, ap, ◌∙◌, Bool, cond, ◌&&◌, true, false, List, [], ◌∷◌, ℕ, zero, suc, ◌+◌, ◌*◌, ◌-◌, ◌<◌, ◌≤◌, arith, eqb, length, get_or, drop, drop-cons, add-one, length-drop, Some, None}
use Rattle.std.specs.Int.{from_bool}
use lib.Pointwise.{pointwise}
use lib.Seq.{drop-length}
use Rattle.std.proofs.lemmas.Grind.{common_steps}
use Rattle.runner_cases.specs.declared.Tally.{Tally}
use Rattle.runner_cases.specs.Cases.{digit_of, length_of, Whole, case_of, same_text, passing, tally, counted, tallied, tally_of}

-- ---- two texts

pub same_is : (s t : List ℕ) → pointwise eqb s t ≡ same_text s t
unfolding same_text
same_is [] [] = refl
same_is [] (b ∷ t) = refl
same_is (a ∷ s) [] = refl
same_is (a ∷ s) (b ∷ t) = ap (λ (r : Bool). eqb a b && r) (same_is s t)

-- ---- the length that digits say

-- digits behind a number
abbrev pub number : ℕ → List ℕ → ℕ
number n [] = n
number n (b ∷ t) = number (n * 10 + digit_of b) t

pub number_more : (n i : ℕ) (t : List ℕ) → i < length t → number n (drop i t) ≡ number (n * 10 + digit_of (get_or t i 0)) (drop (i + 1) t)
number_more n i t h = rw (add-one, drop-cons t i 0 h)

pub number_end : (n i : ℕ) (t : List ℕ) → i ≡ length t → number n (drop i t) ≡ n
number_end n i t e = rw (e, drop-length)

seven : (t : List ℕ) → length t ≡ 7 → number 0 t ≡ digit_of (get_or t 0 0) * 1000000 + digit_of (get_or t 1 0) * 100000 + digit_of (get_or t 2 0) * 10000 + (digit_of (get_or t 3 0) * 1000 + digit_of (get_or t 4 0) * 100 + digit_of (get_or t 5 0) * 10) + digit_of (get_or t 6 0)
seven [] h = absurd (omega arith)
seven (a ∷ []) h = absurd (omega arith)
seven (a ∷ b ∷ []) h = absurd (omega arith)
seven (a ∷ b ∷ c ∷ []) h = absurd (omega arith)
seven (a ∷ b ∷ c ∷ d ∷ []) h = absurd (omega arith)
seven (a ∷ b ∷ c ∷ d ∷ e ∷ []) h = absurd (omega arith)
seven (a ∷ b ∷ c ∷ d ∷ e ∷ f ∷ []) h = absurd (omega arith)
seven (a ∷ b ∷ c ∷ d ∷ e ∷ f ∷ g ∷ []) h = omega arith
seven (a ∷ b ∷ c ∷ d ∷ e ∷ f ∷ g ∷ x ∷ t) h = absurd (omega arith)

pub length_is : (t : List ℕ) → length t ≡ 7 → number 0 t ≡ length_of t
unfolding length_of
length_is t h = seven t h

-- ---- the tally

-- a case has 16 bytes and more
pub rest_shorter : (s : List ℕ) {c : Whole} → case_of s ≡ Some c → length c.2 + 16 ≤ length s
unfolding case_of
rest_shorter s e = grind (arith, common_steps, length-drop)

tallied-more : (k : ℕ) (s : List ℕ) (t : Tally) {c : Whole} → 0 < k → 0 < length s → case_of s ≡ Some c → tallied k s t ≡ tallied (k - 1) c.2 (counted c t)
unfolding tallied
tallied-more k [] t h i e = absurd (omega arith)
tallied-more zero (b ∷ s) t h i e = absurd (omega arith)
tallied-more (suc k) (b ∷ s) t h i e =
    let z : suc k - 1 ≡ k = omega arith in
    rw (z, e)

tallied-none : (k : ℕ) (s : List ℕ) (t : Tally) → 0 < length s → case_of s ≡ None → tallied k s t ≡ None
unfolding tallied
tallied-none k [] t h e = absurd (omega arith)
tallied-none zero (b ∷ s) t h e = refl
tallied-none (suc k) (b ∷ s) t h e = rw e

-- `seen` of the cases are counted, and this is what is left of the text
abbrev pub Counted : List ℕ → List ℕ → ℕ → ℕ → Type 0
Counted s rest seen passed = (length rest + seen ≤ length s) × (tallied (length s - seen) rest (tally seen passed) ≡ tally_of s)

pub counted_none : (s : List ℕ) → Counted s s 0 0
unfolding tally_of
counted_none s =
    let z : length s - 0 ≡ length s = omega arith in
    (omega arith, ap (λ (k : ℕ). tallied k s (tally 0 0)) z)

pub counted_more : (s rest : List ℕ) (seen passed one : ℕ) {c : Whole} → Counted s rest seen passed → 0 < length rest → case_of rest ≡ Some c → one ≡ cond (passing c.0 c.1) 1 0 → Counted s c.2 (seen + 1) (passed + one)
counted_more s rest seen passed one is h e o =
    let k : length s - (seen + 1) ≡ length s - seen - 1 = omega arith in
    (omega (arith, rest_shorter rest e), rw (k, o) (sym (tallied-more (length s - seen) rest (tally seen passed) (omega (arith, is.0)) h e) ∙ is.1))

pub counted_all : (s rest : List ℕ) (seen passed : ℕ) → Counted s rest seen passed → length rest ≡ 0 → Some (tally seen passed) ≡ tally_of s
unfolding tallied
counted_all s [] seen passed is h = is.1
counted_all s (b ∷ t) seen passed is h = absurd (omega arith)

pub counted_part : (s rest : List ℕ) (seen passed : ℕ) → Counted s rest seen passed → 0 < length rest → case_of rest ≡ None → None ≡ tally_of s
counted_part s rest seen passed is h e = sym (tallied-none (length s - seen) rest (tally seen passed) h e) ∙ is.1

-- what a verdict adds
pub one_or_none : (b : Bool) → from_bool b ≤ 1
one_or_none true = omega arith
one_or_none false = omega arith

pub adds_is : (b : Bool) → from_bool b ≡ cond b 1 0
adds_is true = refl
adds_is false = refl
