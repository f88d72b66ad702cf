-- How a text grows, and the digits of a number. Assumes nothing.
use mathlib.Core.Path.{◌≡◌, sym, ap, ◌∙◌}
use mathlib.Core.Bool.{true, false, true≢false, false≢true}
use mathlib.Core.List.{List, [], ◌∷◌, ◌++◌, append_assoc}
use Prim.Native.Nat.{ℕ, zero, suc, ◌+◌, ◌-◌, ◌/◌, ◌%◌, ◌^◌, ◌≤◌, ◌<◌}
use native.Mathlib.Omega.{arith}
use native.Mathlib.Nat.{pow-zero, pow-suc}
use lib.IntN.{ℤ, pos, negsuc, nat_abs}
use lib.ListN.{length, drop, length-append}
use lib.Seq.{drop-length, drop-drop}
use borrow.Author.Tests.{lt-ltb, le-ltb}
use Rattle.std.proofs.lemmas.Grind.{common_steps}
use Rattle.io.specs.Digits.{hex_digit_ascii, last_digits, IsDigitCount}
use Rattle.word.proofs.Laws.{ltb-elim}
use Rattle.printing.specs.Decimal.{decimal_in, decimal, numeral, is_negative}

-- ---- a text grows

-- a text put behind another
pub put_then : (x t u : List ℕ) {y z : List ℕ} → y ≡ x ++ t → z ≡ y ++ u → z ≡ x ++ (t ++ u)
put_then x t u p q = q ∙ ap (λ (l : List ℕ). l ++ u) p ∙ append_assoc x t u

-- the next piece of what is left
pub put_next : (x p rest : List ℕ) {y left whole : List ℕ} → y ≡ x ++ p → left ≡ p ++ rest → x ++ left ≡ whole → y ++ rest ≡ whole
put_next x p rest e l w = ap (λ (t : List ℕ). t ++ rest) e ∙ append_assoc x p rest ∙ ap (λ (t : List ℕ). x ++ t) (sym l) ∙ w

pub drop-end {ℓ} : {A : Type ℓ} (l : List A) (i : ℕ) → i ≡ length l → drop i l ≡ []
drop-end l i e = rw (e, drop-length)

-- what two texts, one after the other, keep behind them
pub kept_then : (x y z : List ℕ) (a b : ℕ) → a ≤ b → drop a y ≡ drop a x → drop b z ≡ drop b y → drop b z ≡ drop b x
kept_then x y z a b h p q =
    let e : a + (b - a) ≡ b = omega arith in
    let f : drop b y ≡ drop (b - a) (drop a y) = sym (drop-drop (b - a) a y ∙ ap (λ (k : ℕ). drop k y) e) in
    let g : drop b x ≡ drop (b - a) (drop a x) = sym (drop-drop (b - a) a x ∙ ap (λ (k : ℕ). drop k x) e) in
    q ∙ f ∙ ap (λ (l : List ℕ). drop (b - a) l) p ∙ sym g

-- ---- the digits are the ones that `io::decimal` gives

one-digit : (k n : ℕ) → n < 10 → decimal_in (suc k) n ≡ last_digits 10 1 n
unfolding decimal_in
one-digit k n h =
    let e : n % 10 ≡ n = omega arith in
    rw (e, lt-ltb n 10 h)

more-digits : (k n : ℕ) → 10 ≤ n → decimal_in (suc k) n ≡ decimal_in k (n / 10) ++ (hex_digit_ascii (n % 10) ∷ [])
unfolding decimal_in
more-digits k n h = rw (le-ltb n 10 h, lt-ltb (n % 10) 10 (omega arith))

pow_pos : (j : ℕ) → 1 ≤ 10 ^ j
pow_pos zero = omega (arith, pow-zero 10)
pow_pos (suc j) = let a = pow_pos j in omega (arith, pow-suc 10 j)

-- suc k places are enough
fewest : (k j n : ℕ) → n < 10 ^ suc k → n < 10 ^ suc j → (1 < suc j → 10 ^ j ≤ n) → decimal_in (suc k) n ≡ last_digits 10 (suc j) n
fewest k zero n f h l = one-digit k n (omega (arith, pow-suc 10 0))
fewest zero (suc j) n f h l =
    let p = pow-suc 10 j in
    let o = pow_pos j in
    let m = l (omega arith) in
    absurd (omega arith)
fewest (suc k) (suc j) n f h l =
    let g = pow-suc 10 (suc k) in
    let p = pow-suc 10 (suc j) in
    let q = pow-suc 10 j in
    let o = pow_pos j in
    let m = l (omega arith) in
    more-digits (suc k) n (omega arith) ∙ ap (λ (s : List ℕ). s ++ (hex_digit_ascii (n % 10) ∷ [])) (fewest k j (n / 10) (omega arith) (omega arith) (λ _. omega arith))

pub decimal-is : (k n : ℕ) → IsDigitCount 10 1 n k → n < 2 ^ 64 → last_digits 10 k n ≡ decimal n
decimal-is zero n f h = absurd (omega arith)
decimal-is (suc j) n f h =
    let e : suc j - 1 ≡ j = omega arith in
    let l : 1 < suc j → 10 ^ j ≤ n = rw e at f.2 in
    sym (fewest 19 j n (omega arith) f.1 l)

-- ---- the sign

pub minus-text : (v : ℤ) (n : ℕ) → is_negative v ≡ true → n ≡ nat_abs v → numeral v ≡ 45 ∷ decimal n
unfolding numeral
minus-text (pos k) n h e = absurd (false≢true h)
minus-text (negsuc k) n h e = rw e

pub plus-text : (v : ℤ) (n : ℕ) → is_negative v ≡ false → n ≡ nat_abs v → numeral v ≡ decimal n
unfolding numeral
plus-text (pos k) n h e = rw e
plus-text (negsuc k) n h e = absurd (true≢false h)

-- ---- how long they are

decimal_in-short : (k n : ℕ) → length (decimal_in k n) ≤ k
unfolding decimal_in
decimal_in-short zero n = omega arith
decimal_in-short (suc k) n =
    ltb-elim n 10
    (λ e h. rw e (omega arith))
    (λ e h. let a = decimal_in-short k (n / 10) in rw e (simp length-append (omega arith)))

pub decimal_short : (n : ℕ) → length (decimal n) ≤ 20
decimal_short n = decimal_in-short 20 n

pub numeral_short : (v : ℤ) → length (numeral v) ≤ 21
unfolding numeral
numeral_short (pos n) = let a = decimal_short n in omega arith
numeral_short (negsuc n) = let a = decimal_short (suc n) in omega arith

-- for a function that puts numbers behind one another: `#[tactic(auto, using(printing::proofs::Laws::texts))]`
pub ruleset texts = (common_steps, decimal_short, numeral_short)
