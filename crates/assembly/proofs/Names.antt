-- Names in a list of names. Assumes nothing.
use mathlib.Core.Path.{◌≡◌, refl, ap, ◌∙◌, subst}
use mathlib.Core.Bool.{Bool, true, false, ◌&&◌, not}
use mathlib.Core.List.{List, [], ◌∷◌}
use Prim.Native.Nat.{ℕ, zero, suc, ◌+◌, ◌<◌}
use native.Mathlib.Omega.{arith}
use lib.ListN.{length, get_or}
use lib.Dec.{ltb, eqb}
use borrow.Author.Tests.{ltb-true, eqb-true, eqb-false}
use Rattle.definition.specs.Encoding.{legal, signature, op_at, allows}
use Rattle.expression.specs.Reader.{same, head, is_letter}
use Rattle.expression.proofs.Spans.{by_bool, clash, every}
use Rattle.expression.proofs.Sound.{both}
use Rattle.assembly.specs.Grammar.{Named, named, mnemonics, registers}
use Rattle.assembly.specs.Reader.{number_from, number_of}

pub same_true : (s t : List ℕ) → same s t ≡ true → s ≡ t
unfolding same
same_true [] [] h = refl
same_true [] (b ∷ t) h = clash h refl
same_true (a ∷ s) [] h = clash h refl
same_true (a ∷ s) (b ∷ t) h =
    let p = both (eqb a b) (same s t) h in
    let e = eqb-true a b p.0 in
    let f = same_true s t p.1 in
    cc

record Found (k : ℕ) (ns : List (List ℕ)) (s : List ℕ) (n : ℕ) : Type 0 where
  i : ℕ
  at : n ≡ k + i
  below : i < length ns
  is : get_or ns i [] ≡ s

found : (k : ℕ) (ns : List (List ℕ)) (s : List ℕ) → number_from k ns s < k + length ns → Found k ns s (number_from k ns s)
unfolding number_from
found k [] s h = absurd (omega arith)
found k (n ∷ ns) s h =
    by_bool (same n s)
    (λ e. rw e (record { i = 0; at = omega arith; below = omega arith; is = same_true n s e }))
    (λ e. let h' : number_from (suc k) ns s < suc k + length ns = let g = rw e at h in omega arith in
    let f = found (suc k) ns s h' in
    let a = f.at in let b = f.below in
    rw e (record { i = suc f.i; at = omega arith; below = omega arith; is = f.is }))

pub name-sound : (ns : List (List ℕ)) (s : List ℕ) → number_of ns s < length ns → Named ns s (number_of ns s)
name-sound ns s h =
    let f = found 0 ns s (omega arith) in
    let e : number_of ns s ≡ f.i = f.at ∙ omega arith in
    let b = f.below in
    subst (λ (u : List ℕ). Named ns u (number_of ns s)) (ap (λ (i : ℕ). get_or ns i []) e ∙ f.is) (named {n = number_of ns s} h)

-- a test for every number below k
unfoldable pub all : ℕ → (ℕ → Bool) → Bool
all zero p = true
all (suc k) p = p k && all k p

pub all-at : (k : ℕ) (p : ℕ → Bool) (n : ℕ) → all k p ≡ true → n < k → p n ≡ true
unfolding all
all-at zero p n h l = absurd (omega arith)
all-at (suc k) p n h l =
    let q = both (p k) (all k p) h in
    by_bool (eqb n k) (λ e. rw (eqb-true n k e) q.0) (λ e. all-at k p n q.1 (let z = eqb-false n k e in omega arith))

pub mnemonic-number : (n : ℕ) → n < 33 → number_of mnemonics (get_or mnemonics n []) ≡ n
unfolding all number_from same
mnemonic-number n h = eqb-true (number_of mnemonics (get_or mnemonics n [])) n (all-at 33 (λ i. eqb (number_of mnemonics (get_or mnemonics i [])) i) n refl h)

pub mnemonic-letters : (n : ℕ) → n < 33 → every is_letter (get_or mnemonics n []) ≡ true
unfolding all every is_letter
mnemonic-letters n h = all-at 33 (λ i. every is_letter (get_or mnemonics i [])) n refl h

pub mnemonic-some : (n : ℕ) → n < 33 → is_letter (head (get_or mnemonics n [])) ≡ true
unfolding all head is_letter
mnemonic-some n h = all-at 33 (λ i. is_letter (head (get_or mnemonics i []))) n refl h

pub register-number : (n : ℕ) → n < 5 → number_of registers (get_or registers n []) ≡ n
unfolding all number_from same
register-number n h = eqb-true (number_of registers (get_or registers n [])) n (all-at 5 (λ i. eqb (number_of registers (get_or registers i [])) i) n refl h)

pub register-letters : (n : ℕ) → n < 5 → every is_letter (get_or registers n []) ≡ true
unfolding all every is_letter
register-letters n h = all-at 5 (λ i. every is_letter (get_or registers i [])) n refl h

pub legal-below : (o m n : ℕ) → legal o m n ≡ true → o < 33
unfolding legal
legal-below o m n h = ltb-true o 33 (both (ltb o 33) _ h).0

-- an operation that takes an operand takes not none
operand-or-none : (o m n : ℕ) → o < 33 → m < 6 → n < 6 → not (legal o (suc m) n && legal o 0 0) ≡ true
unfolding all legal allows signature op_at
operand-or-none o m n h i j =
    all-at 6 (λ z. not (legal o (suc m) z && legal o 0 0)) n
    (all-at 6 (λ y. all 6 (λ z. not (legal o (suc y) z && legal o 0 0))) m
    (all-at 33 (λ x. all 6 (λ y. all 6 (λ z. not (legal x (suc y) z && legal x 0 0)))) o refl h) i) j

pub not-bare : (o m n : ℕ) → 0 < m → m < 7 → n < 6 → legal o m n ≡ true → legal o 0 0 ≡ false
not-bare o zero n z i j h = absurd (omega arith)
not-bare o (suc m) n z i j h =
    let q = operand-or-none o m n (legal-below o (suc m) n h) (omega arith) j in
    by_bool (legal o 0 0) (λ e. clash (rw (h, e) at q) refl) (λ e. e)
