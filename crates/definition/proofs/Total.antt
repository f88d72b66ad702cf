-- The sum that stops: it is at most its largest number, plain up to it, grows with each part, and adds up in any grouping.
use mathlib.Core.Path.{◌≡◌, refl, sym, ap, ◌∙◌}
use mathlib.Core.Bool.{Bool, true, false, cond}
use Prim.Native.Nat.{ℕ, zero, suc, ◌+◌, ◌<◌, ◌≤◌}
use native.Mathlib.Omega.{arith}
use lib.Dec.{leb}
use borrow.Author.Tests.{leb-true, leb-false, le-leb}
use Rattle.definition.specs.Total.{TOTAL-MOST, total}

pub total-most : (t u : ℕ) → total t u ≤ TOTAL-MOST
unfolding total
total-most t u = go (leb (t + u) TOTAL-MOST) refl
  where
    go : (b : Bool) → leb (t + u) TOTAL-MOST ≡ b → cond b (t + u) TOTAL-MOST ≤ TOTAL-MOST
    go true e = leb-true (t + u) TOTAL-MOST e
    go false e = omega arith

pub total-plain : (t u : ℕ) → t + u ≤ TOTAL-MOST → total t u ≡ t + u
unfolding total
total-plain t u h = ap (λ (b : Bool). cond b (t + u) TOTAL-MOST) (le-leb (t + u) TOTAL-MOST h)

pub gt-leb : (a b : ℕ) → b < a → leb a b ≡ false
gt-leb a b h = go (leb a b) refl
  where
    go : (c : Bool) → leb a b ≡ c → c ≡ false
    go true e = let l : a ≤ b = leb-true a b e in absurd (omega arith)
    go false e = refl

pub total-full : (t u : ℕ) → TOTAL-MOST < t + u → total t u ≡ TOTAL-MOST
unfolding total
total-full t u h = ap (λ (b : Bool). cond b (t + u) TOTAL-MOST) (gt-leb (t + u) TOTAL-MOST h)

pub total-zero : (t : ℕ) → t ≤ TOTAL-MOST → total 0 t ≡ t
total-zero t h = let z : 0 + t ≡ t = omega arith in total-plain 0 t (omega arith) ∙ z

-- full stays full
filled : (t : ℕ) → total t TOTAL-MOST ≡ TOTAL-MOST
filled zero = total-plain 0 TOTAL-MOST (omega arith)
filled (suc t) = total-full (suc t) TOTAL-MOST (omega arith)

filled-left : (x : ℕ) → total TOTAL-MOST x ≡ TOTAL-MOST
filled-left zero = total-plain TOTAL-MOST 0 (omega arith)
filled-left (suc x) = total-full TOTAL-MOST (suc x) (omega arith)

pub total-assoc : (t u x : ℕ) → total t (total u x) ≡ total (total t u) x
total-assoc t u x = go (leb (t + u + x) TOTAL-MOST) refl
  where
    go : (c : Bool) → leb (t + u + x) TOTAL-MOST ≡ c → total t (total u x) ≡ total (total t u) x
    go true r =
        let l : t + u + x ≤ TOTAL-MOST = leb-true _ _ r in
        let e₁ : total u x ≡ u + x = total-plain u x (omega arith) in
        let e₂ : total t u ≡ t + u = total-plain t u (omega arith) in
        let f₁ : total t (u + x) ≡ t + (u + x) = total-plain t (u + x) (omega arith) in
        let f₂ : total (t + u) x ≡ t + u + x = total-plain (t + u) x (omega arith) in
        let z : t + (u + x) ≡ t + u + x = omega arith in
        ap (total t) e₁ ∙ f₁ ∙ z ∙ sym (ap (λ (y : ℕ). total y x) e₂ ∙ f₂)
    go false r = first (leb (u + x) TOTAL-MOST) refl ∙ sym (second (leb (t + u) TOTAL-MOST) refl)
      where
        more : TOTAL-MOST < t + u + x
        more = leb-false _ _ r

        first : (a : Bool) → leb (u + x) TOTAL-MOST ≡ a → total t (total u x) ≡ TOTAL-MOST
        first true p = let l = more in ap (total t) (total-plain u x (leb-true _ _ p)) ∙ total-full t (u + x) (omega arith)
        first false p = ap (total t) (total-full u x (leb-false _ _ p)) ∙ filled t

        second : (b : Bool) → leb (t + u) TOTAL-MOST ≡ b → total (total t u) x ≡ TOTAL-MOST
        second true q = ap (λ (y : ℕ). total y x) (total-plain t u (leb-true _ _ q)) ∙ total-full (t + u) x more
        second false q = ap (λ (y : ℕ). total y x) (total-full t u (leb-false _ _ q)) ∙ filled-left x
