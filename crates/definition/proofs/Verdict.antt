-- The first refusal of a list of tests: what it is where all pass, what it says of each test, and of two lists one after the other.
use mathlib.Core.Path.{◌≡◌, refl, sym, ap, ◌∙◌}
use mathlib.Core.Bool.{Bool, true, false, cond, true≢false, ◌&&◌}
use mathlib.Core.List.{List, [], ◌∷◌, ◌++◌}
use Prim.Native.Nat.{ℕ, zero, suc, ◌<◌}
use native.Mathlib.Omega.{arith}
use lib.Dec.{ltb, eqb}
use borrow.Author.Tests.{ltb-true, eqb-true, ne_eqb}
use Rattle.definition.specs.declared.Done.{Done}
use Rattle.definition.specs.Calls.{Test, test, done, accepted, verdict, passes}

pub and_left : (a b : Bool) → a && b ≡ true → a ≡ true
and_left true b h = refl
and_left false b h = h

pub and_right : (a b : Bool) → a && b ≡ true → b ≡ true
and_right true b h = h
and_right false b h = absurd (true≢false (sym h))

pub and_both : (a b : Bool) → a ≡ true → b ≡ true → a && b ≡ true
and_both true b h k = k
and_both false b h k = h

pub and_second : (a b : Bool) → b ≡ false → a && b ≡ false
and_second true b h = h
and_second false b h = refl

-- ---- tests, all passed

abbrev pub Passes : List Test → Type 0
Passes [] = Unit {0}
Passes (t ∷ ts) = (t.passed ≡ true) × Passes ts

-- one by one
infixr 4 ◌&◌
abbrev pub ◌&◌ : {A B : Type 0} → A → B → A × B
a & b = (a, b)

-- the test at place i of the list, from 0
abbrev pub nth : List Test → ℕ → Test
nth [] i = test 0 0 true
nth (t ∷ ts) zero = t
nth (t ∷ ts) (suc i) = nth ts i

pub passed-at : (ts : List Test) → Passes ts → (i : ℕ) → (nth ts i).passed ≡ true
passed-at [] p i = refl
passed-at (t ∷ ts) p zero = p.0
passed-at (t ∷ ts) p (suc i) = passed-at ts p.1 i

-- two lists one after the other
pub passes-left : (a b : List Test) → Passes (a ++ b) → Passes a
passes-left [] b p = tt
passes-left (t ∷ a) b p = (p.0, passes-left a b p.1)

pub passes-right : (a b : List Test) → Passes (a ++ b) → Passes b
passes-right [] b p = p
passes-right (t ∷ a) b p = passes-right a b p.1

-- ---- verdicts

abbrev refused : Test → Done
refused t = done t.number t.place

-- a refusal's number is not 0, which tells it from an acceptance
abbrev pub numbered : List Test → Bool
numbered [] = true
numbered (t ∷ ts) = ltb 0 t.number && numbered ts

number-above : (t : Test) (ts : List Test) → numbered (t ∷ ts) ≡ true → 0 < t.number
number-above t ts n = ltb-true 0 t.number (and_left _ (numbered ts) n)

pub verdict-passes : (ts : List Test) → numbered ts ≡ true → passes (verdict ts) ≡ true → Passes ts
unfolding verdict
verdict-passes [] n h = tt
verdict-passes (t ∷ ts) n h = go (verdict-passes ts (and_right (ltb 0 t.number) _ n)) t.passed h
  where
    go : (passes (verdict ts) ≡ true → Passes ts) → (b : Bool) → passes (cond b (verdict ts) (refused t)) ≡ true → (b ≡ true) × Passes ts
    go ih true k = (refl, ih k)
    go ih false k =
        let l = number-above t ts n in
        let z : t.number ≡ 0 = eqb-true t.number 0 k in
        absurd (omega arith)

pub passes-verdict : (ts : List Test) → Passes ts → verdict ts ≡ accepted
unfolding verdict
passes-verdict [] p = refl
passes-verdict (t ∷ ts) p = ap (λ (b : Bool). cond b (verdict ts) (refused t)) p.0 ∙ passes-verdict ts p.1

pub verdict-then : (a b : List Test) → numbered a ≡ true → verdict (a ++ b) ≡ cond (passes (verdict a)) (verdict b) (verdict a)
unfolding verdict
verdict-then [] b n = refl
verdict-then (t ∷ a) b n = go t.passed (verdict-then a b (and_right (ltb 0 t.number) _ n))
  where
    go : (p : Bool) → verdict (a ++ b) ≡ cond (passes (verdict a)) (verdict b) (verdict a) → cond p (verdict (a ++ b)) (refused t) ≡ cond (passes (cond p (verdict a) (refused t))) (verdict b) (cond p (verdict a) (refused t))
    go true e = e
    go false e =
        let l = number-above t a n in
        let z : eqb t.number 0 ≡ false = ne_eqb t.number 0 (λ e. omega arith) in
        rw z
