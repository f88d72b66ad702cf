-- The chain of operators without its bound, and that no reader gives more text than it had. Assumes nothing.
use mathlib.Core.Path.{◌≡◌, refl, sym}
use mathlib.Core.Bool.{Bool, true, false, cond}
use mathlib.Core.List.{List, [], ◌∷◌}
use Prim.Native.Nat.{ℕ, zero, suc, ◌≤◌, ◌<◌}
use native.Mathlib.Omega.{arith}
use lib.ListN.{length}
use lib.Dec.{leb, eqb}
use Rattle.expression.specs.Reader.{Algebra, Outcome, gives, refused, then, head, tail, front, past, is_space, is_digit, is_letter, skip, Level, is_star, is_sign, product_level, sum_level, chain, chained, links, numbered, labelled, closed, atom_with, product_with, sum_with, within, read_product, read_atom}
use Rattle.expression.proofs.Spans.{by_bool, clash, past-length, tail-length}

-- what a reader that gave something gave first
pub record Middle {X Y : Type 0} (o : Outcome X) (k : X → List ℕ → Outcome Y) (y : Y) (r : List ℕ) : Type 0 where
  pub value : X
  pub text : List ℕ
  pub first : o ≡ gives value text
  pub second : k value text ≡ gives y r

pub never : {X : Type 0} {P : Type 0} {x : X} {t : List ℕ} → refused ≡ gives x t → P
never {X} {P} {x} {t} e = let z : ◌≡◌ {A = ℕ} 0 1 = cc in absurd (omega arith)

pub middle : {X Y : Type 0} (o : Outcome X) (k : X → List ℕ → Outcome Y) (y : Y) (r : List ℕ) → then o k ≡ gives y r → Middle o k y r
unfolding then
middle (gives x t) k y r e = record { value = x; text = t; first = refl; second = e }
middle refused k y r e = never e

pub then_same : {X Y : Type 0} (o : Outcome X) (k l : X → List ℕ → Outcome Y) → ((y : X) (r : List ℕ) → o ≡ gives y r → k y r ≡ l y r) → then o k ≡ then o l
unfolding then
then_same (gives x t) k l h = h x t refl
then_same refused k l h = refl

-- what is given where a test holds
pub when : {X : Type 0} (b : Bool) (o : Outcome X) (x : X) (t : List ℕ) → cond b o refused ≡ gives x t → (b ≡ true) × (o ≡ gives x t)
when true o x t e = (refl, e)
when false o x t e = never e

pub rest_of : {X : Type 0} {x y : X} {t r : List ℕ} → gives x t ≡ gives y r → t ≡ r
rest_of e = cc

pub value_of : {X : Type 0} {x y : X} {t r : List ℕ} → gives x t ≡ gives y r → x ≡ y
value_of e = cc

abbrev pub Shrinks : {X : Type 0} → (List ℕ → Outcome X) → Type 0
Shrinks {X} f = (t : List ℕ) (x : X) (r : List ℕ) → f t ≡ gives x r → length r ≤ length t

shorter : {X : Type 0} {x y : X} {t r : List ℕ} (u : List ℕ) → length t ≤ length u → gives x t ≡ gives y r → length r ≤ length u
shorter u h e = rw (sym (rest_of e)) h

module _ {X : Type 0} (L : Level X) (f : List ℕ → Outcome X) (shrinks : Shrinks f) (ends : L.joins 0 ≡ false) where
  -- after an operator the text is shorter
  pub operand-length : (t : List ℕ) (y : X) (r : List ℕ) → L.joins (head t) ≡ true → f (skip (tail t)) ≡ gives y r → length r < length t
  unfolding head tail
  operand-length [] y r h e = clash h ends
  operand-length (b ∷ t) y r h e =
      let u = shrinks (skip t) y r e in
      let w = past-length is_space t in
      omega arith

  chain-shrinks : (k : ℕ) (x : X) (t : List ℕ) (y : X) (r : List ℕ) → chain k L f x t ≡ gives y r → length r ≤ length t
  unfolding chain
  chain-shrinks zero x t y r e = shorter t (omega arith) e
  chain-shrinks (suc k) x t y r e =
      by_bool (L.joins (head t))
      (λ h. let m = middle (f (skip (tail t))) (λ z u. chain k L f (L.join (head t) x z) u) y r (rw h at e) in
      let a = operand-length t m.value m.text h m.first in
      let b = chain-shrinks k (L.join (head t) x m.value) m.text y r m.second in
      omega arith)
      (λ h. shorter t (omega arith) (rw h at e))

  chain-fuel : (k n : ℕ) (x : X) (t : List ℕ) → length t ≤ k → length t ≤ n → chain k L f x t ≡ chain n L f x t
  unfolding chain head
  chain-fuel zero zero x t h i = refl
  chain-fuel zero (suc n) x [] h i = rw ends
  chain-fuel zero (suc n) x (b ∷ t) h i = absurd (omega arith)
  chain-fuel (suc k) zero x [] h i = rw ends
  chain-fuel (suc k) zero x (b ∷ t) h i = absurd (omega arith)
  chain-fuel (suc k) (suc n) x t h i =
      by_bool (L.joins (head t))
      (λ j. rw j (then_same (f (skip (tail t))) (λ y r. chain k L f (L.join (head t) x y) r) (λ y r. chain n L f (L.join (head t) x y) r)
      (λ y r e. let a = operand-length t y r j e in chain-fuel k n (L.join (head t) x y) r (omega arith) (omega arith))))
      (λ j. rw j)

  pub chained-step : (x : X) (t : List ℕ) → chained L f x t ≡ cond (L.joins (head t)) (then (f (skip (tail t))) (λ y r. chained L f (L.join (head t) x y) r)) (gives x t)
  unfolding chain chained head tail
  chained-step x [] = rw ends
  chained-step x (b ∷ t) =
      by_bool (L.joins b)
      (λ j. rw j (then_same (f (skip t)) (λ y r. chain (length t) L f (L.join b x y) r) (λ y r. chained L f (L.join b x y) r)
      (λ y r e. let a = operand-length (b ∷ t) y r j e in chain-fuel (length t) (length r) (L.join b x y) r (omega arith) (omega arith))))
      (λ j. rw j)

  pub links-shrinks : Shrinks (links L f)
  unfolding links chained
  links-shrinks t y r e =
      let m = middle (f t) (λ x u. chain (length u) L f x u) y r e in
      let a = shrinks t m.value m.text m.first in
      let b = chain-shrinks (length m.text) m.value m.text y r m.second in
      omega arith

pub letter-ends : is_letter 0 ≡ false
unfolding is_letter
letter-ends = refl

pub star-ends : is_star 0 ≡ false
unfolding is_star
star-ends = refl

pub sign-ends : is_sign 0 ≡ false
unfolding is_sign
sign-ends = refl

module _ {X : Type 0} (A : Algebra X) where
  numbered-shrinks : (m : Bool) → Shrinks (numbered A m)
  unfolding numbered
  numbered-shrinks m t x r e =
      let w = when (is_digit (head t)) _ x r e in
      let a = past-length is_digit t in
      let b = past-length is_space (past is_digit t) in
      shorter t (omega arith) w.1

  labelled-shrinks : Shrinks (labelled A)
  unfolding labelled
  labelled-shrinks t x r e =
      let w = when (leb (length (front is_letter t)) 16) _ x r e in
      let a = past-length is_letter t in
      let b = past-length is_space (past is_letter t) in
      shorter t (omega arith) w.1

  atom-shrinks : (inner : List ℕ → Outcome X) → Shrinks inner → Shrinks (atom_with A inner)
  unfolding atom_with closed
  atom-shrinks inner h t x r e =
      let len = tail-length t in
      by_bool (is_digit (head t)) (λ d. numbered-shrinks false t x r (rw d at e)) (λ d.
      by_bool (is_letter (head t)) (λ l. labelled-shrinks t x r (rw (d, l) at e)) (λ l.
      by_bool (eqb (head t) 40)
      (λ o. let m = middle (inner (skip (tail t))) (closed A) x r (rw (d, l, o) at e) in
      let a = h (skip (tail t)) m.value m.text m.first in
      let b = past-length is_space (tail t) in
      let w = when (eqb (head m.text) 41) _ x r m.second in
      let g = tail-length m.text in
      let k = past-length is_space (tail m.text) in
      shorter t (omega arith) w.1)
      (λ o. let w = when (eqb (head t) 45) _ x r (rw (d, l, o) at e) in
      let a = numbered-shrinks true (tail t) x r w.1 in omega arith)))

  product-shrinks : (inner : List ℕ → Outcome X) → Shrinks inner → Shrinks (product_with A inner)
  unfolding product_with
  product-shrinks inner h = links-shrinks (product_level A) (atom_with A inner) (atom-shrinks inner h) star-ends

  sum-shrinks : (inner : List ℕ → Outcome X) → Shrinks inner → Shrinks (sum_with A inner)
  unfolding sum_with
  sum-shrinks inner h = links-shrinks (sum_level A) (product_with A inner) (product-shrinks inner h) sign-ends

  within-shrinks : (d : ℕ) → Shrinks (within A d)
  unfolding within
  within-shrinks zero t x r e = never e
  within-shrinks (suc d) t x r e = sum-shrinks (within A d) (within-shrinks d) t x r e

  pub read_atom-shrinks : (d : ℕ) → Shrinks (read_atom A d)
  unfolding read_atom
  read_atom-shrinks d = atom-shrinks (within A d) (within-shrinks d)

  pub read_product-shrinks : (d : ℕ) → Shrinks (read_product A d)
  unfolding read_product
  read_product-shrinks d = product-shrinks (within A d) (within-shrinks d)
