-- The forms, the cells made from them, and their list.
use Rattle.std.proofs.Common.{◌≡◌, ℕ, zero, suc, ◌+◌, ◌-◌, ◌*◌, ◌/◌, ◌%◌, ◌<◌, ◌≤◌, Bool, true, false, cond, eqb, List, [], ◌∷◌, ◌++◌, length, get_or, take, set, ℤ, pos, sym, refl, ap, ◌∙◌, true≢false, append_assoc, append-nil, take_all, arith, length-set, take-suc-set, eqb-true}
use Rattle.std.proofs.lemmas.Grind.{common_steps}
use lib.Seq.{append_snoc}
use borrow.Author.Tests.{eqb-false}
use Rattle.definition.specs.Encoding.{allows, signature, op_at, legal, tag_of, register_fits, number_fits, sound_instruction, sound_at, sound}
use Rattle.definition.specs.Memory.{cell_at, put_cell}
use Rattle.definition.specs.declared.Cell.{Cell}
use Rattle.encoding.proofs.Sound.{at_place, registers}
use Rattle.exercise.specs.Exercise.{next_state, draw, is_form, forms_from, forms, form_of, register, number, cell_of, third_state, cell_from, made}

-- ---- the forms

-- the computed test of their number
pub count : length forms ≡ 124
unfolding forms forms_from legal allows signature op_at
count = refl

-- What each of them is.
abbrev Form : ℕ → ℕ → Type 0
Form end k = (is_form k ≡ true) × (k < end)

from-form : (end n k i : ℕ) → k + n ≡ end → i < length (forms_from n k) → Form end (get_or (forms_from n k) i 0)
unfolding forms_from
from-form end zero k i e h = absurd (omega arith)
from-form end (suc n) k i e h = by (λ (j : ℕ). from-form end n (suc k) j (omega arith)) (is_form k) refl i h
  where
    by : ((j : ℕ) → j < length (forms_from n (suc k)) → Form end (get_or (forms_from n (suc k)) j 0)) → (b : Bool) → is_form k ≡ b → (j : ℕ)
        → j < length (cond b (k ∷ forms_from n (suc k)) (forms_from n (suc k))) → Form end (get_or (cond b (k ∷ forms_from n (suc k)) (forms_from n (suc k))) j 0)
    by rest true f zero g = (f, omega arith)
    by rest true f (suc j) g = rest j (omega arith)
    by rest false f j g = rest j g

pub form-is : (d : ℕ) → Form 1188 (form_of d)
unfolding form_of forms
form-is d = from-form 1188 1188 0 (d % 124) refl (omega (arith, count))

-- Where an entry stands in a list of forms.
pub record Place (l : List ℕ) (k : ℕ) : Type 0 where
  pub at : ℕ
  pub inside : at < length l
  pub is : get_or l at 0 ≡ k

pub placed : (n a k : ℕ) → a ≤ k → k < a + n → is_form k ≡ true → Place (forms_from n a) k
unfolding forms_from
placed zero a k h₁ h₂ e = absurd (omega arith)
placed (suc n) a k h₁ h₂ e = by (λ g. placed n (suc a) k (omega arith) (omega arith) e) (is_form a) refl (eqb a k) refl
  where
    by : ((a ≡ k → ⊥) → Place (forms_from n (suc a)) k) → (b : Bool) → is_form a ≡ b → (c : Bool) → eqb a k ≡ c → Place (cond b (a ∷ forms_from n (suc a)) (forms_from n (suc a))) k
    by rest true f true g = record { at = 0; inside = omega arith; is = eqb-true a k g }
    by rest true f false g = let r = rest (eqb-false a k g) in record { at = suc r.at; inside = omega (arith, r.inside); is = r.is }
    by rest false f true g = absurd (true≢false (sym e ∙ ap is_form (sym (eqb-true a k g)) ∙ f))
    by rest false f false g = rest (eqb-false a k g)

-- ---- a cell is sound

pub register-below : (m r : ℕ) → r < 5 → register m r < 5
unfolding register
register-below m r h = by (register_fits m r)
  where
    by : (b : Bool) → cond b r 0 < 5
    by true = h
    by false = omega arith

zero-register : (m : ℕ) → register_fits m 0 ≡ true
unfolding register_fits
zero-register m = refl

register-fits : (m r : ℕ) → register_fits m (register m r) ≡ true
unfolding register
register-fits m r = by (register_fits m r) refl
  where
    by : (b : Bool) → register_fits m r ≡ b → register_fits m (cond b r 0) ≡ true
    by true e = e
    by false e = zero-register m

zero_number : (m : ℕ) → number_fits m (pos 0) ≡ true
unfolding number_fits
zero_number m = refl

number_fits_lem : (m : ℕ) (w : ℤ) → number_fits m (number m w) ≡ true
unfolding number
number_fits_lem m w = by (number_fits m w) refl
  where
    by : (b : Bool) → number_fits m w ≡ b → number_fits m (cond b w (pos 0)) ≡ true
    by true e = e
    by false e = zero_number m

-- A tag made of the entry k and two registers is taken apart into them again.
form-sound : (k r₁ r₂ : ℕ) (f s : ℤ) → is_form k ≡ true → r₁ < 5 → r₂ < 5 → register_fits (k / 6 % 6) r₁ ≡ true → register_fits (k % 6) r₂ ≡ true
    → number_fits (k / 6 % 6) f ≡ true → number_fits (k % 6) s ≡ true → sound_at (pos (tag_of (k / 36) (k / 6 % 6) (k % 6) r₁ r₂)) f s ≡ true
unfolding sound_at sound_instruction
form-sound k r₁ r₂ f s l h₁ h₂ a b c d =
    let t : ℕ = k * 25 + r₁ * 5 + r₂ in
    let e : tag_of (k / 36) (k / 6 % 6) (k % 6) r₁ r₂ ≡ suc (suc (k * 25 + r₁ * 5 + r₂)) = omega arith in
    let p : k ≡ (k * 25 + r₁ * 5 + r₂) / 25 = omega arith in
    let q : r₁ ≡ (k * 25 + r₁ * 5 + r₂ - 25 * k) / 5 = omega arith in
    let g = registers (k * 25 + r₁ * 5 + r₂) k r₁ p q in
    let y : (k * 25 + r₁ * 5 + r₂) % 5 ≡ r₂ = omega arith in
    rw (e, sym (at_place (λ (o m n : ℕ). legal o m n) t k p), sym (at_place (λ (o m n : ℕ). m) t k p), sym (at_place (λ (o m n : ℕ). n) t k p), sym g.0, y, l, a, b, c, d)

pub cell-sound : (d₁ d₂ d₃ : ℕ) → sound (cell_of d₁ d₂ d₃) ≡ true
unfolding sound cell_of
cell-sound d₁ d₂ d₃ =
    let k = form_of d₁ in
    form-sound k (register (k / 6 % 6) (d₂ % 5)) (register (k % 6) (d₂ / 5 % 5)) _ _ (form-is d₁).0 (register-below (k / 6 % 6) (d₂ % 5) (omega arith)) (register-below (k % 6) (d₂ / 5 % 5) (omega arith)) (register-fits (k / 6 % 6) (d₂ % 5)) (register-fits (k % 6) (d₂ / 5 % 5)) (number_fits_lem (k / 6 % 6) _) (number_fits_lem (k % 6) _)

-- ---- the list of cells

-- "the first n cells don't depend on how many are made"
pub made-first : (n m s : ℕ) → n ≤ m → take (3 * n) (made m s) ≡ made n s
unfolding made
made-first zero m s h = refl
made-first (suc n) zero s h = absurd (omega arith)
made-first (suc n) (suc m) s h =
    let e : 3 * suc n ≡ suc (suc (suc (3 * n))) = omega arith in
    rw e (ap (λ (l : List ℤ). (cell_from s).tag ∷ (cell_from s).first ∷ (cell_from s).second ∷ l) (made-first n m (third_state s) (omega arith)))

pub length-made : (n s : ℕ) → length (made n s) ≡ 3 * n
unfolding made
length-made zero s = refl
length-made (suc n) s = omega (arith, length-made n (third_state s))

cell-next : (t f s : ℤ) (l : List ℤ) (i : ℕ) → cell_at (t ∷ f ∷ s ∷ l) (suc i) ≡ cell_at l i
unfolding cell_at
cell-next t f s l i =
    let e₀ : 3 * suc i ≡ suc (suc (suc (3 * i))) = omega arith in
    let e₁ : 3 * suc i + 1 ≡ suc (suc (suc (3 * i + 1))) = omega arith in
    let e₂ : 3 * suc i + 2 ≡ suc (suc (suc (3 * i + 2))) = omega arith in
    rw (e₂, e₁, e₀)

cell-first : (v : Cell) (l : List ℤ) → cell_at (v.tag ∷ v.first ∷ v.second ∷ l) 0 ≡ v
unfolding cell_at
cell-first v l = refl

from-sound : (s : ℕ) → sound (cell_from s) ≡ true
unfolding cell_from
from-sound s = cell-sound (draw (next_state s)) (draw (next_state (next_state s))) (draw (third_state s))

pub made-sound : (n s i : ℕ) → i < n → sound (cell_at (made n s) i) ≡ true
unfolding made
made-sound zero s i h = absurd (omega arith)
made-sound (suc n) s zero h = rw (cell-first (cell_from s) (made n (third_state s))) (from-sound s)
made-sound (suc n) s (suc i) h = rw (cell-next _ _ _ (made n (third_state s)) i) (made-sound n (third_state s) i (omega arith))

-- ---- one more cell of the image is made

front : (l : List ℤ) (a : ℕ) (t f s : ℤ) → a + 2 < length l → take (a + 3) (set (set (set l a t) (a + 1) f) (a + 2) s) ≡ take a l ++ (t ∷ f ∷ s ∷ [])
front l a t f s h =
    let e₁ : a + 1 ≡ suc a = omega arith in
    let e₂ : a + 2 ≡ suc (suc a) = omega arith in
    let e₃ : a + 3 ≡ suc (suc (suc a)) = omega arith in
    rw (e₁, e₂, e₃)
    (take-suc-set (set (set l a t) (suc a) f) (suc (suc a)) s (simp length-set (omega arith))
    ∙ ap (λ (x : List ℤ). x ++ (s ∷ []))
    (take-suc-set (set l a t) (suc a) f (simp length-set (omega arith))
    ∙ ap (λ (x : List ℤ). x ++ (f ∷ [])) (take-suc-set l a t (omega arith)))
    ∙ append_snoc (take a l ++ (t ∷ [])) f (s ∷ [])
    ∙ append_snoc (take a l) t (f ∷ s ∷ []))

pub made_more : (l : List ℤ) (n m s : ℕ) (v : Cell) → 3 * n + 2 < length l → v ≡ cell_from s → n < m
    → take (3 * (n + 1)) (put_cell l n v) ++ made (m - (n + 1)) (third_state s) ≡ take (3 * n) l ++ made (m - n) s
unfolding put_cell made
made_more l n m s v h e i =
    let a : 3 * (n + 1) ≡ 3 * n + 3 = omega arith in
    let b : m - n ≡ suc (m - (n + 1)) = omega arith in
    rw (a, b, front l (3 * n) v.tag v.first v.second h, e)
    (append_assoc (take (3 * n) l) ((cell_from s).tag ∷ (cell_from s).first ∷ (cell_from s).second ∷ []) (made (m - (n + 1)) (third_state s)))

-- all are made
pub made_all : (l : List ℤ) (n m s : ℕ) → m ≤ n → length l ≤ 3 * n → take (3 * n) l ++ made (m - n) s ≡ l
unfolding made
made_all l n m s h i =
    let e : m - n ≡ 0 = omega arith in
    rw (e, take_all (3 * n) l i) (append-nil l)

pub ruleset steps = (common_steps, made_more, made_all)
