-- What holds of every exercise load.
use Rattle.std.proofs.Common.{◌≡◌, ℕ, zero, suc, ◌+◌, ◌*◌, ◌/◌, ◌%◌, ◌^◌, ◌<◌, ◌≤◌, Bool, true, false, ◌&&◌, eqb, ltb, leb, List, [], ◌∷◌, length, get_or, take, ℤ, pos, sym, refl, ap, ◌∙◌, arith, ltb-true, eq-eqb, ne_eqb, eqb-true, leb-true}
use borrow.Author.Tests.{eqb-false}
use Rattle.definition.specs.Calls.{Called, called, verdict}
use Rattle.definition.specs.Encoding.{Kind, NoOperand, ImmRegDirIndIdx, DirIndIdx, RegDirIndIdx, ImmReg, JustReg, signature, op_at, allows, legal, tag_of, register_fits, number_fits, is_address, sound}
use Rattle.definition.specs.Memory.{cell_count, cell_at}
use Rattle.definition.specs.Word.{address_of}
use Rattle.definition.specs.declared.Counted.{Counted}
use Rattle.encoding.proofs.Rule.{both}
use Rattle.exercise.specs.Exercise.{next_state, draw, is_form, forms_from, forms, form_of, register, number, cell_of, cell_from, made, exercise_check, exercise}
use Rattle.exercise.specs.Laws.{Occurs, ExerciseLaws}
use Rattle.exercise.proofs.Made.{count, placed, register-below, length-made, made-sound, made-first}

-- ---- a call that is done, and one that is refused

done : (image : List ℤ) (seed : ℕ) → length image % 3 ≡ 0 → exercise image seed ≡ called (record { refusal = 0; place = 0; count = cell_count image }) (made (cell_count image) seed)
unfolding exercise exercise_check verdict
done image seed h = rw (eq-eqb (length image % 3) 0 h)

refused : (image : List ℤ) (seed : ℕ) → (length image % 3 ≡ 0 → ⊥) → exercise image seed ≡ called (record { refusal = 9; place = 0; count = 0 }) image
unfolding exercise exercise_check verdict
refused image seed h = rw (ne_eqb (length image % 3) 0 h)

-- whole cells, where the call is done
three : (image : List ℤ) (seed : ℕ) → (exercise image seed).answer.refusal ≡ 0 → length image % 3 ≡ 0
three image seed h = by (eqb (length image % 3) 0) refl
  where
    by : (b : Bool) → eqb (length image % 3) 0 ≡ b → length image % 3 ≡ 0
    by true e = eqb-true (length image % 3) 0 e
    by false e =
        let z : ◌≡◌ {A = ℕ} 9 0 = sym (ap (λ (c : Called Counted (List ℤ)). c.answer.refusal) (refused image seed (eqb-false (length image % 3) 0 e))) ∙ h in
        absurd (omega arith)

left-kept : (image : List ℤ) (seed : ℕ) → ((exercise image seed).answer.refusal ≡ 0 → ⊥) → (exercise image seed).left ≡ image
left-kept image seed h = by (eqb (length image % 3) 0) refl
  where
    by : (b : Bool) → eqb (length image % 3) 0 ≡ b → (exercise image seed).left ≡ image
    by true e = absurd (h (ap (λ (c : Called Counted (List ℤ)). c.answer.refusal) (done image seed (eqb-true (length image % 3) 0 e))))
    by false e = ap (λ (c : Called Counted (List ℤ)). c.left) (refused image seed (eqb-false (length image % 3) 0 e))

-- ---- each form occurs

-- A seed whose first draw is i: the generator taken back, by the inverse of its factor modulo 2^64.
seed_of : ℕ → ℕ
seed_of i = ((i * 2 ^ 32 + 17004049032820588209) * 13877824140714322085) % 2 ^ 64

drawn : ℕ → Bool
drawn zero = true
drawn (suc n) = eqb (draw (next_state (seed_of n))) n && drawn n

-- the computed test
right : drawn 124 ≡ true
unfolding drawn seed_of draw next_state
right = refl

drawn-at : (n i : ℕ) → drawn n ≡ true → i < n → draw (next_state (seed_of i)) ≡ i
unfolding drawn
drawn-at zero i h l = absurd (omega arith)
drawn-at (suc n) i h l = by (drawn-at n i (both (eqb (draw (next_state (seed_of n))) n) (drawn n) h).1) (eqb i n) refl
  where
    by : (i < n → draw (next_state (seed_of i)) ≡ i) → (b : Bool) → eqb i n ≡ b → draw (next_state (seed_of i)) ≡ i
    by rest true e = rw (eqb-true i n e) (eqb-true _ n (both (eqb (draw (next_state (seed_of n))) n) (drawn n) h).0)
    by rest false e = let d : i ≡ n → ⊥ = eqb-false i n e in rest (omega arith)

allows-below : (κ : Kind) (m : ℕ) → allows κ m ≡ true → m < 6
unfolding allows
allows-below NoOperand m h = omega (arith, eqb-true m 0 h)
allows-below ImmRegDirIndIdx m h = omega (arith, leb-true m 5 (both (leb 1 m) (leb m 5) h).1)
allows-below DirIndIdx m h = omega (arith, leb-true m 5 (both (leb 3 m) (leb m 5) h).1)
allows-below RegDirIndIdx m h = omega (arith, leb-true m 5 (both (leb 2 m) (leb m 5) h).1)
allows-below ImmReg m h = omega (arith, leb-true m 2 (both (leb 1 m) (leb m 2) h).1)
allows-below JustReg m h = omega (arith, eqb-true m 2 h)

legal-below : (o m₁ m₂ : ℕ) → legal o m₁ m₂ ≡ true → (o < 33) × ((m₁ < 6) × (m₂ < 6))
unfolding legal
legal-below o m₁ m₂ h =
    let p = both (ltb o 33) (allows (signature (op_at o)).first m₁ && allows (signature (op_at o)).second m₂) h in
    let q = both (allows (signature (op_at o)).first m₁) (allows (signature (op_at o)).second m₂) p.1 in
    (ltb-true o 33 p.0, (allows-below _ m₁ q.0, allows-below _ m₂ q.1))

tag-by : (s k o m₁ m₂ : ℕ) → form_of (draw (next_state s)) ≡ k → k / 36 ≡ o → k / 6 % 6 ≡ m₁ → k % 6 ≡ m₂
    → (cell_from s).tag ≡ pos (tag_of o m₁ m₂ (register m₁ (draw (next_state (next_state s)) % 5)) (register m₂ (draw (next_state (next_state s)) / 5 % 5)))
unfolding cell_from cell_of
tag-by s k o m₁ m₂ e a b c = rw (e, a, b, c)

form-at : (i k : ℕ) → i < 124 → get_or forms i 0 ≡ k → form_of (draw (next_state (seed_of i))) ≡ k
unfolding form_of
form-at i k h e =
    let r : i % 124 ≡ i = omega arith in
    rw (drawn-at 124 i right h, r) e

seed-fits : (i : ℕ) → seed_of i < 2 ^ 64
unfolding seed_of
seed-fits i = by _
  where
    by : (x : ℕ) → x % 2 ^ 64 < 2 ^ 64
    by x = omega arith

form-occurs : (o m₁ m₂ : ℕ) → legal o m₁ m₂ ≡ true → Occurs o m₁ m₂
unfolding forms
form-occurs o m₁ m₂ h =
    let p = legal-below o m₁ m₂ h in
    let k : ℕ = o * 36 + m₁ * 6 + m₂ in
    let a : k / 36 ≡ o = omega (arith, p.1.0, p.1.1) in
    let b : k / 6 % 6 ≡ m₁ = omega (arith, p.1.0, p.1.1) in
    let c : k % 6 ≡ m₂ = omega (arith, p.1.0, p.1.1) in
    let e : is_form k ≡ true = rw (a, b, c) h in
    let w = placed 1188 0 k (omega arith) (omega (arith, p.0, p.1.0, p.1.1)) e in
    let s = seed_of w.at in
    let d = draw (next_state (next_state s)) in
    record {
      seed = s;
      fits = seed-fits w.at;
      r₁ = register m₁ (d % 5);
      r₂ = register m₂ (d / 5 % 5);
      below₁ = register-below m₁ (d % 5) (omega arith);
      below₂ = register-below m₂ (d / 5 % 5) (omega arith);
      tag = tag-by s k o m₁ m₂ (form-at w.at k (omega (arith, w.inside, count)) w.is) a b c;
    }

-- ---- all of it

whole-image : (image : List ℤ) (seed : ℕ) → length image % 3 ≡ 0 → (3 * (exercise image seed).answer.count ≡ length image) × (length (exercise image seed).left ≡ length image)
whole-image image seed h =
    let e : 3 * cell_count image ≡ length image = omega arith in
    rw (done image seed h) (e, length-made (cell_count image) seed ∙ e)

sound-image : (image : List ℤ) (seed n : ℕ) → length image % 3 ≡ 0 → n < (exercise image seed).answer.count → sound (cell_at (exercise image seed).left n) ≡ true
sound-image image seed n h l = rw (done image seed h) (made-sound (cell_count image) seed n (rw (done image seed h) at l))

first-image : (x y : List ℤ) (seed : ℕ) → length x % 3 ≡ 0 → length y % 3 ≡ 0 → length x ≤ length y → take (length x) (exercise y seed).left ≡ (exercise x seed).left
first-image x y seed h k l =
    let e : length x ≡ 3 * cell_count x = omega arith in
    rw (done x seed h, done y seed k) (ap (λ (n : ℕ). take n (made (cell_count y) seed)) e ∙ made-first (cell_count x) (cell_count y) seed (omega arith))

-- the definition worked out on two seeds
least : made 3 0 ≡ pos 2572 ∷ pos 14370 ∷ pos 0 ∷ pos 17602 ∷ pos 16182 ∷ pos 0 ∷ pos 202 ∷ pos 7105 ∷ pos 0 ∷ []
unfolding made cell_from cell_of draw next_state form_of forms forms_from legal allows signature op_at register register_fits number number_fits is_address address_of
least = refl

largest : made 3 18446744073709551615 ≡ pos 26304 ∷ pos 3755 ∷ pos 0 ∷ pos 29302 ∷ pos 15494 ∷ pos 0 ∷ pos 10052 ∷ pos 11569 ∷ pos 0 ∷ []
unfolding made cell_from cell_of draw next_state form_of forms forms_from legal allows signature op_at register register_fits number number_fits is_address address_of
largest = refl

pub promised : ExerciseLaws
promised =
    record {
      whole = λ image seed h. whole-image image seed (three image seed h);
      all_sound = λ image seed n h l. sound-image image seed n (three image seed h) l;
      occurs = form-occurs;
      count = count;
      same_first = λ x y seed h k l. first-image x y seed (three x seed h) (three y seed k) l;
      of_least = least;
      of_largest = largest;
      keeps = left-kept;
    }
