-- A tag taken apart by the code's quotients, soundness by the code's tests, and the cells one after another.
use Rattle.std.proofs.Common.{◌||◌, Bool, T, Fits, w32, ltb-true, ltb-false, true≢false, ◌≡◌, refl, sym, ◌∙◌, ap, true, false, List, [], ◌∷◌, ℕ, zero, suc, ◌+◌, ◌*◌, ◌-◌, ◌/◌, ◌%◌, ◌<◌, ◌≤◌, arith, ℤ, pos, negsuc, nat_abs, ◌<ℤ◌, ◌≤ℤ◌, eqb, length, length-drop, get_or, drop, drop-cons, le-ltb, eq-eqb, ne_eqb, Option, Some, None, lit<, w64, SFits, of_z}
use Rattle.std.proofs.lemmas.Int.{ints}
use Rattle.std.proofs.lemmas.List.{get_or_past}
use lib.Signed.{non_neg}
use Rattle.std.specs.Int.Signed.{lt_z}
use Rattle.std.specs.Option.{MatchOption}
use Rattle.definition.specs.declared.Op.TheVariants as O
use Rattle.definition.specs.Word.{eq_z}
use Rattle.definition.specs.Memory.{cell_count, cell_at}
use Rattle.definition.specs.Encoding.{ops, op_at, legal, sound_instruction, sound_at, sound}
use Rattle.definition.specs.Calls.{lowest_damaged}
use Rattle.word.proofs.Laws.{eq-bits}
use Rattle.encoding.specs.Damaged.{damaged}

-- ---- a tag less 2: k is the table's place

pub at_place : {A : Type 0} (g : ℕ → ℕ → ℕ → A) (t k : ℕ) → k ≡ t / 25 → g (k / 36) (k / 6 % 6) (k % 6) ≡ g (t / 900) (t / 150 % 6) (t / 25 % 6)
at_place g t k e =
    let o : k / 36 ≡ t / 900 = omega arith in
    let m : k / 6 % 6 ≡ t / 150 % 6 = omega arith in
    rw (o, m, e)

-- The modes, by the code's quotients.
pub modes : (t k o m₁ : ℕ) → k ≡ t / 25 → o ≡ k / 36 → m₁ ≡ (k - 36 * o) / 6 → (m₁ ≡ t / 150 % 6) × (k - 36 * o - 6 * m₁ ≡ t / 25 % 6)
modes t k o m₁ e f g = (omega arith, omega arith)

-- The registers, likewise.
pub registers : (t k r₁ : ℕ) → k ≡ t / 25 → r₁ ≡ (t - 25 * k) / 5 → (r₁ ≡ t / 5 % 5) × (t - 25 * k - 5 * r₁ ≡ t % 5)
registers t k r₁ e f = (omega arith, omega arith)

-- ---- an operation's number past the last: trap

pub op-past : (n : ℕ) → 33 ≤ n → O.Trap ≡ op_at n
unfolding op_at
op-past n h = sym (get_or_past ops n O.Trap h)

-- ---- an operand's number: 0 or any number, else an address

pub zero-test : (w : ℤ) → SFits w64 w → eqb (of_z w64 w) 0 ≡ eq_z w (pos 0)
zero-test w f = eq-bits w (pos 0) f (record { sfits = lit< tt })

pub fits-at-once : (a b c d : Bool) → (a || (b || c)) ≡ true → true ≡ (a || (b || (c || d)))
fits-at-once true b c d h = refl
fits-at-once false true c d h = refl
fits-at-once false false true d h = refl
fits-at-once false false false d h = absurd (true≢false (sym h))

pub fits-as-address : (a b c d : Bool) → (a || (b || c)) ≡ false → d ≡ (a || (b || (c || d)))
fits-as-address true b c d h = absurd (true≢false h)
fits-as-address false true c d h = absurd (true≢false h)
fits-as-address false false true d h = absurd (true≢false h)
fits-as-address false false false d h = refl

-- ---- soundness

pub instruction-sound : (t : ℤ) (n : ℕ) (f s : ℤ) → t ≡ pos (n + 2) → sound_instruction n f s ≡ sound_at t f s
unfolding sound_at
instruction-sound t n f s e = let k : n + 2 ≡ suc (suc n) = omega arith in rw (e, k)

pub below-sound : (t f s : ℤ) → t <ℤ pos 0 → false ≡ sound_at t f s
unfolding sound_at
below-sound (pos n) f s h = absurd (omega (arith, ints))
below-sound (negsuc n) f s h = refl

far-op : (n : ℕ) (f s : ℤ) → 29700 ≤ n → sound_instruction n f s ≡ false
unfolding sound_instruction legal
far-op n f s h = simp (le-ltb (n / 900) 33 (omega arith))

pub past-sound : (t f s : ℤ) → pos 29702 ≤ℤ t → false ≡ sound_at t f s
unfolding sound_at
past-sound (pos zero) f s h = absurd (omega (arith, ints))
past-sound (pos (suc zero)) f s h = absurd (omega (arith, ints))
past-sound (pos (suc (suc n))) f s h = sym (far-op n f s (omega (arith, ints)))
past-sound (negsuc n) f s h = absurd (omega (arith, ints))

-- ---- the cells from address n on

front : (n : ℕ) (l : List ℤ) → 3 * n + 2 < length l
    → drop (3 * n) l ≡ get_or l (3 * n) (pos 0) ∷ get_or l (3 * n + 1) (pos 0) ∷ get_or l (3 * n + 2) (pos 0) ∷ drop (3 * suc n) l
front n l h =
    let e₁ : suc (3 * n) ≡ 3 * n + 1 = omega arith in
    let e₂ : suc (3 * n + 1) ≡ 3 * n + 2 = omega arith in
    let e₃ : suc (3 * n + 2) ≡ 3 * suc n = omega arith in
    drop-cons l (3 * n) (pos 0) (omega arith)
    ∙ ap (λ (r : List ℤ). get_or l (3 * n) (pos 0) ∷ r)
    (ap (λ (i : ℕ). drop i l) e₁ ∙ drop-cons l (3 * n + 1) (pos 0) (omega arith)
    ∙ ap (λ (r : List ℤ). get_or l (3 * n + 1) (pos 0) ∷ r)
    (ap (λ (i : ℕ). drop i l) e₂ ∙ drop-cons l (3 * n + 2) (pos 0) (omega arith)
    ∙ ap (λ (i : ℕ). get_or l (3 * n + 2) (pos 0) ∷ drop i l) e₃))

pub damaged-later : (n : ℕ) (l : List ℤ) → 3 * n + 2 < length l → sound (cell_at l n) ≡ true
    → lowest_damaged (suc n) (drop (3 * suc n) l) ≡ lowest_damaged n (drop (3 * n) l)
unfolding lowest_damaged cell_at
damaged-later n l h e = rw (front n l h, e)

pub damaged-here : (n : ℕ) (l : List ℤ) → 3 * n + 2 < length l → sound (cell_at l n) ≡ false
    → n ≡ lowest_damaged n (drop (3 * n) l)
unfolding lowest_damaged cell_at
damaged-here n l h e = rw (front n l h, e)

pub damaged-none : (n : ℕ) (l : List ℤ) → length l < 3 → n ≡ lowest_damaged n l
unfolding lowest_damaged
damaged-none n [] h = refl
damaged-none n (t ∷ []) h = refl
damaged-none n (t ∷ f ∷ []) h = refl
damaged-none n (t ∷ f ∷ s ∷ l) h = absurd (omega arith)

-- past sound cells
after-sound : (n : ℕ) (l : List ℤ) → 3 * n ≤ length l → ((k : ℕ) → 0 ≤ k → k < n → sound (cell_at l k) ≡ true)
    → lowest_damaged n (drop (3 * n) l) ≡ lowest_damaged 0 l
after-sound zero l h f = refl
after-sound (suc n) l h f = damaged-later n l (omega arith) (f n (omega arith) (omega arith)) ∙ after-sound n l (omega arith) (λ k a b. f k a (omega arith))

-- what `find` answers is the definition's
pub damaged-found : (l : List ℤ) (r : Option ℕ)
    → MatchOption r ((k : ℕ) → 0 ≤ k → k < cell_count l → sound (cell_at l k) ≡ true) (λ i. (0 ≤ i) × (i < cell_count l) × (sound (cell_at l i) ≡ false) × ((k : ℕ) → 0 ≤ k → k < i → sound (cell_at l k) ≡ true))
    → r ≡ damaged l
damaged-found l None f =
    let k : length (drop (3 * cell_count l) l) < 3 = simp length-drop (omega arith) in
    let d : cell_count l ≡ lowest_damaged 0 l = damaged-none (cell_count l) (drop (3 * cell_count l) l) k ∙ after-sound (cell_count l) l (omega arith) f in
    rw (eq-eqb (lowest_damaged 0 l) (cell_count l) (sym d)) refl
damaged-found l (Some i) h =
    let b : i < cell_count l = h.1 in
    let d : i ≡ lowest_damaged 0 l = damaged-here i l (omega arith) h.2 ∙ after-sound i l (omega arith) h.3 in
    rw (← d, ne_eqb i (cell_count l) (λ e. omega arith)) refl

-- ---- what the crates above ask of a tag

pub record Code (t : ℤ) : Type 0 where
  pub whole : T (non_neg t) × Fits w32 (nat_abs t)
  pub least : 2 ≤ nat_abs t
  pub most : nat_abs t - 2 < 29700

pub code : (t : ℤ) → lt_z t (pos 2) ≡ false → lt_z t (pos 29702) ≡ true → Code t
code (pos n) h k =
    let a : 2 ≤ n = ltb-false n 2 h in
    let b : n < 29702 = ltb-true n 29702 k in
    record { whole = (tt, omega arith); least = a; most = omega arith }
code (negsuc n) h k = absurd (true≢false h)

pub code-sound : (t f s : ℤ) → lt_z t (pos 2) ≡ false → sound_instruction (nat_abs t - 2) f s ≡ sound_at t f s
code-sound t f s h = instruction-sound t (nat_abs t - 2) f s (grind (arith, ints))

pub far : (t f s : ℤ) → lt_z t (pos 29702) ≡ false → false ≡ sound_at t f s
far t f s h = past-sound t f s (grind (arith, ints))
