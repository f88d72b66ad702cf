-- An image gone through cell by cell. Assumes nothing.
use mathlib.Core.Path.{◌≡◌, refl, sym, ap, ◌∙◌}
use mathlib.Core.Bool.{Bool, true, false, ◌||◌}
use mathlib.Core.List.{List, [], ◌∷◌, ◌++◌}
use Prim.Native.Nat.{ℕ, zero, suc, ◌+◌, ◌-◌, ◌*◌, ◌/◌, ◌%◌, ◌≤◌, ◌<◌}
use native.Mathlib.Omega.{arith}
use native.Mathlib.Numerals.{add-one}
use lib.IntN.{ℤ, pos}
use lib.ListN.{length, take, drop, length-append, drop_of_length-le}
use lib.Dec.{eqb}
use borrow.Author.Tests.{eqb-true}
use Rattle.definition.specs.Word.{eq_z}
use Rattle.definition.specs.Memory.{cell_count, cell_at}
use Rattle.definition.specs.Encoding.{sound}
use Rattle.definition.specs.Calls.{lowest_damaged}
use Rattle.encoding.proofs.Sound.{damaged-later, damaged-here}
use Rattle.std.specs.List.{list_any, range_with_len}
use Rattle.std.proofs.lemmas.Grind.{common_steps}
use borrow.Rule.Slice.PartMut.{put_mid}
use Rattle.std.proofs.lemmas.Slice.{take-put_mid, drop-put_mid}
use lib.Seq.{drop-drop}
use Rattle.printing.proofs.Laws.{put_next}
use Rattle.expression.proofs.Spans.{by_bool}
use Rattle.expression.proofs.Sound.{both}
use Rattle.listing.specs.Listing.{line_text, listing, image_cells, any_empty}
use Rattle.listing.specs.Call.{image_text, is_image}
use Rattle.listing.proofs.RoundTrip.{count-cells}

cells-next : (l : List ℤ) (n : ℕ) → 3 * n + 2 < length l → drop n (image_cells l) ≡ cell_at l n ∷ drop (suc n) (image_cells l)
unfolding image_cells cell_at
cells-next [] n h = absurd (omega arith)
cells-next (t ∷ []) n h = absurd (omega arith)
cells-next (t ∷ f ∷ []) n h = absurd (omega arith)
cells-next (t ∷ f ∷ s ∷ l) zero h = refl
cells-next (t ∷ f ∷ s ∷ l) (suc n) h =
    let e₀ : 3 * suc n ≡ suc (suc (suc (3 * n))) = omega arith in
    let e₁ : 3 * suc n + 1 ≡ suc (suc (suc (3 * n + 1))) = omega arith in
    let e₂ : 3 * suc n + 2 ≡ suc (suc (suc (3 * n + 2))) = omega arith in
    rw (e₁, e₂, e₀) (cells-next l n (omega arith))

cells-done : (l : List ℤ) (n : ℕ) → length l / 3 ≤ n → drop n (image_cells l) ≡ []
cells-done l n h = let c = count-cells l in drop_of_length-le (image_cells l) {i = n} (omega arith)

-- ---- no cell is damaged

Undamaged : List ℤ → ℕ → Type 0
Undamaged l n = lowest_damaged n (drop (3 * n) l) ≡ cell_count l

sound-here : (l : List ℤ) (n : ℕ) → n < length l / 3 → Undamaged l n → sound (cell_at l n) ≡ true
unfolding Undamaged
sound-here l n h u = by_bool (sound (cell_at l n)) (λ e. e) (λ e. let z = damaged-here n l (omega arith) e ∙ u in absurd (omega arith))

undamaged : (l : List ℤ) → lowest_damaged 0 l ≡ cell_count l → (n : ℕ) → n ≤ length l / 3 → Undamaged l n
unfolding Undamaged
undamaged l e zero h = e
undamaged l e (suc n) h = let u = undamaged l e n (omega arith) in damaged-later n l (omega arith) (sound-here l n (omega arith) u) ∙ u

pub sound_cell : (l : List ℤ) (n : ℕ) → lowest_damaged 0 l ≡ cell_count l → n < length l / 3 → sound (cell_at l n) ≡ true
sound_cell l n e h = sound-here l n h (undamaged l e n (omega arith))

pub image_undamaged : (l : List ℤ) → is_image l ≡ true → lowest_damaged 0 l ≡ cell_count l
unfolding is_image
image_undamaged l h = eqb-true _ _ (both (eqb (length l % 3) 0) (eqb (lowest_damaged 0 l) (cell_count l)) h).1

-- ---- empty cells

pub empty_here : (l : List ℤ) (n : ℕ) → n < length l / 3 → any_empty (drop n (image_cells l)) ≡ (eq_z (cell_at l n).tag (pos 0) || any_empty (drop (n + 1) (image_cells l)))
unfolding any_empty
empty_here l n h = rw (add-one, cells-next l n (omega arith)) refl

pub empty_none : (l : List ℤ) (n : ℕ) → length l / 3 ≤ n → any_empty (drop n (image_cells l)) ≡ false
unfolding any_empty
empty_none l n h = rw (cells-done l n h) refl

-- as `any` goes through the cells' numbers
pub any-range : (l : List ℤ) (k n : ℕ) → n + k ≡ length l / 3 → list_any (λ i. eq_z (cell_at l i).tag (pos 0)) (range_with_len n k) ≡ any_empty (drop n (image_cells l))
any-range l zero n h = sym (empty_none l n (omega arith))
any-range l (suc k) n h =
    ap (λ (b : Bool). eq_z (cell_at l n).tag (pos 0) || b) (any-range l k (n + 1) (omega arith)) ∙ sym (empty_here l n (omega arith))

-- ---- the lines from cell n on

abbrev pub lines_from : List ℤ → ℕ → List ℕ
lines_from l n = listing (drop n (image_cells l))

pub lines_whole : (l : List ℤ) → lines_from l 0 ≡ image_text l
unfolding image_text
lines_whole l = refl

pub lines_next : (l : List ℤ) (n : ℕ) → n < length l / 3 → lines_from l n ≡ line_text (cell_at l n) ++ lines_from l (n + 1)
unfolding listing
lines_next l n h = rw (add-one, cells-next l n (omega arith)) refl

pub lines_end : (l : List ℤ) (n : ℕ) → length l / 3 ≤ n → lines_from l n ≡ []
unfolding listing
lines_end l n h = rw (cells-done l n h) refl

-- ---- the lines written: those of the cells before n stand in the first bytes, and what is behind is kept

abbrev pub Written : List ℤ → List ℕ → List ℕ → ℕ → ℕ → Type 0
Written l before text n at =
    (take at text ++ lines_from l n ≡ image_text l) × (drop at text ≡ drop at before) × (at + length (lines_from l n) ≡ length (image_text l))

pub written-next : (l : List ℤ) (before text line : List ℕ) (n at : ℕ) → n < length l / 3 → length (image_text l) ≤ length text → line ≡ line_text (cell_at l n) → Written l before text n at
    → Written l before (put_mid at (at + length line - at) text line) (n + 1) (at + length line)
written-next l before text line n at h room is w =
    let e : lines_from l n ≡ line ++ lines_from l (n + 1) = rw is (lines_next l n h) in
    let m = ap length e ∙ length-append line (lines_from l (n + 1)) in (
      put_next (take at text) line (lines_from l (n + 1)) (take-put_mid at _ text line _ refl (omega arith)) e w.0,
      drop-put_mid at _ text line _ (omega arith) (omega arith) (omega arith)
          ∙ sym (drop-drop (length line) at text)
          ∙ ap (λ (t : List ℕ). drop (length line) t) w.1
          ∙ drop-drop (length line) at before,
      omega (arith, w.2),
    )

pub ruleset steps = (common_steps, sound_cell, empty_here, empty_none, lines_whole, lines_next, lines_end)

pub ruleset answers = (common_steps, image_undamaged)
