-- Cells read and written: what the proofs of this crate and of those above cite.
use Rattle.std.specs.Prelude.{Option, None, Some}
use mathlib.Core.Path.{◌≡◌, refl, sym, ap, ◌∙◌}
use Rattle.std.proofs.lemmas.Option.{none-some}
use mathlib.Core.Bool.{Bool, true, false, cond, true≢false}
use mathlib.Core.List.{List}
use Prim.Native.Nat.{ℕ, zero, suc, ◌<◌, ◌≤◌}
use native.Mathlib.Omega.{arith}
use lib.IntN.{ℤ, pos, negsuc}
use lib.Dec.{ltb}
use lib.ListN.{length}
use lib.Signed.{lt_z}
use mir.Syntax.{w64}
use mir.Val.{SFits, to_z, of_z}
use mir.Facts.{to_z-of_z}
use borrow.Author.Tests.{ltb-true, lt-ltb, le-ltb}
use Rattle.definition.specs.declared.Cell.{Cell}
use Rattle.definition.specs.declared.Word.TheVariants.{Is, Empty, NotWord}
use Rattle.definition.specs.Memory.{cell_count, cell_at, put_cell, get, found, word_at}
use Rattle.definition.proofs.Cells.{length-put, cell_same, cell_other}
use Rattle.memory.specs.declared.Write.{Write}
use Rattle.memory.specs.Overlay.{overlay}

pub get_in : (l : List ℤ) (n : ℕ) → n < cell_count l → get l n ≡ Some (cell_at l n)
unfolding get found
get_in l n h = ap (λ (b : Bool). found b (cell_at l n)) (lt-ltb n (cell_count l) h)

pub get-out : (l : List ℤ) (n : ℕ) → cell_count l ≤ n → get l n ≡ None
unfolding get found
get-out l n h = ap (λ (b : Bool). found b (cell_at l n)) (le-ltb n (cell_count l) h)

-- what was found is inside
pub get-here : (l : List ℤ) (n : ℕ) (v : Cell) → get l n ≡ Some v → ltb n (cell_count l) ≡ true
unfolding get found
get-here l n v h = go (ltb n (cell_count l)) h
  where
    go : (b : Bool) → found b (cell_at l n) ≡ Some v → b ≡ true
    go true h = refl
    go false h = let z : ◌≡◌ {A = ℕ} 0 1 = cc in absurd (omega arith)

-- ---- the write that waits

module _ (l : List ℤ) (w : Write) where
  pub over-in : w.at < cell_count l → overlay (Some w) l ≡ put_cell l w.at w.v
  unfolding overlay
  over-in h = ap (λ (b : Bool). cond b (put_cell l w.at w.v) l) (lt-ltb w.at (cell_count l) h)

  pub over_none : cell_count l ≤ w.at → overlay (Some w) l ≡ l
  unfolding overlay
  over_none h = ap (λ (b : Bool). cond b (put_cell l w.at w.v) l) (le-ltb w.at (cell_count l) h)

  pub over-same : w.at < cell_count l → get (overlay (Some w) l) w.at ≡ Some w.v
  over-same h = ap (λ (x : List ℤ). get x w.at) (over-in h) ∙ get_in (put_cell l w.at w.v) w.at (omega (arith, length-put l w.at w.v)) ∙ ap Some (cell_same l w.at w.v h)

  pub over-out : cell_count l ≤ w.at → get (overlay (Some w) l) w.at ≡ get l w.at
  over-out h = ap (λ (x : List ℤ). get x w.at) (over_none h)

  pub over-other : (m : ℕ) → (w.at ≡ m → ⊥) → get (overlay (Some w) l) m ≡ get l m
  unfolding overlay get
  over-other m h = go (ltb w.at (cell_count l))
    where
      go : (b : Bool) → get (cond b (put_cell l w.at w.v) l) m ≡ get l m
      go true = rw (length-put l w.at w.v, cell_other l w.at m w.v (λ e. h (sym e)))
      go false = refl

pub length_over : (l : List ℤ) (x : Option Write) → length (overlay x l) ≡ length l
unfolding overlay
length_over l None = refl
length_over l (Some w) = go (ltb w.at (cell_count l))
  where
    go : (b : Bool) → length (cond b (put_cell l w.at w.v) l) ≡ length l
    go true = length-put l w.at w.v
    go false = refl

pub over-gone : (l : List ℤ) (x : Option Write) (n : ℕ) → get l n ≡ None → get (overlay x l) n ≡ None
unfolding get found
over-gone l x n h = rw (length_over l x) (go (ltb n (cell_count l)) h)
  where
    go : (b : Bool) → found b (cell_at l n) ≡ None → found b (cell_at (overlay x l) n) ≡ None
    go true h = absurd (none-some _ (sym h))
    go false h = refl

-- ---- words

pub word-one : (t f : ℤ) → SFits w64 t → SFits w64 f → of_z w64 t ≡ 1 → Is (to_z w64 (of_z w64 f)) ≡ word_at t f
unfolding word_at
word-one t f ft ff h = ap Is (to_z-of_z ff) ∙ sym (ap (λ (x : ℤ). word_at x f) (sym (to_z-of_z ft) ∙ ap (to_z w64) h))

pub word_low : (t f : ℤ) → SFits w64 t → (of_z w64 t ≡ 1 → ⊥) → lt_z (to_z w64 (of_z w64 t)) (pos 2) ≡ true → Empty ≡ word_at t f
word_low t f ft n h = go t n (rw (to_z-of_z ft) at h)
  where
    go : (t : ℤ) → (of_z w64 t ≡ 1 → ⊥) → lt_z t (pos 2) ≡ true → Empty ≡ word_at t f
    go (pos zero) n h = unfold word_at in refl
    go (pos (suc zero)) n h = absurd (n refl)
    go (pos (suc (suc k))) n h = let b : suc (suc k) < 2 = ltb-true _ _ h in absurd (omega arith)
    go (negsuc k) n h = unfold word_at in refl

pub word-high : (t f : ℤ) → SFits w64 t → lt_z (to_z w64 (of_z w64 t)) (pos 2) ≡ false → NotWord ≡ word_at t f
word-high t f ft h = go t (rw (to_z-of_z ft) at h)
  where
    go : (t : ℤ) → lt_z t (pos 2) ≡ false → NotWord ≡ word_at t f
    go (pos zero) h = absurd (true≢false h)
    go (pos (suc zero)) h = absurd (true≢false h)
    go (pos (suc (suc k))) h = unfold word_at in refl
    go (negsuc k) h = absurd (true≢false h)
