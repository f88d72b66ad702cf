-- What holds of every exercise load. The proofs are proofs/Promised.
use Rattle.std.specs.Prelude.{◌≡◌, ℕ, ◌*◌, ◌^◌, ◌<◌, ◌≤◌, true, ◌≢◌, List, [], ◌∷◌, length, take, ℤ, pos}
use Rattle.definition.specs.Memory.{cell_at}
use Rattle.definition.specs.Encoding.{legal, tag_of, sound}
use Rattle.exercise.specs.Exercise.{forms, made, exercise, cell_from}

-- A 64-bit seed whose first cell has this form.
pub record Occurs (o m₁ m₂ : ℕ) : Type 0 where
  pub seed : ℕ
  pub fits : seed < 2 ^ 64
  pub r₁ : ℕ
  pub r₂ : ℕ
  pub below₁ : r₁ < 5
  pub below₂ : r₂ < 5
  pub tag : (cell_from seed).tag ≡ pos (tag_of o m₁ m₂ r₁ r₂)

pub record ExerciseLaws : Type 0 where
  -- The count is of all the cells that were lent, and no more are left.
  pub whole : (image : List ℤ) (seed : ℕ) → (exercise image seed).answer.refusal ≡ 0 → (3 * (exercise image seed).answer.count ≡ length image) × (length (exercise image seed).left ≡ length image)
  -- "Each cell made is sound"
  pub all_sound : (image : List ℤ) (seed n : ℕ) → (exercise image seed).answer.refusal ≡ 0 → n < (exercise image seed).answer.count → sound (cell_at (exercise image seed).left n) ≡ true
  -- "each form can occur"; there are 124
  pub occurs : (o m₁ m₂ : ℕ) → legal o m₁ m₂ ≡ true → Occurs o m₁ m₂
  pub count : length forms ≡ 124
  -- "the first n cells don't depend on how many are made"
  pub same_first : (x y : List ℤ) (seed : ℕ) → (exercise x seed).answer.refusal ≡ 0 → (exercise y seed).answer.refusal ≡ 0 → length x ≤ length y
      → take (length x) (exercise y seed).left ≡ (exercise x seed).left
  -- Three cells of the least and of the largest seed, worked out from document 02 apart from this definition.
  pub of_least : made 3 0 ≡ pos 2572 ∷ pos 14370 ∷ pos 0 ∷ pos 17602 ∷ pos 16182 ∷ pos 0 ∷ pos 202 ∷ pos 7105 ∷ pos 0 ∷ []
  pub of_largest : made 3 18446744073709551615 ≡ pos 26304 ∷ pos 3755 ∷ pos 0 ∷ pos 29302 ∷ pos 15494 ∷ pos 0 ∷ pos 10052 ∷ pos 11569 ∷ pos 0 ∷ []
  -- A refused call changes nothing.
  pub keeps : (image : List ℤ) (seed : ℕ) → (exercise image seed).answer.refusal ≢ 0 → (exercise image seed).left ≡ image
