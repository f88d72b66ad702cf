-- The forms by numbers: one an operation (a mode's is mode_cost; document 02, Card 4: "Hold one number an operation and one a mode, and work the cost out"). That each
-- of the 1,188 is the table's entry is proofs/Rule.antt.
use Rattle.std.specs.Prelude.{Bool, cond, ◌&&◌, List, [], ◌∷◌, ℕ, ◌+◌, ◌/◌, ◌%◌, ◌^◌, eqb, get_or}
use Rattle.definition.specs.Arguments.{mode_cost}

-- An operation's number: bit m is set where the first operand may have mode m, bit 6 + m where the second may.
unfoldable pub operations : List ℕ
operations =
    318 ∷ 318 ∷ 126 ∷ 318 ∷ 318 ∷ 312 ∷ 312 ∷ 126 ∷ 126 ∷ 126 ∷ 126 ∷ 126 ∷ 126 ∷ 126 ∷ 318 ∷ 318 ∷ 68 ∷ 65 ∷ 68 ∷ 318 ∷ 3590 ∷ 68 ∷ 70 ∷ 65 ∷ 65 ∷ 65 ∷ 318 ∷ 318 ∷ 3588 ∷ 318 ∷ 316 ∷ 65 ∷ 318 ∷ []

unfoldable pub has : ℕ → ℕ → Bool
has n k = eqb (n / 2 ^ k % 2) 1

unfoldable pub worked_legal : ℕ → ℕ → ℕ → Bool
worked_legal o m₁ m₂ = has (get_or operations o 0) m₁ && has (get_or operations o 0) (6 + m₂)

unfoldable pub worked_cost : ℕ → ℕ → ℕ → ℕ
worked_cost o m₁ m₂ = cond (worked_legal o m₁ m₂) (1 + mode_cost m₁ + mode_cost m₂) 0
