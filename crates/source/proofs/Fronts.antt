-- What a slice's pattern binds, in the reader's words.
use Rattle.std.proofs.Common.{◌≡◌, ℕ, ◌-◌, List, [], ◌∷◌, length, get_or, take, drop, refl, arith}
use Rattle.std.proofs.Math.Seq.{take_all}
use Rattle.std.proofs.lemmas.Grind.{common_steps}
use Rattle.std.proofs.lemmas.Bool.Decides.{nat_tests}
use Rattle.expression.specs.Reader.{head, tail}

pub first_is : (t : List ℕ) → get_or t 0 0 ≡ head t
unfolding head
first_is [] = refl
first_is (b ∷ t) = refl

pub rest_is : (t : List ℕ) → take (length t - 1) (drop 1 t) ≡ tail t
unfolding tail
rest_is [] = refl
rest_is (b ∷ t) = take_all _ t (omega arith)

-- nothing stands in front of an empty text
pub head_none : (t : List ℕ) → length t ≡ 0 → head t ≡ 0
unfolding head
head_none [] h = refl
head_none (b ∷ t) h = absurd (omega arith)

pub ruleset fronts = (common_steps, nat_tests, first_is, rest_is, head_none)
