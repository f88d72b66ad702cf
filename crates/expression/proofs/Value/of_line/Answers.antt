use Rattle.std.proofs.Common.{refl, ◌∙◌}
use Rattle.expression.specs.Values.{place_value}
use Rattle.expression.proofs.Laws.{small-value}
use Rattle.expression.proofs.Value.of_line.Goals as goal

pub returns-in-Some : goal.returns-in-Some
unfolding place_value
returns-in-Some c = rw c.in-Some.is (c.sized.ensures ∙ small-value _)

pub returns-in-None : goal.returns-in-None
unfolding place_value
returns-in-None c = rw c.in-None.is refl
