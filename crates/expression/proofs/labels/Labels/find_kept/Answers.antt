use Rattle.expression.specs.Labels.{kept}
use Rattle.expression.proofs.Tables.{found-own, found-else}
use Rattle.expression.proofs.labels.Labels.find_kept.Goals as goal

pub returns-in-Some : goal.returns-in-Some
unfolding kept
returns-in-Some c = found-own _ _ _ c.guessed.ensures c.in-Some.line c.in-Some.is

pub returns-in-None : goal.returns-in-None
unfolding kept
returns-in-None c = found-else _ _ _ c.guessed.ensures _ c.in-None.is c.among.ensures
