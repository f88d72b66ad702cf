use Rattle.expression.specs.Labels.{lookup}
use Rattle.expression.proofs.Tables.{found-own, found-else}
use Rattle.expression.proofs.labels.Labels.find.Goals as goal

pub returns-in-Some : goal.returns-in-Some
unfolding lookup
returns-in-Some c = found-own _ _ _ c.find_kept.ensures c.in-Some.line c.in-Some.is

pub returns-in-None : goal.returns-in-None
unfolding lookup
returns-in-None c = found-else _ _ _ c.find_kept.ensures _ c.in-None.is c.setting.ensures
