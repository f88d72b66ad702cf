use Rattle.std.proofs.Common.{◌∙◌}
use Rattle.expression.specs.Labels.{lookup}
use Rattle.line.proofs.Laws.{ended-any, label-after, row-long, row-label, row-plain}
use Rattle.line.proofs.content.row.Goals as goal

pub returns-in-Some : goal.returns-in-Some
returns-in-Some c = row-long (lookup c.args.labels.now) c.args.s.now _ _ (label-after c.args.s.now _ _ c.skip_spaces-s.ensures c.in-Some.ensures) c.if-name-gt16.true

pub returns-in-Some-2 : goal.returns-in-Some-2
returns-in-Some-2 c = c.ended.ensures ∙ (ended-any (lookup c.args.labels.now) _ _ _ _ c.content.ensures c.skip_spaces.ensures ∙ row-label (lookup c.args.labels.now) c.args.s.now _ _ (label-after c.args.s.now _ _ c.skip_spaces-s.ensures c.in-Some.ensures) c.if-name-gt16.false)

pub returns-in-None : goal.returns-in-None
returns-in-None c = c.ended-in-None.ensures ∙ (ended-any (lookup c.args.labels.now) _ _ _ _ c.content-in-None.ensures c.skip_spaces-s.ensures ∙ row-plain (lookup c.args.labels.now) c.args.s.now (label-after c.args.s.now _ _ c.skip_spaces-s.ensures c.in-None.ensures))
