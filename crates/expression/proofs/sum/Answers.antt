use Rattle.std.proofs.Common.{◌∙◌}
use Rattle.expression.specs.Labels.{lookup}
use Rattle.expression.proofs.Laws.{sum-links}
use Rattle.expression.proofs.sum.Goals as goal

pub returns : goal.returns
returns c = c.links.ensures ∙ sum-links (lookup c.args.labels.now) c.args.depth c.args.s.now
