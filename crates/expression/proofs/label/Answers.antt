use Rattle.expression.specs.Labels.{lookup}
use Rattle.expression.proofs.Laws.{label_is, label-none}
use Rattle.expression.proofs.label.Goals as goal

pub returns-then-name-le16 : goal.returns-then-name-le16
returns-then-name-le16 c = rw (c.of_line.ensures, c.find.ensures, c.skip_spaces.ensures, c.split_name.ensures.0, c.split_name.ensures.1) (label_is (lookup c.args.labels.now) c.args.s.now (rw c.split_name.ensures.0 at c.if-name-le16.true))

pub returns : goal.returns
returns c = label-none (lookup c.args.labels.now) c.args.s.now (rw c.split_name.ensures.0 at c.if-name-le16.false)
