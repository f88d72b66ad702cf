use Rattle.expression.proofs.Tables.{named_line}
use Rattle.expression.proofs.labels.Entry.line_of.Goals as goal

pub returns : goal.returns
returns c = rw c.then_some.ensures (named_line c.args.self.now c.args.name.now _ c.eq.ensures)
