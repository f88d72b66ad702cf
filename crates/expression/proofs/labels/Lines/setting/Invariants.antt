use Rattle.std.proofs.Common.{◌≡◌, length}
use Rattle.expression.specs.Table.{setting}
use Rattle.expression.proofs.labels.Lines.setting.Given as goal

abbrev pub invariant-loop-lines : goal.invariant-loop-lines
invariant-loop-lines l = setting l.lines.text.now l.lines.number l.name ≡ setting l.self.text.now l.self.number l.name

abbrev pub decreases-loop-lines : goal.decreases-loop-lines
decreases-loop-lines l = length l.lines.text.now
