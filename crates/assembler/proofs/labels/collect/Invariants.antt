use Rattle.std.proofs.Common.{length}
use Rattle.assembler.specs.Meaning.{Collected}
use Rattle.assembler.proofs.labels.collect.Given as goal

abbrev pub invariant-loop-name : goal.invariant-loop-name
invariant-loop-name l = Collected l.text l.labels l.lines.text.now l.lines.number

abbrev pub decreases-loop-name : goal.decreases-loop-name
decreases-loop-name l = length l.lines.text.now
