use Rattle.std.proofs.Common.{◌∙◌, arith}
use Rattle.expression.proofs.Names.{hash-more, hash-stop}
use Rattle.expression.proofs.labels.hash.Goals as goal

pub loop-b-preserved : goal.loop-b-preserved
loop-b-preserved c = record { below = omega arith; same = hash-more c.args.name.now c.loop-b.b-index c.loop-b.hash c.loop-b-test.true ∙ c.loop-b.invariant.same }

pub returns : goal.returns
returns c = (hash-stop c.args.name.now c.loop-b.b-index c.loop-b.hash c.loop-b-test.false ∙ c.loop-b.invariant.same, c.loop-b.invariant.below)
