use Rattle.std.proofs.Common.{◌≡◌, length}
use Rattle.source.specs.Source.{numeric_line, lowest_numeric}
use Rattle.source.proofs.numeric.lowest_numeric.Given as goal

abbrev pub invariant-loop-rest : goal.invariant-loop-rest
invariant-loop-rest l = numeric_line l.k l.fresh l.rest ≡ lowest_numeric l.s

abbrev pub decreases-loop-rest : goal.decreases-loop-rest
decreases-loop-rest l = length l.rest
