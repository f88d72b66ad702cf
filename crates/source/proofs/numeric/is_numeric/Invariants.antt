use Rattle.std.proofs.Common.{◌≡◌, ◌-◌}
use Rattle.source.specs.Source.{numeric_from, is_numeric}
use Rattle.source.proofs.numeric.is_numeric.Given as goal

abbrev pub invariant-loop-comma : goal.invariant-loop-comma
invariant-loop-comma l = numeric_from (3 - l._comma) l.rest ≡ is_numeric l.s
