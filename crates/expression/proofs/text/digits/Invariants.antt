use Rattle.std.proofs.Common.{◌≡◌, drop}
use Rattle.expression.specs.Code.{cap_decimal}
use Rattle.expression.proofs.text.digits.Given as goal

abbrev pub invariant-loop-digit : goal.invariant-loop-digit
invariant-loop-digit l = cap_decimal l.size (drop l.digit-index l.front) ≡ cap_decimal 0 l.front
