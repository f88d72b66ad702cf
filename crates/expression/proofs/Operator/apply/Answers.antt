use Rattle.std.proofs.Common.{◌∙◌, arith}
use Rattle.word.proofs.Laws.{back}
use Rattle.expression.specs.Values.{plus_value, minus_value, times_value}
use Rattle.expression.proofs.Operator.apply.Goals.{in-Times, in-Plus, in-Minus}
use Rattle.expression.proofs.Operator.apply.Goals as goal

pub returns : goal.returns
unfolding plus_value minus_value times_value
returns c = c.join.ensures ∙
    (elim c.match-self.branch [
      | in-Times w ↦ rw (w.in-Times.is, w.wrapped-is, w.mul-wrapped.ensures, back c.args.x.value (omega arith), back c.args.y.value (omega arith))
      | in-Plus w ↦ rw (w.in-Plus.is, w.wrapped-is, w.add-wrapped.ensures, back c.args.x.value (omega arith), back c.args.y.value (omega arith))
      | in-Minus w ↦ rw (w.in-Minus.is, w.wrapped-is, w.sub-wrapped.ensures, back c.args.x.value (omega arith), back c.args.y.value (omega arith))
    ])
