use Rattle.std.proofs.Common.{sym, ◌∙◌}
use Rattle.expression.proofs.Laws.{operator-first, operator-none, operator-empty}
use Rattle.expression.proofs.Level.split_operator.Goals as goal

pub returns-in_err-first : goal.returns-in_err-first
returns-in_err-first c = rw c.from_residual.ensures (operator-empty c.args.self c.args.s.now c.in_err-first.ensures.cases)

pub returns-in_err-operator : goal.returns-in_err-operator
returns-in_err-operator c = rw c.from_residual-in_err-operator.ensures (operator-none c.args.self c.args.s.now _ _ c.in_ok-first.ensures.cases.0 (sym c.operator.ensures ∙ c.in_err-operator.was))

pub returns : goal.returns
returns c = rw c.skip_spaces.ensures (operator-first c.args.self c.args.s.now _ _ c.in_ok-operator.field-0 c.in_ok-first.ensures.cases.0 (sym c.operator.ensures ∙ c.in_ok-operator.was))
