use Rattle.std.proofs.Common.{◌∙◌, sym, arith}
use Rattle.runner_cases.proofs.Laws.{number_end, length_is}
use Rattle.runner_cases.proofs.number.Goals as goal

pub returns-clause-value : goal.returns-clause-value
returns-clause-value c =
    let l = c.loop-b in
    sym (number_end l.n l.b-index _ (omega arith)) ∙ l.invariant.0 ∙ length_is c.args.digits.now c.requires
