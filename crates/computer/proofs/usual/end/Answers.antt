use Rattle.std.proofs.Common.{[], ap, arith}
use Rattle.definition.specs.Runtime.{Machine}
use Rattle.runtime.proofs.Laws.{entered_cycles}
use Rattle.computer.proofs.usual.end.Goals as goal

pub returns-else-not-has_handler-clause-soon : goal.returns-else-not-has_handler-clause-soon
returns-else-not-has_handler-clause-soon c =
    let e = ap (λ (m : Machine). m.cycles) (c.enter.ensures [] []) in
    omega (arith, entered_cycles)
