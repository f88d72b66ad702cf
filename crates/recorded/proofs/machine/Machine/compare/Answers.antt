use Rattle.std.proofs.Common.{arith}
use Rattle.std.proofs.lemmas.Grind.{common_steps}
use Rattle.recorded.specs.Compare.{left_fault}
use Rattle.recorded.proofs.Laws.{left_exactly}
use Rattle.recorded.proofs.machine.Machine.compare.Goals as goal

pub returns-in_err-check-clause-exactly : goal.returns-in_err-check-clause-exactly
unfolding left_fault
returns-in_err-check-clause-exactly c = left_exactly c.args.self.now c.args.due.now (grind (arith, common_steps))

pub returns-in_err-check-2-clause-exactly : goal.returns-in_err-check-2-clause-exactly
unfolding left_fault
returns-in_err-check-2-clause-exactly c = left_exactly c.args.self.now c.args.due.now (grind (arith, common_steps))

pub returns-clause-exactly : goal.returns-clause-exactly
unfolding left_fault
returns-clause-exactly c = left_exactly c.args.self.now c.args.due.now (grind (arith, common_steps))
