use Rattle.std.proofs.Common.{◌≤◌, length}
use Rattle.runner_cases.proofs.Laws.{Counted}
use Rattle.runner_cases.proofs.replay.Given as goal

abbrev pub invariant-loop-rest : goal.invariant-loop-rest
invariant-loop-rest l = (l.passed ≤ l.seen) × Counted l.s l.rest l.seen l.passed

abbrev pub decreases-loop-rest : goal.decreases-loop-rest
decreases-loop-rest l = length l.rest
