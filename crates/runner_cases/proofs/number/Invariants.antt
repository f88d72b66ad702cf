use Rattle.std.proofs.Common.{◌≡◌, ◌<◌, ◌^◌, drop}
use Rattle.runner_cases.proofs.Laws.{number}
use Rattle.runner_cases.proofs.number.Given as goal

abbrev pub invariant-loop-b : goal.invariant-loop-b
invariant-loop-b l = (number l.n (drop l.b-index l.digits) ≡ number 0 l.digits) × (l.n < 10 ^ l.b-index)
