use Rattle.std.proofs.Common.{◌≡◌}
use Rattle.definition.specs.Calls.{lent}
use Rattle.bench.specs.Bench.{machines, seat_by_seat}
use Rattle.seats.proofs.Checks.{check_from}
use Rattle.seats.proofs.seats_check.Given as goal

abbrev pub invariant-loop-k : goal.invariant-loop-k
invariant-loop-k l =
    let b = lent l.cells l.queues l.outputs l.rows in check_from l.n b l.k-counter ≡ seat_by_seat 1 (machines l.n l.n 0 b)
