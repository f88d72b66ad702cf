use Rattle.std.proofs.Common.{length, arith}
use Rattle.checks.proofs.Verdict.{row-accepted}
use Rattle.refusals.proofs.deliver_check.Goals as goal

pub number_at-count-requires : goal.number_at-count-requires
number_at-count-requires c =
    let f = row-accepted (length c.args.queue.now) 65536 10000 c.args.row.now c.in_ok-row_check.ensures in
    omega (arith, f.long)

pub overflow_add-count : goal.overflow_add-count
overflow_add-count c =
    let f = row-accepted (length c.args.queue.now) 65536 10000 c.args.row.now c.in_ok-row_check.ensures in
    rw c.number_at-count.ensures (omega (arith, f.count.1))
