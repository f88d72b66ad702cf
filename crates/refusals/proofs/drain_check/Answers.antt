use Rattle.std.proofs.Common.{length, arith}
use Rattle.checks.proofs.Verdict.{row-accepted}
use Rattle.refusals.proofs.drain_check.Goals as goal

pub number_at-n-requires : goal.number_at-n-requires
number_at-n-requires c =
    let f = row-accepted 4096 (length c.args.output.now) 10000 c.args.row.now c.in_ok-row_check.ensures in
    omega (arith, f.long)
