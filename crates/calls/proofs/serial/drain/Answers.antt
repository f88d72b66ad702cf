use Rattle.std.proofs.Common.{arith, rules}
use Rattle.refusals.proofs.Passed.{drain-passed}
use Rattle.calls.proofs.serial.drain.Goals as goal

pub number_at-n-requires : goal.number_at-n-requires
number_at-n-requires c =
    let p = drain-passed c.args.output.now c.args.row.now c.args.buffer.now c.in_ok-drain_check.ensures in
    omega (arith, p.row_fits.long)

pub drain_to-requires : goal.drain_to-requires
drain_to-requires c =
    let p = drain-passed c.args.output.now c.args.row.now c.args.buffer.now c.in_ok-drain_check.ensures in
    rw c.number_at-n.ensures (omega (arith, p.row_fits.written.1), p.room)

pub slice_set_of-row : goal.slice_set_of-row
slice_set_of-row c =
    let p = drain-passed c.args.output.now c.args.row.now c.args.buffer.now c.in_ok-drain_check.ensures in
    let l = p.row_fits.long in
    search rules
