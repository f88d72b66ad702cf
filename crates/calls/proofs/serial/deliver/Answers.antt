use Rattle.std.proofs.Common.{arith, rules}
use Rattle.definition.specs.Io.{first_free}
use Rattle.definition.specs.Calls.{deliver}
use Rattle.console.proofs.Queue.{around-below}
use Rattle.refusals.proofs.Passed.{deliver-passed}
use Rattle.calls.proofs.serial.deliver.Goals as goal

pub first_free-at-requires : goal.first_free-at-requires
first_free-at-requires c =
    let p = deliver-passed c.args.queue.now c.args.row.now c.args.bytes.now c.in_ok-deliver_check.ensures in
    (p.queue-most, p.row_fits)

pub put_bytes-requires : goal.put_bytes-requires
put_bytes-requires c =
    let p = deliver-passed c.args.queue.now c.args.row.now c.args.bytes.now c.in_ok-deliver_check.ensures in
    rw c.first_free-at.ensures (around-below _ _ (omega (arith, p.row_fits.start.1, p.row_fits.count.1)))

pub put_delivered-requires : goal.put_delivered-requires
put_delivered-requires c =
    let p = deliver-passed c.args.queue.now c.args.row.now c.args.bytes.now c.in_ok-deliver_check.ensures in
    (p.row_fits.long, omega (arith, p.room, p.queue-most))

pub returns : goal.returns
unfolding deliver first_free
returns c = rw (c.put_delivered.ensures, c.put_bytes.ensures, c.first_free-at.ensures) (search rules)
