use Rattle.std.proofs.Common.{◌≡◌, ◌-◌, ◌*◌, ◌/◌, ◌%◌, arith}
use Rattle.encoding.proofs.Sound.{modes}
use Rattle.encoding.proofs.taken_apart.Goals as goal

pub returns : goal.returns
returns c =
    let t = c.args.t in
    let op : c.op_of-op.result ≡ t / 900 = omega arith in
    let m = modes t _ _ _ c.place-k.ensures c.op_of-op.ensures c.sixth-m1.ensures in
    let r : t - 25 * c.place-k.result ≡ t % 25 = omega arith in
    rw (m.1, op, m.0, r)
