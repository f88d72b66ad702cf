use Rattle.std.proofs.Common.{length, ap, length-append, rules}
use Rattle.report.proofs.Laws.{left_next}
use Rattle.report.proofs.put_line.Goals as goal

pub put_field-requires : goal.put_field-requires
put_field-requires g c = let l = c.loop-v in
    let e = left_next g.V.Number.number c.args.fields.now l.v-index c.v-item.result c.loop-v-test.true c.v-item.is in
    let n = simp length-append at (ap length (rw e at l.invariant)) in
    search rules
