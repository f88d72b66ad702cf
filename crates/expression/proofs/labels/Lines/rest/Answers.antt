use Rattle.std.proofs.Common.{arith}
use Rattle.expression.proofs.Names.{next-less}
use Rattle.expression.proofs.labels.Lines.rest.Goals as goal

pub invariant_of-result : goal.invariant_of-result
invariant_of-result c =
    let l = next-less c.args.self.text.now c.requires in
    let f = c.args.self.fits in
    record { fits = rw c.next_line.ensures (omega arith) }
