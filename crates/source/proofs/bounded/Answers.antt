use Rattle.std.proofs.Common.{sym, ap, length, arith, length-append}
use lib.Seq.{length-take-le}
use Rattle.source.proofs.bounded.Goals as goal

pub slice_bounds-put-end : goal.slice_bounds-put-end
slice_bounds-put-end c = sym (length-take-le 32768 c.args.file.now (omega arith))

pub put-requires : goal.put-requires
put-requires c = (omega arith, omega (arith, length-take-le 32768 c.args.file.now (omega arith), ap length c.new-text.ensures))

pub push-requires : goal.push-requires
push-requires c = (omega arith, omega (arith, length-take-le 32768 c.args.file.now (omega arith), ap length c.new-text.ensures, simp length-append at (ap length c.put.ensures)))
