use Rattle.std.proofs.Common.{arith, length-append, length-take}
use Rattle.runner.proofs.Laws.{read_more}
use Rattle.runner.proofs.read_all.Goals as goal

pub loop-at-preserved : goal.loop-at-preserved
loop-at-preserved g c =
    let l = c.loop-at in
    let n = c.in_ok-n.n in
    let h = c.in_ok-n.ensures.bound.0 in
    (simp (length-append, length-take, length-append) (omega arith), read_more _ _ _ l.at n l.text c.read.new.buf _ l.invariant.0 h l.invariant.1 c.in_ok-n.ensures.bytes.0)
