use Rattle.lister.proofs.Laws.{none_read, read_more, broken_read}
use Rattle.lister.proofs.read_all.Goals as goal

pub loop-read-init : goal.loop-read-init
loop-read-init g c = rw c.new-seen.ensures (none_read _)

pub loop-read-preserved : goal.loop-read-preserved
loop-read-preserved g c =
    let l = c.loop-read in
    read_more _ _ _ l._read c.in_ok-n.n l.seen _ c.read.new.buf l.invariant c.in_ok-n.ensures.bound.0 c.if-n-eq0.false c.in_ok-n.ensures.bytes.0 c.take_part.ensures

pub returns-then-seen : goal.returns-then-seen
returns-then-seen g c =
    let l = c.loop-read in
    broken_read _ _ _ _ (read_more _ _ _ l._read c.in_ok-n.n l.seen _ c.read.new.buf l.invariant c.in_ok-n.ensures.bound.0 c.if-n-eq0.false c.in_ok-n.ensures.bytes.0 c.take_part.ensures) c.if-seen.true
