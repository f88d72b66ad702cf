use Rattle.lister.proofs.Laws.{SeesSoFar}
use Rattle.lister.proofs.read_all.Given as goal

abbrev pub invariant-loop-read : goal.invariant-loop-read
invariant-loop-read g l = SeesSoFar (g.R.Read.remaining l.fn.from) (g.R.Read.remaining l.from) l._read l.seen
