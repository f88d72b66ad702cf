use Rattle.listing.proofs.Cells.{Written}
use Rattle.listing.proofs.lines.write.Given as goal

abbrev pub invariant-loop-n : goal.invariant-loop-n
invariant-loop-n l = Written l.image l.initial.text l.text l.n l.at
