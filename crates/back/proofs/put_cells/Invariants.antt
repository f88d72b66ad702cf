use Rattle.std.proofs.Common.{◌≡◌, length}
use Rattle.journal.specs.Journal.{put_back}
use Rattle.back.proofs.put_cells.Given as goal

abbrev pub invariant-loop-i : goal.invariant-loop-i
invariant-loop-i l = (length l.cells ≡ length l.initial.cells) × (put_back l.i l.kept l.cells ≡ put_back l.k l.kept l.initial.cells)
