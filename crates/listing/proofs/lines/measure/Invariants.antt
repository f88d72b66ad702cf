use Rattle.std.proofs.Common.{◌≡◌, ◌+◌, ◌≤◌, length}
use Rattle.listing.specs.Call.{image_text}
use Rattle.listing.proofs.Cells.{lines_from}
use Rattle.listing.proofs.lines.measure.Given as goal

abbrev pub invariant-loop-n : goal.invariant-loop-n
invariant-loop-n l =
    (l.left ≤ l.room) × (length (lines_from l.image l.n) + l.room ≡ length (image_text l.image) + l.left)
