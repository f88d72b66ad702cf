use Rattle.std.proofs.Common.{◌≡◌, drop}
use mathlib.Core.List.{foldl}
use Rattle.lines.specs.Reader.{opened, within}
use Rattle.source.proofs.read_start.Given as goal

abbrev pub invariant-loop-b : goal.invariant-loop-b
invariant-loop-b l = foldl within l.r (drop l.b-index l.line) ≡ foldl within opened l.line
