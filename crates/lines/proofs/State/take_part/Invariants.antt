use Rattle.std.proofs.Common.{◌≡◌, drop}
use mathlib.Core.List.{foldl}
use Rattle.lines.specs.Reader.{step}
use Rattle.lines.proofs.State.take_part.Given as goal

abbrev pub invariant-loop-b : goal.invariant-loop-b
invariant-loop-b l = foldl step l.self (drop l.b-index l.part) ≡ foldl step l.fn.self l.part
