use Rattle.std.proofs.Common.{◌≡◌, drop}
use mathlib.Core.List.{foldl}
use Rattle.lister.specs.Output.{seen_step}
use Rattle.lister.proofs.seen.Seen.take_part.Given as goal

abbrev pub invariant-loop-b : goal.invariant-loop-b
invariant-loop-b l = foldl seen_step l.self (drop l.b-index l.part) ≡ foldl seen_step l.fn.self l.part
