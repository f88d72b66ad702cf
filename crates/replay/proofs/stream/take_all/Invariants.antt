use Rattle.std.proofs.Common.{◌≡◌, length}
use Rattle.replay.specs.Input.{TextTaken}
use Rattle.replay.proofs.stream.take_all.Given as goal

abbrev pub invariant-loop-turn : goal.invariant-loop-turn
invariant-loop-turn l = (length l.text ≡ 65536) × TextTaken l.initial.reading l.reading
