use Rattle.std.proofs.Common.{◌≡◌, take}
use mathlib.Core.List.{foldl}
use Rattle.recorded_calls.specs.Replay.{byte_taken}
use Rattle.replay.proofs.stream.take_part.Given as goal

abbrev pub invariant-loop-byte : goal.invariant-loop-byte
invariant-loop-byte l = l.reading ≡ foldl byte_taken l.initial.reading (take l.byte-index l.part)
