use Rattle.std.proofs.Common.{◌≡◌, ◌<◌, length, drop}
use Rattle.definition.specs.Io.{put_bytes}
use Rattle.console.proofs.put_bytes.Given as goal

abbrev pub invariant-loop-byte : goal.invariant-loop-byte
invariant-loop-byte l = record {
  in_queue : l.p < length l.queue;
  rest : put_bytes l.p (drop l.byte-index l.bytes) l.queue ≡ put_bytes l.at l.bytes l.initial.queue;
}
