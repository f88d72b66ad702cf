use Rattle.std.proofs.Common.{refl}
use Rattle.replay.proofs.Laws.{reported}
use Rattle.replay.proofs.stream.verdict.Goals as goal

pub returns : goal.returns
returns c = reported (rw (c.new.ensures, c.new-2.ensures, c.new-3.ensures, c.new-4.ensures) refl) c.take_all.ensures c.verdict.ensures
