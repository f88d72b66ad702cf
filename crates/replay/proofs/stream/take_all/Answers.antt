use Rattle.std.proofs.Common.{rules, sym, take}
use Rattle.replay.proofs.Laws.{none-taken, and-taken, text-ended}
use Rattle.replay.proofs.stream.take_all.Goals as goal

pub loop-turn-init : goal.loop-turn-init
loop-turn-init c = (sym c.large_buffer-text.ensures, none-taken _)

pub loop-turn-preserved : goal.loop-turn-preserved
loop-turn-preserved c = (search rules, and-taken (take c.read_full-n.result c.read_full-n.new.buf) c.loop-turn.invariant.1 c.take_part.ensures)

pub returns : goal.returns
returns c = text-ended c.loop-turn.invariant.1 c.text_end.ensures
