use Rattle.std.proofs.Common.{sym}
use Rattle.memory.specs.Overlay.{overlay}
use Rattle.runtime.proofs.Laws.{raised}
use Rattle.runtime.proofs.settle.raise.Goals as goal

pub returns : goal.returns
unfolding overlay
returns c = λ q o. raised _ _ _ (sym c.if-not-has_handler.ensures) c.in_ok-within-2.ensures (c.enter.ensures q o)
