use Rattle.std.proofs.Common.{ap, ◌∙◌}
use Rattle.memory.specs.Overlay.{overlay}
use Rattle.noting.specs.Meaning.{own_of}
use Rattle.noting.proofs.Laws.{aimed_ok, own_there}
use Rattle.noting.proofs.find.own_cell.Goals as goal

pub returns-in_err-n : goal.returns-in_err-n
unfolding overlay
returns-in_err-n c = ap own_of c.from_residual.ensures ∙ c.in_err-n.ensures.value ∙ rw c.guard.ensures (aimed_ok _ _ _ _ c.in-Ok.ensures.value)

pub returns : goal.returns
unfolding overlay
returns c = own_there _ _ _ c.in_ok-n.ensures.inside c.was_over.ensures ∙ c.in_ok-n.ensures.value ∙ rw c.guard.ensures (aimed_ok _ _ _ _ c.in-Ok.ensures.value)
