use Rattle.std.proofs.Common.{sym, ◌∙◌, refl}
use Rattle.memory.specs.Overlay.{overlay}
use Rattle.memory.proofs.Laws.{over-in, over_none}
use Rattle.memory.proofs.put_over.Goals as goal

pub returns-then-n-cells : goal.returns-then-n-cells
returns-then-n-cells c = c.put_cell.ensures ∙ sym (rw c.in-Some.is (over-in c.args.cells.now c.in-Some.w c.if-n-cells.true))

pub returns-else-n-cells : goal.returns-else-n-cells
returns-else-n-cells c = sym (rw c.in-Some.is (over_none c.args.cells.now c.in-Some.w c.if-n-cells.false))

pub returns-in_default : goal.returns-in_default
returns-in_default c = unfold overlay in rw c.in_default.is refl
