use Rattle.std.specs.Prelude.{Some}
use mathlib.Core.Path.{sym, ◌∙◌, ap}
use Rattle.memory.proofs.Laws.{get_in, get-out}
use native.Mathlib.Omega.{arith}
use Rattle.memory.proofs.get.Goals as goal

pub returns-then-at-cells : goal.returns-then-at-cells
returns-then-at-cells c = let a = c.args in ap Some c.get_cell.ensures ∙ sym (get_in a.cells.now a.n (omega arith))

pub returns-else-at-cells : goal.returns-else-at-cells
returns-else-at-cells c = let a = c.args in sym (get-out a.cells.now a.n (omega arith))
