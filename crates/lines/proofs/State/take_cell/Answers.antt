use Rattle.std.proofs.Common.{◌∙◌, sym, arith}
use Rattle.definition.proofs.Row.{below_in}
use Rattle.lines.proofs.State.take_cell.Goals as goal

pub overflow_cast-at : goal.overflow_cast-at
overflow_cast-at c =
    let b = below_in _ _ (sym c.is_below.ensures ∙ c.if-is_below.true) in
    (rw b.0 tt, omega arith)

pub put_cell-requires : goal.put_cell-requires
put_cell-requires c =
    let b = below_in _ _ (sym c.is_below.ensures ∙ c.if-is_below.true) in
    omega arith
