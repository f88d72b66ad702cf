use Rattle.std.proofs.Common.{◌∙◌}
use Rattle.std.proofs.lemmas.Result.{err_from_is_err_and}
use Rattle.memory.specs.Overlay.{overlay}
use Rattle.registers.specs.Meaning.{res_of}
use Rattle.runtime.proofs.Served.{turned_ok, turned_err}
use Rattle.runtime.proofs.turn.arrive.Goals as goal

pub returns-clause-value : goal.returns-clause-value
unfolding res_of overlay
returns-clause-value c =
    c.serve.ensures.value c.args.cells.now ∙ turned_ok _ _ c.guard.ensures _ _ (rw c.requires.none at c.in_ok-x.ensures.value)

pub returns-in_err-x-clause-value : goal.returns-in_err-x-clause-value
unfolding res_of overlay
returns-in_err-x-clause-value c =
    let p = err_from_is_err_and c.from_residual.result c.from_residual.ensures.1 in
    rw (p.1, p.2, c.requires.none) (turned_err _ _ c.guard.ensures _ _ (rw c.requires.none at c.in_err-x.ensures.value))
