use Rattle.std.proofs.Common.{sym, ◌∙◌, ltb-true}
use native.Mathlib.Omega.{arith}
use Rattle.memory.specs.Overlay.{overlay}
use Rattle.memory.proofs.Laws.{get-here, over-gone, over-same, over-other}
use Rattle.memory.proofs.read_over.Goals as goal

pub returns-in_err-old : goal.returns-in_err-old
returns-in_err-old c =
    let a = c.args in
    c.from_residual.ensures ∙ sym (over-gone a.cells.now a.write a.n (sym c.get.ensures ∙ c.in_err-old.was))

pub returns-then-w-n : goal.returns-then-w-n
returns-then-w-n c =
    let a = c.args in
    let w = c.in-Some.w in
    let here = get-here a.cells.now a.n _ (sym c.get.ensures ∙ c.in_ok-old.was) in
    sym (rw (c.in-Some.is, ← c.if-w-n.true) (over-same a.cells.now w (let h = ltb-true _ _ here in omega arith)))

pub returns-else-w-n : goal.returns-else-w-n
returns-else-w-n c =
    let a = c.args in
    sym (rw c.in-Some.is (over-other a.cells.now c.in-Some.w a.n c.if-w-n.false) ∙ sym c.get.ensures ∙ c.in_ok-old.was)

pub returns-in_default : goal.returns-in_default
returns-in_default c = unfold overlay in rw c.in_default.is (sym (sym c.get.ensures ∙ c.in_ok-old.was))
