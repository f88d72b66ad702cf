use Rattle.std.proofs.Common.{true, false, ap, ◌∙◌, arith}
use Rattle.expression.specs.Reader.{numbered}
use Rattle.expression.specs.Values.{values, no_labels}
use Rattle.expression.proofs.Spans.{rest-is}
use Rattle.line.proofs.Laws.{then-none, then-some, begins, begins_other, begins-not, index-plus, index-minus, index-none}
use Rattle.line.proofs.operands.index_after.Goals.{in_default-via-then-s-lt1, in_default-via-else-s-lt1+in_default-1}
use Rattle.line.proofs.operands.index_after.Goals as goal

pub returns-in_err-index-in-43 : goal.returns-in_err-index-in-43
returns-in_err-index-in-43 c = rw c.from_residual.ensures (then-none _ _ (c.in_err-index-in-43.ensures ∙ ap (numbered (values no_labels) false) (rest-is c.args.s.now)) ∙ index-plus c.args.register c.args.s.now (begins 43 c.args.s.now (search arith)))

pub returns-in_err-index-in-45 : goal.returns-in_err-index-in-45
returns-in_err-index-in-45 c = rw c.from_residual-in_err-index-in-45.ensures (then-none _ _ (c.in_err-index-in-45.ensures ∙ ap (numbered (values no_labels) true) (rest-is c.args.s.now)) ∙ index-minus c.args.register c.args.s.now (begins 45 c.args.s.now (search arith)))

pub returns-in_ok-index-in-43 : goal.returns-in_ok-index-in-43
returns-in_ok-index-in-43 c = then-some _ _ _ _ (c.in_ok-index-in-43.ensures ∙ ap (numbered (values no_labels) false) (rest-is c.args.s.now)) ∙ index-plus c.args.register c.args.s.now (begins 43 c.args.s.now (search arith))

pub returns-in_ok-index-in-45 : goal.returns-in_ok-index-in-45
returns-in_ok-index-in-45 c = then-some _ _ _ _ (c.in_ok-index-in-45.ensures ∙ ap (numbered (values no_labels) true) (rest-is c.args.s.now)) ∙ index-minus c.args.register c.args.s.now (begins 45 c.args.s.now (search arith))

pub returns-in_default : goal.returns-in_default
returns-in_default c =
    let t = c.args.s.now in
    elim c.in_default.branch [
      | in_default-via-then-s-lt1 w ↦ index-none c.args.register t (begins-not 43 t (omega arith) (search arith)) (begins-not 45 t (omega arith) (search arith))
      | in_default-via-else-s-lt1+in_default-1 w ↦ index-none c.args.register t (begins_other 43 t (search arith)) (begins_other 45 t (search arith))
    ]
