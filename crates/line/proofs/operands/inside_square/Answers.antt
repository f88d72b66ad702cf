use Rattle.std.proofs.Common.{ap, ◌∙◌, arith}
use Rattle.expression.specs.Labels.{lookup}
use Rattle.expression.proofs.Spans.{rest-is}
use Rattle.assembly.specs.Reader.{register}
use Rattle.line.proofs.Laws.{then-none, then-some, begins, begins_other, begins-not, square-register, square-value}
use Rattle.line.specs.Code.{index_of}
use Rattle.line.proofs.operands.inside_square.Goals.{then-s-lt1, else-s-lt1+in_default-1}
use Rattle.line.proofs.operands.inside_square.Goals as goal

pub returns-in_err-register : goal.returns-in_err-register
returns-in_err-register c = rw c.from_residual.ensures (then-none _ _ (c.in_err-register.ensures ∙ ap register (rest-is c.args.s.now)) ∙ square-register (lookup c.args.labels.now) c.args.s.now (begins 37 c.args.s.now (search arith)))

pub returns-in-37 : goal.returns-in-37
returns-in-37 c = c.index_after.ensures ∙ (then-some _ index_of _ _ (c.in_ok-register.ensures ∙ ap register (rest-is c.args.s.now)) ∙ square-register (lookup c.args.labels.now) c.args.s.now (begins 37 c.args.s.now (search arith)))

pub returns-in_err-address : goal.returns-in_err-address
returns-in_err-address c =
    let t = c.args.s.now in
    rw c.from_residual-in_err-address.ensures (then-none _ _ c.in_err-address.ensures ∙ square-value (lookup c.args.labels.now) t
    (elim c.if-s-lt1.branch [ then-s-lt1 w ↦ begins-not 37 t (omega arith) (search arith) | else-s-lt1+in_default-1 w ↦ begins_other 37 t (search arith) ]))

pub returns : goal.returns
returns c =
    let t = c.args.s.now in
    then-some _ _ _ _ c.in_ok-address.ensures ∙ square-value (lookup c.args.labels.now) t
    (elim c.if-s-lt1.branch [ then-s-lt1 w ↦ begins-not 37 t (omega arith) (search arith) | else-s-lt1+in_default-1 w ↦ begins_other 37 t (search arith) ])
