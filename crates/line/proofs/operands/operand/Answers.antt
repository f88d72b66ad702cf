use Rattle.std.proofs.Common.{refl, ap, ◌∙◌, arith}
use Rattle.expression.specs.Labels.{lookup}
use Rattle.expression.proofs.Spans.{rest-is}
use Rattle.assembly.specs.Reader.{register}
use Rattle.line.proofs.Laws.{then-none, then-some, begins, begins_other, begins-not, expect-some, expect-none, operand-register, operand-square, operand-value}
use Rattle.line.proofs.operands.operand.Goals.{then-s-lt1, else-s-lt1+in_default-1}
use Rattle.line.proofs.operands.operand.Goals as goal

pub returns-in_err-register : goal.returns-in_err-register
returns-in_err-register c = rw c.from_residual.ensures (then-none _ _ (c.in_err-register.ensures ∙ ap register (rest-is c.args.s.now)) ∙ operand-register (lookup c.args.labels.now) c.args.s.now (begins 37 c.args.s.now (search arith)))

pub returns-in-37 : goal.returns-in-37
returns-in-37 c = then-some _ _ _ _ (c.in_ok-register.ensures ∙ ap register (rest-is c.args.s.now)) ∙ operand-register (lookup c.args.labels.now) c.args.s.now (begins 37 c.args.s.now (search arith))

pub returns-in_err-arg : goal.returns-in_err-arg
returns-in_err-arg c = rw c.from_residual-in_err-arg.ensures (then-none _ _ c.in_err-arg.ensures ∙ operand-square (lookup c.args.labels.now) c.args.s.now _ c.in-Some.ensures)

pub returns-in_err-token : goal.returns-in_err-token
returns-in_err-token c = rw c.from_residual-in_err-token.ensures (expect-none 93 _ _ refl c.in_err-token.ensures ∙ (then-some _ _ _ _ c.in_ok-arg.ensures ∙ operand-square (lookup c.args.labels.now) c.args.s.now _ c.in-Some.ensures))

pub returns-in-Some : goal.returns-in-Some
returns-in-Some c = expect-some 93 _ _ _ c.in_ok-token.ensures ∙ (then-some _ _ _ _ c.in_ok-arg.ensures ∙ operand-square (lookup c.args.labels.now) c.args.s.now _ c.in-Some.ensures)

pub returns-in_err-value : goal.returns-in_err-value
returns-in_err-value c =
    let t = c.args.s.now in
    rw c.from_residual-in_err-value.ensures (then-none _ _ c.in_err-value.ensures ∙ operand-value (lookup c.args.labels.now) t
    (elim c.if-s-lt1.branch [ then-s-lt1 w ↦ begins-not 37 t (omega arith) (search arith) | else-s-lt1+in_default-1 w ↦ begins_other 37 t (search arith) ]) c.in_default-token.ensures)

pub returns : goal.returns
returns c =
    let t = c.args.s.now in
    then-some _ _ _ _ c.in_ok-value.ensures ∙ operand-value (lookup c.args.labels.now) t
    (elim c.if-s-lt1.branch [ then-s-lt1 w ↦ begins-not 37 t (omega arith) (search arith) | else-s-lt1+in_default-1 w ↦ begins_other 37 t (search arith) ]) c.in_default-token.ensures
