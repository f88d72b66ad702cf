use Rattle.std.proofs.Common.{sym, ◌∙◌, arith}
use Rattle.expression.specs.Labels.{lookup}
use Rattle.expression.proofs.Spans.{rest-is}
use Rattle.expression.proofs.Names.{same_eq}
use Rattle.line.specs.Names.{word_letters}
use Rattle.line.proofs.Laws.{then-none, then-some, begins, begins_other, begins-not, content-word, content-dot, content-op, below-33}
use Rattle.line.proofs.content.content.Goals.{then-s-lt1, else-s-lt1+in_default-1}
use Rattle.line.proofs.content.content.Goals as goal

pub returns-then-eq : goal.returns-then-eq
returns-then-eq c =
    let n = rw (rest-is c.args.s.now) at c.split_name.ensures.0 in
    let r = rw (rest-is c.args.s.now) at c.split_name.ensures.1 in
    rw r at c.word_after.ensures ∙ content-word (lookup c.args.labels.now) c.args.s.now (begins 46 c.args.s.now (search arith)) (rw n at (sym ((rw c.as_slice.ensures at c.eq.ensures) ∙ same_eq word_letters c.split_name.result.0.now) ∙ c.if-eq.true))

pub returns-in-46 : goal.returns-in-46
returns-in-46 c =
    let n = rw (rest-is c.args.s.now) at c.split_name.ensures.0 in
    content-dot (lookup c.args.labels.now) c.args.s.now (begins 46 c.args.s.now (search arith)) (rw n at (sym ((rw c.as_slice.ensures at c.eq.ensures) ∙ same_eq word_letters c.split_name.result.0.now) ∙ c.if-eq.false))

pub returns-in_err-op : goal.returns-in_err-op
returns-in_err-op c =
    let t = c.args.s.now in
    rw c.from_residual.ensures (then-none _ _ c.in_err-op.ensures ∙ content-op (lookup c.args.labels.now) t
    (elim c.if-s-lt1.branch [ then-s-lt1 w ↦ begins-not 46 t (omega arith) (search arith) | else-s-lt1+in_default-1 w ↦ begins_other 46 t (search arith) ]))

pub operands-requires : goal.operands-requires
operands-requires c = below-33 c.args.s.now _ _ c.in_ok-op.ensures

pub returns : goal.returns
returns c =
    let t = c.args.s.now in
    c.operands.ensures ∙ (then-some _ _ _ _ c.in_ok-op.ensures ∙ content-op (lookup c.args.labels.now) t
    (elim c.if-s-lt1.branch [ then-s-lt1 w ↦ begins-not 46 t (omega arith) (search arith) | else-s-lt1+in_default-1 w ↦ begins_other 46 t (search arith) ]))
