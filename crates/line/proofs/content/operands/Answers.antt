use Rattle.std.proofs.Common.{sym, ◌∙◌}
use Rattle.expression.specs.Labels.{lookup}
use Rattle.line.proofs.Laws.{then-none, then-some, operands-absent, operands-unspaced, operands-some, second, second-comma, second-none, coded-any}
use Rattle.line.proofs.content.operands.Goals as goal

pub returns-then-is_legal : goal.returns-then-is_legal
returns-then-is_legal c = rw c.skip_spaces.ensures (operands-absent (lookup c.args.labels.now) c.args.op c.args.s.now (sym c.is_legal.ensures ∙ c.if-is_legal.true))

pub returns-in_err-first : goal.returns-in_err-first
returns-in_err-first c = rw c.from_residual.ensures (operands-unspaced (lookup c.args.labels.now) c.args.op c.args.s.now (sym c.is_legal.ensures ∙ c.if-is_legal.false) c.in_err-first.ensures)

pub returns-in_err-x : goal.returns-in_err-x
returns-in_err-x c = rw c.from_residual-in_err-x.ensures (then-none _ (second (lookup c.args.labels.now) c.args.op) c.in_err-x.ensures ∙ operands-some (lookup c.args.labels.now) c.args.op c.args.s.now _ (sym c.is_legal.ensures ∙ c.if-is_legal.false) c.in_ok-first.ensures)

pub returns-in_default : goal.returns-in_default
returns-in_default c = c.coded.ensures ∙ (coded-any (lookup c.args.labels.now) _ _ _ _ ∙ second-none (lookup c.args.labels.now) c.args.op _ _ c.in_default.ensures ∙ (then-some _ (second (lookup c.args.labels.now) c.args.op) _ _ c.in_ok-x.ensures ∙ operands-some (lookup c.args.labels.now) c.args.op c.args.s.now _ (sym c.is_legal.ensures ∙ c.if-is_legal.false) c.in_ok-first.ensures))

pub returns-in_err-y : goal.returns-in_err-y
returns-in_err-y c = rw c.from_residual-in_err-y.ensures (then-none _ _ c.in_err-y.ensures ∙ (second-comma (lookup c.args.labels.now) c.args.op _ _ _ c.in-Some.ensures ∙ (then-some _ (second (lookup c.args.labels.now) c.args.op) _ _ c.in_ok-x.ensures ∙ operands-some (lookup c.args.labels.now) c.args.op c.args.s.now _ (sym c.is_legal.ensures ∙ c.if-is_legal.false) c.in_ok-first.ensures)))

pub returns : goal.returns
returns c = c.coded-2.ensures ∙ (coded-any (lookup c.args.labels.now) _ _ _ _ ∙ then-some _ _ _ _ c.in_ok-y.ensures ∙ (second-comma (lookup c.args.labels.now) c.args.op _ _ _ c.in-Some.ensures ∙ (then-some _ (second (lookup c.args.labels.now) c.args.op) _ _ c.in_ok-x.ensures ∙ operands-some (lookup c.args.labels.now) c.args.op c.args.s.now _ (sym c.is_legal.ensures ∙ c.if-is_legal.false) c.in_ok-first.ensures)))
