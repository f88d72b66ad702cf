use Rattle.std.proofs.Common.{◌∙◌}
use Rattle.expression.specs.Labels.{lookup}
use Rattle.line.proofs.Laws.{then-none, then-some, word-bare, word-some}
use Rattle.line.proofs.content.word_after.Goals as goal

pub returns-in_err-first : goal.returns-in_err-first
returns-in_err-first c = rw c.from_residual.ensures (word-bare (lookup c.args.labels.now) c.args.s.now c.in_err-first.ensures)

pub returns-in_err-value : goal.returns-in_err-value
returns-in_err-value c = rw c.from_residual-in_err-value.ensures (then-none _ _ c.in_err-value.ensures ∙ word-some (lookup c.args.labels.now) c.args.s.now _ c.in_ok-first.ensures)

pub returns : goal.returns
returns c = then-some _ _ _ _ c.in_ok-value.ensures ∙ word-some (lookup c.args.labels.now) c.args.s.now _ c.in_ok-first.ensures
