use Rattle.std.proofs.Common.{sym, ◌∙◌}
use Rattle.line.proofs.Laws.{coded-some, coded-none}
use Rattle.line.proofs.content.coded.Goals as goal

pub returns-then-is_legal : goal.returns-then-is_legal
returns-then-is_legal c = coded-some _ _ _ _ (rw (c.mode.ensures.0, c.mode-2.ensures.0) at (sym c.is_legal.ensures ∙ c.if-is_legal.true))

pub returns-else-is_legal : goal.returns-else-is_legal
returns-else-is_legal c = coded-none _ _ _ _ (rw (c.mode.ensures.0, c.mode-2.ensures.0) at (sym c.is_legal.ensures ∙ c.if-is_legal.false))
