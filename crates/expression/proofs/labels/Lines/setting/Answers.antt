use Rattle.std.proofs.Common.{sym, ◌∙◌, arith}
use Rattle.std.proofs.lemmas.Grind.{common_steps}
use Rattle.expression.proofs.Names.{next-less, setting-end, setting-first, setting-rest}
use Rattle.expression.proofs.labels.Lines.setting.Goals as goal

pub returns-then-sets : goal.returns-then-sets
returns-then-sets c = setting-first c.loop-lines.lines.text.now c.loop-lines.lines.number c.args.name.now (grind (arith, common_steps)) (sym c.sets.ensures ∙ c.if-sets.true) ∙ c.loop-lines.invariant

pub loop-lines-smaller : goal.loop-lines-smaller
loop-lines-smaller c = rw c.rest-lines.ensures.0 (next-less c.loop-lines.lines.text.now (grind (arith, common_steps)))

pub loop-lines-preserved : goal.loop-lines-preserved
loop-lines-preserved c = rw (c.rest-lines.ensures.0, c.rest-lines.ensures.1) (setting-rest c.loop-lines.lines.text.now c.loop-lines.lines.number c.args.name.now (grind (arith, common_steps)) (sym c.sets.ensures ∙ c.if-sets.false)) ∙ c.loop-lines.invariant

pub returns : goal.returns
returns c = setting-end c.loop-lines.lines.text.now c.loop-lines.lines.number c.args.name.now (grind (arith, common_steps)) ∙ c.loop-lines.invariant
