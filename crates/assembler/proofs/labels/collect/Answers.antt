use Rattle.std.proofs.Common.{arith}
use Rattle.std.proofs.lemmas.Grind.{common_steps}
use Rattle.expression.proofs.Names.{next-less}
use Rattle.assembler.proofs.Collect.{collected-none, line-plain, line-labelled, line-held, all-found}
use Rattle.assembler.proofs.labels.collect.Goals.{in-Some+then-not-is_full, in-Some+else-not-is_full+else-is_none, in_default}
use Rattle.assembler.proofs.labels.collect.Goals as goal

pub loop-name-init : goal.loop-name-init
loop-name-init c = collected-none c.args.text.now _ _ _ c.requires c.new-lines.ensures.0 c.new-lines.ensures.1

pub loop-name-smaller : goal.loop-name-smaller
loop-name-smaller c = rw c.rest-lines.ensures.0 (next-less c.loop-name.lines.text.now (grind (arith, common_steps)))

pub loop-name-preserved : goal.loop-name-preserved
loop-name-preserved c =
    rw (c.rest-lines.ensures.0, c.rest-lines.ensures.1)
    (elim c.match-split_label.branch [
      | in-Some+then-not-is_full w ↦ rw w.labels-is (line-labelled c.args.text.now c.loop-name.labels c.loop-name.lines.text.now c.loop-name.lines.number (grind (arith, common_steps)) c.loop-name.invariant _ _ w.in-Some.ensures _ w.insert.ensures)
      | in-Some+else-not-is_full+else-is_none w ↦ rw w.labels-is (line-held c.args.text.now c.loop-name.labels c.loop-name.lines.text.now c.loop-name.lines.number (grind (arith, common_steps)) c.loop-name.invariant _ _ w.in-Some.ensures w.find_kept.result w.find_kept.ensures w.if-is_none.ensures)
      | in_default w ↦ rw w.labels-is (line-plain c.args.text.now c.loop-name.labels c.loop-name.lines.text.now c.loop-name.lines.number (grind (arith, common_steps)) c.loop-name.invariant w.in_default.ensures)
    ])

pub returns : goal.returns
returns c = all-found c.args.text.now _ _ c.loop-name.lines c.loop-name.invariant c.leave.ensures
