use Rattle.std.proofs.Common.{rules, ◌∙◌, ◌<◌, arith}
use Rattle.std.proofs.lemmas.Grind.{common_steps}
use Rattle.expression.specs.Labels.{lookup}
use Rattle.line.specs.Code.{line_told}
use Rattle.assembler.proofs.Rows.{row-shorter, less-one, count-end, count-full, broken-there, count-next}
use Rattle.assembler.proofs.lines.count_lines.Goals as goal

pub loop-rest-smaller : goal.loop-rest-smaller
loop-rest-smaller c = row-shorter (lookup c.args.labels.now) c.loop-rest.rest.now (line_told c.in-Some.field-0-0) c.in-Some.after.now c.in-Some.ensures

pub loop-rest-preserved : goal.loop-rest-preserved
loop-rest-preserved c =
    let r = row-shorter (lookup c.args.labels.now) c.loop-rest.rest.now (line_told c.in-Some.field-0-0) c.in-Some.after.now c.in-Some.ensures in
    let s = c.loop-rest.invariant.some in
    let h : c.loop-rest.count < c.args.room = omega arith in
    record {
      room = omega arith;
      some = omega arith;
      same = count-next (lookup c.args.labels.now) c.loop-rest.count c.loop-rest.rest.now _ _ _ _ (less-one c.args.room c.loop-rest.count h) c.in-Some.ensures ∙ c.loop-rest.invariant.same;
    }

pub returns-then-count-room : goal.returns-then-count-room
returns-then-count-room c =
    count-full (lookup c.args.labels.now) c.loop-rest.count _ c.loop-rest.rest.now (omega arith) (grind (arith, common_steps)) ∙ c.loop-rest.invariant.same

pub returns-in_default : goal.returns-in_default
returns-in_default c =
    broken-there (lookup c.args.labels.now) c.loop-rest.count c.args.room c.loop-rest.rest.now c.loop-rest.invariant.room (grind (arith, common_steps)) (search rules) ∙ c.loop-rest.invariant.same

pub returns : goal.returns
returns c = count-end (lookup c.args.labels.now) c.loop-rest.count _ c.loop-rest.rest.now (grind (arith, common_steps)) ∙ c.loop-rest.invariant.same
