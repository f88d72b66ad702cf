use Rattle.std.proofs.Common.{◌∙◌, arith}
use Rattle.expression.specs.Labels.{lookup}
use Rattle.line.specs.Code.{line_told}
use Rattle.assembler.proofs.Rows.{less-one, lines-end, lines-none, lines-next, whole-next}
use Rattle.assembler.proofs.Whole.{put_next, put-end}
use Rattle.assembler.proofs.write.write.Goals as goal

pub returns-in_default : goal.returns-in_default
returns-in_default c = put-end c.loop-k.k _ c.loop-k.image (lines-none (lookup c.args.labels.now) _ _ c.loop-k.rest.now (less-one c.args.count c.loop-k.k c.loop-k-test.true) c.loop-k.invariant.whole c.in_default.ensures) ∙ c.loop-k.invariant.same

pub loop-k-preserved : goal.loop-k-preserved
loop-k-preserved c =
    let e = less-one c.args.count c.loop-k.k c.loop-k-test.true in
    record {
      whole = whole-next (lookup c.args.labels.now) _ _ c.loop-k.rest.now c.in-Some.after.now (line_told c.in-Some.line) e c.loop-k.invariant.whole c.in-Some.ensures;
      same = put_next c.loop-k.k _ _ (line_told c.in-Some.line) c.body_cell.result c.loop-k.image c.put_cell.new.cells (lines-next (lookup c.args.labels.now) _ _ c.loop-k.rest.now c.in-Some.after.now (line_told c.in-Some.line) e c.loop-k.invariant.whole c.in-Some.ensures) c.body_cell.ensures c.put_cell.ensures ∙ c.loop-k.invariant.same;
    }

pub returns : goal.returns
returns c = put-end c.loop-k.k _ c.loop-k.image (lines-end (lookup c.args.labels.now) _ c.loop-k.rest.now (let h = c.loop-k-test.false in omega arith) c.loop-k.invariant.whole) ∙ c.loop-k.invariant.same
