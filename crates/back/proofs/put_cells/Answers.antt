use Rattle.std.proofs.Common.{arith, ap, ◌∙◌}
use Rattle.journal.specs.Journal.{put_back}
use Rattle.back.proofs.Laws.{held-within, put-more, put-none}
use Rattle.back.proofs.put_cells.Goals as goal

pub put_held-requires : goal.put_held-requires
put_held-requires c =
    let v = c.loop-i.invariant in
    (omega (arith, c.requires.0), held-within c.loop-i.cells c.args.cells.now c.args.kept.now c.args.k _ v.0 c.requires.1 (omega arith))

pub loop-i-preserved : goal.loop-i-preserved
loop-i-preserved c =
    let v = c.loop-i.invariant in
    (c.put_held.auto.cells ∙ v.0, ap (put_back _ c.args.kept.now) c.put_held.ensures ∙ put-more c.args.kept.now _ c.loop-i.i (omega arith) ∙ v.1)

pub returns : goal.returns
returns c = put-none _ _ _ (omega arith) ∙ c.loop-i.invariant.1
