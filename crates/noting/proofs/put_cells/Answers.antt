use Rattle.std.proofs.Common.{◌∙◌, ◌<◌, ◌^◌, length, arith, w64}
use Rattle.std.proofs.lemmas.Int.{to_z_pos}
use Rattle.journal.specs.Journal.{numbers}
use Rattle.noting.proofs.Record.{next_put}
use Rattle.noting.proofs.put_cells.Goals as goal

pub loop-i-init : goal.loop-i-init
unfolding numbers
loop-i-init c =
    let h : length c.args.cells.now < 2 ^ 63 = omega arith in
    rw (c.put.ensures, c.clear.ensures, c.requires.0, to_z_pos w64 _ h)

pub loop-i-preserved : goal.loop-i-preserved
unfolding numbers
loop-i-preserved c = rw c.loop-i.invariant at c.put_was.ensures ∙ next_put _ _ _ _ c.loop-i-test.true c.requires.1
