use Rattle.std.proofs.Common.{◌≡◌, arith, get_or}
use Rattle.definition.specs.Answers.{counted_of}
use Rattle.source.proofs.Laws.{loading-text}
use Rattle.source.proofs.load.Goals as goal

pub returns : goal.returns
returns c =
    let e : get_or c.split_line.result.1.now 0 0 ≡ 10 = omega arith in
    loading-text c.args.t.now _ _ c.read_start-r.result c.split_line.ensures.0 c.split_line.ensures.1 c.read_start-r.ensures e c.if-r.false c.args.cells.now (counted_of c.fill-a.result) c.fill-a.new.image c.fill-a.ensures c.lowest_numeric.result c.lowest_numeric.ensures c.judge_text.result c.judge_text.ensures
