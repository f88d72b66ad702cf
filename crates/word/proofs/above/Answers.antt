use Rattle.std.proofs.Common.{◌<◌, sym, zero-mul, arith, le-ltb}
use Rattle.word.proofs.Laws.{above-by}
use Rattle.word.proofs.above.Goals as goal

pub returns-then-m-eq0 : goal.returns-then-m-eq0
returns-then-m-eq0 c = rw (c.if-m-eq0.true, zero-mul) (sym (le-ltb c.args.limit 0 (omega arith)))

pub returns : goal.returns
returns c =
    let z : 0 < c.args.m = omega (arith, c.if-m-eq0.false) in
    above-by c.args.m c.args.n c.args.limit z
