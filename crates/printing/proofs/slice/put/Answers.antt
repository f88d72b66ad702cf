use Rattle.std.proofs.Common.{ap, arith, length}
use Rattle.std.proofs.lemmas.Slice.{drop-put_mid}
use Rattle.printing.proofs.slice.put.Goals as goal

pub returns-clause-out_unchanged : goal.returns-clause-out_unchanged
returns-clause-out_unchanged c =
    let e = ap length c.copy.ensures in
    drop-put_mid c.args.at _ c.args.out.now c.copy.new.to _ (omega arith) (omega arith) (omega arith)
