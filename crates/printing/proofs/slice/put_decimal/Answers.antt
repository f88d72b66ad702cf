use Rattle.std.proofs.Common.{ℕ, List, ◌+◌, ◌++◌, length, take, ap, ◌∙◌, arith}
use Rattle.printing.proofs.Laws.{decimal-is}
use Rattle.printing.proofs.slice.put_decimal.Goals as goal

pub put-requires : goal.put-requires
put-requires c = let d = c.decimal-count in let e = d.ensures.digits ∙ decimal-is d.result c.args.n d.ensures.len (omega arith) in
    rw e c.requires

pub returns : goal.returns
returns c = let d = c.decimal-count in let a = c.args in let e = d.ensures.digits ∙ decimal-is d.result a.n d.ensures.len (omega arith) in
    record {
      out_after = c.put.ensures.out_after ∙ ap (λ (t : List ℕ). take a.at a.out.now ++ t) e;
      value = c.put.ensures.value ∙ ap (λ (t : List ℕ). a.at + length t) e;
      out_unchanged = c.put.ensures.out_unchanged;
    }
