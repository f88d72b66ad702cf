use Rattle.std.proofs.Common.{ℕ, List, ◌++◌, ap, ◌∙◌, arith, rules}
use Rattle.printing.proofs.Laws.{decimal-is}
use Rattle.printing.proofs.text.Text.put_decimal.Goals as goal

pub put-requires : goal.put-requires
put-requires g c = let d = c.decimal-count in let e = d.ensures.digits ∙ decimal-is d.result c.args.n d.ensures.len (omega arith) in
    rw e (search rules)

pub returns : goal.returns
returns g c = let d = c.decimal-count in let e = d.ensures.digits ∙ decimal-is d.result c.args.n d.ensures.len (omega arith) in
    c.put.ensures ∙ ap (λ (t : List ℕ). c.args.self.now ++ t) e
