use Rattle.std.proofs.Common.{◌∙◌, ap, ◌*◌, ℕ, take, arith}
use Rattle.lister.proofs.Laws.{all_named}
use Rattle.lister.proofs.named_cells.Goals as goal

pub returns : goal.returns
returns c = let l = c.args.cells.now in
    ap (λ (k : ℕ). take (3 * k) l) c.min.ensures ∙ all_named c.args.named l (omega arith)
