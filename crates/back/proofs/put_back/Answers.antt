use Rattle.std.proofs.Common.{ℕ, ◌≤◌, ap, sym, subst, ◌∙◌}
use Rattle.definition.specs.Memory.{cell_count}
use Rattle.journal.specs.Calls.{held_fit}
use Rattle.back.proofs.Laws.{few-in, cells_in}
use Rattle.back.proofs.put_back.Goals as goal

pub put_cells-requires : goal.put_cells-requires
put_cells-requires c =
    let r = c.args.kept.now in
    let n = cell_count c.args.cells.now in
    let e = c.number_at-k.ensures in
    (subst (λ (k : ℕ). k ≤ 4) (sym e) (few-in n r c.requires.1), ap (held_fit n r) e ∙ cells_in n r c.requires.1)
