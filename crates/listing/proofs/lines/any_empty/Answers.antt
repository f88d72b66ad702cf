use Rattle.std.proofs.Common.{◌∙◌, ◌/◌, ℕ, length, pos, arith, rules, tests}
use Rattle.std.proofs.lemmas.Iterator.{YieldsList-from_range}
use Rattle.std.proofs.lemmas.Iterator.Search.{any_from_yields_List}
use Rattle.definition.specs.Word.{eq_z}
use Rattle.definition.specs.Memory.{cell_at}
use Rattle.listing.proofs.Cells.{any-range}
use Rattle.listing.proofs.lines.any_empty.Goals as goal

pub returns : goal.returns
returns c =
    let l = c.args.image.now in
    any_from_yields_List (λ (n : ℕ). eq_z (cell_at l n).tag (pos 0)) _ _ _ c.any.ensures.ran (YieldsList-from_range 0 (length l / 3) (length l / 3) (cc) (omega arith)) (λ x b q k. search (rules, tests))
    ∙ any-range l (length l / 3) 0 (omega arith)
