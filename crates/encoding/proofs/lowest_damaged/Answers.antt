use Rattle.std.proofs.Common.{◌≡◌, true, false, rules, tests}
use Rattle.std.proofs.lemmas.Iterator.{first_from_Range}
use Rattle.definition.specs.Memory.{cell_at}
use Rattle.definition.specs.Encoding.{sound}
use Rattle.encoding.proofs.Sound.{damaged-found}
use Rattle.encoding.proofs.lowest_damaged.Goals as goal

pub returns : goal.returns
returns c =
    let l = c.args.cells.now in
    damaged-found l _ (first_from_Range _ _ _ _ (λ i. sound (cell_at l i) ≡ false) (λ i. sound (cell_at l i) ≡ true) c.find.ensures.ran
    (λ x q k. search (rules, tests))
    (λ x q k. (search rules, search (rules, tests))))
