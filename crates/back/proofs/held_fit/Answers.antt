use Rattle.std.proofs.Common.{◌∙◌, refl, arith, rules, tests}
use Rattle.std.proofs.lemmas.Iterator.{YieldsList-from_range}
use Rattle.std.proofs.lemmas.Iterator.Search.{all_from_yields_List}
use Rattle.back.proofs.Laws.{fits_at, fit-list}
use Rattle.back.proofs.held_fit.Goals as goal

pub returns : goal.returns
returns c =
    let r = c.args.kept.now in
    all_from_yields_List (fits_at c.args.n r) _ _ c.all.result c.all.ensures.ran (YieldsList-from_range 0 c.args.k c.args.k refl (omega arith)) (λ x b q k. search (rules, tests))
    ∙ fit-list c.args.n r c.args.k
