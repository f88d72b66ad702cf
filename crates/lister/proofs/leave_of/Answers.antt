use Rattle.std.proofs.Common.{◌∙◌, sym}
use Rattle.std.proofs.lemmas.Bool.Decides.{Decides-eqb}
use Rattle.std.proofs.lemmas.Slice.Eq.{slice_eq-Decides}
use Rattle.lister.proofs.Laws.{by_equal}
use Rattle.lister.proofs.leave_of.Goals as goal

pub returns : goal.returns
returns c =
    let d = slice_eq-Decides Decides-eqb c.args.word.now c.as_slice.result.now c.eq.result c.eq.ensures in
    by_equal c.args.word.now c.eq.result (λ t. d.0 t ∙ c.as_slice.ensures) (λ e. d.1 (e ∙ sym c.as_slice.ensures))
