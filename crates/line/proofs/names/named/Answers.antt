use Rattle.std.proofs.Common.{rules, ◌∙◌}
use Rattle.std.proofs.lemmas.Iterator.{YieldsList-from_slice}
use Rattle.std.proofs.lemmas.Iterator.Search.{position_from_yields_List}
use Rattle.expression.specs.Reader.{same}
use Rattle.expression.proofs.Names.{same_eq}
use Rattle.line.proofs.Places.{place-some, place-none}
use Rattle.line.proofs.names.named.Goals as goal

pub returns-in_err-place : goal.returns-in_err-place
returns-in_err-place c =
    rw c.from_residual.ensures (place-none c.args.names.now c.args.from c.args.s.now _ c.split_name.ensures.0 c.requires.1 c.requires.2
    (position_from_yields_List (λ n. same n.now c.split_name.result.0.now) _ _ _ c.in_err-place.ensures.ran (YieldsList-from_slice _ c.iter.ensures.rest) (λ x b q h. (search rules, search rules ∙ same_eq _ _))))

pub returns : goal.returns
returns c =
    rw c.split_name.ensures.1 (place-some c.args.names.now c.args.from c.args.s.now _ c.split_name.ensures.0 c.requires.1 c.requires.2 _
    (position_from_yields_List (λ n. same n.now c.split_name.result.0.now) _ _ _ c.in_ok-place.ensures.ran (YieldsList-from_slice _ c.iter.ensures.rest) (λ x b q h. (search rules, search rules ∙ same_eq _ _))))
