use Rattle.std.proofs.Common.{ap, ◌∙◌, arith}
use Rattle.std.proofs.lemmas.Grind.{common_steps}
use Rattle.expression.specs.Reader.{gives}
use Rattle.expression.proofs.Spans.{rest-is, empty-first}
use Rattle.expression.proofs.Names.{label-first, label-unnamed, label-no_colon}
use Rattle.expression.proofs.text.split_label.Goals.{in_default-via-then-rest-lt1, in_default-via-in-58+else-not-is_empty, in_default-via-else-rest-lt1+in_default-1}
use Rattle.expression.proofs.text.split_label.Goals as goal

pub returns-in-58 : goal.returns-in-58
returns-in-58 c =
    ap (gives c.split_name.result.0.now) (rest-is c.split_name.result.1.now)
    ∙ label-first c.args.s.now _ _ _ c.skip_spaces.ensures c.split_name.ensures.0 c.split_name.ensures.1 (grind (arith, common_steps)) (search arith)

pub returns-in_default : goal.returns-in_default
returns-in_default c =
    elim c.in_default.branch [
      | in_default-via-then-rest-lt1 w ↦
          label-no_colon c.args.s.now _ _ _ c.skip_spaces.ensures c.split_name.ensures.0 c.split_name.ensures.1 (λ e. let z = empty-first c.split_name.result.1.now (search arith) in absurd (omega (arith, e, z)))
      | in_default-via-in-58+else-not-is_empty w ↦
          label-unnamed c.args.s.now _ _ _ c.skip_spaces.ensures c.split_name.ensures.0 c.split_name.ensures.1 (grind (arith, common_steps))
      | in_default-via-else-rest-lt1+in_default-1 w ↦
          label-no_colon c.args.s.now _ _ _ c.skip_spaces.ensures c.split_name.ensures.0 c.split_name.ensures.1 (search arith)
    ]
