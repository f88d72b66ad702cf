use Rattle.std.proofs.Common.{refl}
use Rattle.definition.specs.Encoding.{legal, allows, signature, op_at}
use Rattle.exercise.specs.Exercise.{form_of, forms, forms_from}
use Rattle.exercise.proofs.form_of.Goals as goal

pub returns : goal.returns
unfolding form_of forms forms_from legal allows signature op_at
returns c = refl
