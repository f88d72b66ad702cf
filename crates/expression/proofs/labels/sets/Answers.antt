use Rattle.std.proofs.Common.{◌∙◌, sym, ap}
use Rattle.expression.specs.Code.{name_told}
use Rattle.expression.proofs.Names.{same_eq, sets-label, sets-nothing}
use Rattle.expression.proofs.labels.sets.Goals as goal

pub returns-in-Some : goal.returns-in-Some
returns-in-Some c = c.eq.ensures ∙ (same_eq _ _ ∙ sym (sets-label c.args.line.now c.in-Some.set.now c.in-Some.field-0-1.now c.args.name.now (sym (ap name_told c.in-Some.is) ∙ c.split_label.ensures)))

pub returns-in-None : goal.returns-in-None
returns-in-None c = sym (sets-nothing c.args.line.now c.args.name.now (sym (ap name_told c.in-None.is) ∙ c.split_label.ensures))
