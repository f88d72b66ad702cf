use Rattle.std.proofs.Common.{ap, refl, ◌∙◌, arith}
use Rattle.expression.specs.Values.{no_labels}
use Rattle.expression.proofs.Spans.{rest-is}
use Rattle.line.specs.Code.{label_told, body_told}
use Rattle.line.proofs.Laws.{then-none, then-some, begins, begins_other, begins-not, ending, ending-is, ending-not, ended-step}
use Rattle.expression.specs.Reader.{gives}
use Rattle.assembly.specs.Grammar as G
use Rattle.line.proofs.content.ended.Goals.{in_default-via-then-rest-lt1, in_default-via-else-rest-lt1+in_default-1}
use Rattle.line.proofs.content.ended.Goals as goal

pub returns-in_err-body : goal.returns-in_err-body
returns-in_err-body c = rw (c.from_residual.ensures, c.in_err-body.was) (then-none _ (ending (label_told c.args.label)) refl ∙ ended-step no_labels (label_told c.args.label) _)

pub returns-in-10 : goal.returns-in-10
returns-in-10 c =
    let u = c.in_ok-body.rest.now in
    rw c.in_ok-body.was (ap (gives (G.line (label_told c.args.label) (body_told c.in_ok-body.body))) (rest-is u) ∙ (ending-is (label_told c.args.label) (body_told c.in_ok-body.body) u (begins 10 u (search arith)) ∙ (then-some _ (ending (label_told c.args.label)) _ _ refl ∙ ended-step no_labels (label_told c.args.label) _)))

pub returns-in_default : goal.returns-in_default
returns-in_default c =
    let u = c.in_ok-body.rest.now in
    rw c.in_ok-body.was (ending-not (label_told c.args.label) (body_told c.in_ok-body.body) u
    (elim c.in_default.branch [ in_default-via-then-rest-lt1 w ↦ begins-not 10 u (omega arith) (search arith) | in_default-via-else-rest-lt1+in_default-1 w ↦ begins_other 10 u (search arith) ])
    ∙ (then-some _ (ending (label_told c.args.label)) _ _ refl ∙ ended-step no_labels (label_told c.args.label) _))
