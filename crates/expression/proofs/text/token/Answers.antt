use Rattle.std.proofs.Common.{ap, ◌∙◌, arith, Some}
use Rattle.expression.specs.Reader.{skip}
use Rattle.expression.proofs.Spans.{rest-is}
use Rattle.expression.proofs.Laws.{after-first, after-empty, after_other}
use Rattle.expression.proofs.text.token.Goals.{in_default-via-then-s-lt1, in_default-via-in-len1-up+else-first-byte}
use Rattle.expression.proofs.text.token.Goals as goal

pub returns-in-len1-up : goal.returns-in-len1-up
returns-in-len1-up c = ap Some (c.skip_spaces.ensures ∙ ap skip (rest-is c.args.s.now)) ∙ after-first c.args.byte c.args.s.now c.in-len1-up.len_at_least c.if-first-byte.true

pub returns-in_default : goal.returns-in_default
returns-in_default c =
    elim c.in_default.branch [
      | in_default-via-then-s-lt1 w ↦ after-empty c.args.byte c.args.s.now (search arith)
      | in_default-via-in-len1-up+else-first-byte w ↦ after_other c.args.byte c.args.s.now w.if-first-byte.false
    ]
