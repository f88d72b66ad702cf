use Rattle.std.proofs.Common.{◌≡◌, ◌∙◌, sym, ap, arith}
use Rattle.expression.specs.Reader.{past}
use Rattle.expression.proofs.Spans.{first-is, rest-is, past-more, past-none, past_nothing, cut}
use Rattle.expression.proofs.text.span.Goals.{then-rest-lt1, in-len1-up+else-test}
use Rattle.expression.proofs.text.span.Goals as goal

pub loop-rest-preserved : goal.loop-rest-preserved
loop-rest-preserved g c = record {
  shorter = search arith;
  same = λ p h. rw (rest-is c.loop-rest.rest.now) (past-more p c.loop-rest.rest.now (ap p (sym (first-is c.loop-rest.rest.now)) ∙ (sym (h _ _ c.test.ensures) ∙ c.if-test.true)) ∙ c.loop-rest.invariant.same p h);
}

pub returns : goal.returns
returns g c = λ p h.
    let stops : past p c.loop-rest.rest.now ≡ c.loop-rest.rest.now =
    elim c.if-rest-lt1.branch [
      | then-rest-lt1 w ↦ past_nothing p c.loop-rest.rest.now (search arith)
      | in-len1-up+else-test w ↦ past-none p c.loop-rest.rest.now (ap p (sym (first-is c.loop-rest.rest.now)) ∙ (sym (h _ _ w.test.ensures) ∙ w.if-test.false))
    ] in
    let k = cut p c.args.s.now c.loop-rest.rest.now (c.loop-rest.invariant.same p h) stops in
    (c.split_at.ensures.front ∙ k.0, c.split_at.ensures.back ∙ k.1)
