use Rattle.std.proofs.Common.{◌∙◌, ◌<◌, sym, ap, arith, Bool, cond, length}
use Rattle.std.proofs.lemmas.Grind.{common_steps}
use Rattle.runner_cases.proofs.Laws.{rest_shorter, counted_none, counted_more, counted_all, counted_part, one_or_none, adds_is}
use Rattle.runner_cases.proofs.replay.Goals as goal

pub loop-rest-init : goal.loop-rest-init
loop-rest-init c = (omega arith, counted_none c.args.s.now)

pub loop-rest-preserved : goal.loop-rest-preserved
loop-rest-preserved c =
    let v = c.loop-rest in
    let o = one_or_none c.passes-one.result in
    let f = c.from-passed.ensures in
    let more : 0 < length v.rest.now = grind (arith, common_steps) in
    (omega arith, counted_more c.args.s.now v.rest.now v.seen v.passed c.from-passed.result v.invariant.1 more (sym c.in_ok-case.ensures) (f ∙ adds_is c.passes-one.result ∙ ap (λ (b : Bool). cond b 1 0) c.passes-one.ensures))

pub loop-rest-smaller : goal.loop-rest-smaller
loop-rest-smaller c =
    let r = rest_shorter c.loop-rest.rest.now (sym c.in_ok-case.ensures) in
    omega arith

pub returns-in_err-case : goal.returns-in_err-case
returns-in_err-case c =
    let v = c.loop-rest in
    let more : 0 < length v.rest.now = grind (arith, common_steps) in
    c.from_residual.ensures ∙ counted_part c.args.s.now v.rest.now v.seen v.passed v.invariant.1 more (sym c.in_err-case.ensures)

pub returns : goal.returns
returns c =
    let v = c.loop-rest in
    counted_all c.args.s.now v.rest.now v.seen v.passed v.invariant.1 (grind (arith, common_steps))
