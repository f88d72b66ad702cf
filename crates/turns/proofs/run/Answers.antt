use Rattle.std.proofs.Common.{refl, sym, ap, ◌∙◌, ℕ, Result, Err}
use Rattle.std.proofs.lemmas.Result.{err_from_is_err_and}
use Rattle.definition.specs.Calls.{called}
use Rattle.seats.specs.Meaning.{lent_of}
use Rattle.bench.specs.declared.Refused.{Refused}
use Rattle.bench.specs.Refused.{answered}
use Rattle.turns.proofs.Facts.{same-buffers, still-same, turned-back, at-start, at-end, more-same, more-falls, none-left, none-can}
use Rattle.turns.proofs.run.Goals as goal

pub returns-in_err-bench_check-clause-is : goal.returns-in_err-bench_check-clause-is
returns-in_err-bench_check-clause-is c =
    let a = c.args in
    let b = lent_of a.buffers.now in
    let e = err_from_is_err_and _ c.from_residual.ensures.1 in
    ap (λ (r : Result ℕ Refused). called (answered r) (a.list.now, b)) (e.1 ∙ ap (λ (x : Refused). Err x) e.2)
    ∙ turned-back a.seats a.total a.list.now b c.in_err-bench_check.field-0.0 c.in_err-bench_check.ensures

pub loop-left-init : goal.loop-left-init
loop-left-init c =
    let a = c.args in
    record { same = same-buffers a.buffers.now; accepted = at-start a.seats a.total a.list.now (lent_of a.buffers.now) c.in_ok-bench_check.ensures; finish = refl }

pub loop-left-smaller : goal.loop-left-smaller
loop-left-smaller c =
    let l = c.loop-left in
    more-falls l.list (lent_of l.buffers) l.invariant.accepted l.left c.loop-left-test.true (sym c.if-any_can_go_on.ensures) _ c.round-left.ensures.is

pub loop-left-preserved : goal.loop-left-preserved
loop-left-preserved c =
    let l = c.loop-left in
    record {
      accepted = c.round-left.ensures.accepted;
      same = still-same l.invariant.same c.round-left.ensures.same;
      finish = more-same l.list (lent_of l.buffers) l.invariant.accepted l.left c.loop-left-test.true (sym c.if-any_can_go_on.ensures) _ c.round-left.ensures.is ∙ l.invariant.finish;
    }

pub returns-else-any_can_go_on-clause-is : goal.returns-else-any_can_go_on-clause-is
returns-else-any_can_go_on-clause-is c =
    let a = c.args in
    let l = c.loop-left in
    let b = lent_of l.buffers in
    at-end a.seats a.total a.list.now (lent_of a.buffers.now) c.in_ok-bench_check.ensures l.left l.list b l.auto.list l.invariant.accepted l.invariant.finish
    (none-can l.list b l.invariant.accepted l.left (sym c.if-any_can_go_on.ensures))

pub returns-after-loop-left-clause-is : goal.returns-after-loop-left-clause-is
returns-after-loop-left-clause-is c =
    let a = c.args in
    let l = c.loop-left in
    let b = lent_of l.buffers in
    at-end a.seats a.total a.list.now (lent_of a.buffers.now) c.in_ok-bench_check.ensures l.left l.list b l.auto.list l.invariant.accepted l.invariant.finish
    (none-left l.list b l.invariant.accepted l.left c.loop-left-test.false)
