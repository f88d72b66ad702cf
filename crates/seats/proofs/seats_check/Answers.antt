use Rattle.std.proofs.Common.{rules, ap, sym, ◌≡◌, ◌∙◌, ◌+◌}
use Rattle.bench.specs.declared.Refused.TheVariants.{Machine}
use Rattle.std.proofs.lemmas.Result.{err_from_is_err_and}
use Rattle.definition.specs.Answers.{done_of}
use Rattle.definition.specs.Calls.{lent}
use Rattle.seats.proofs.Checks.{from_first, seat-passed, seat-refused, all-passed, refused-was, passed-was}
use Rattle.seats.proofs.seats_check.Goals as goal

pub loop-k-init : goal.loop-k-init
loop-k-init c =
    let a = c.args in from_first a.n (lent a.cells.now a.queues.now a.outputs.now a.rows.now)

pub returns : goal.returns
returns c =
    let a = c.args in
    all-passed a.n (lent a.cells.now a.queues.now a.outputs.now a.rows.now) c.loop-k.k-counter c.loop-k-test.false ∙ c.loop-k.invariant

pub returns-in_err-map_err : goal.returns-in_err-map_err
returns-in_err-map_err c =
    let p = err_from_is_err_and c.from_residual.result c.from_residual.ensures.1 in
    let w = refused-was _ c.seat_check.result c.map_err.result c.map_err.ensures.cases _ c.in_err-map_err.was in
    let h : c.in_err-map_err.field-0.0 ≡ Machine (c.loop-k.k-counter + 1) w.0 = search (rules, w.1.1) in
    let a = c.args in
    rw (p.1, p.2, h) (seat-refused a.n (lent a.cells.now a.queues.now a.outputs.now a.rows.now) c.loop-k.k-counter c.loop-k-test.true w.0 (ap done_of (sym w.1.0) ∙ c.seat_check.ensures) ∙ c.loop-k.invariant)

pub loop-k-preserved : goal.loop-k-preserved
loop-k-preserved c =
    let a = c.args in
    seat-passed a.n (lent a.cells.now a.queues.now a.outputs.now a.rows.now) c.loop-k.k-counter c.loop-k-test.true (ap done_of (sym (passed-was _ c.seat_check.result c.map_err.result c.map_err.ensures.cases _ c.in_ok-map_err.was)) ∙ c.seat_check.ensures) ∙ c.loop-k.invariant
