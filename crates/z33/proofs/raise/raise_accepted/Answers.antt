use Rattle.std.proofs.Common.{[], arith, ap, sym, subst, ◌∙◌}
use Rattle.std.proofs.lemmas.Result.{err_from_is_err_and}
use Rattle.definition.specs.Io.{Console}
use Rattle.definition.specs.Accepted.{TimerIn}
use Rattle.definition.specs.Calls.{machine_of}
use Rattle.refusals.proofs.Passed.{raise-passed}
use Rattle.row.specs.Meaning.{machine_at}
use Rattle.z33.proofs.Laws.{raised_from, raise-done, raise-stopped, raise-fits}
use Rattle.z33.proofs.raise.raise_accepted.Goals as goal

pub from_row-m-requires : goal.from_row-m-requires
from_row-m-requires c =
    let p = raise-passed c.args.cells.now c.args.row.now c.args.code c.requires in
    let r = p.row_fits in
    (r.long, (r.pc, (r.sp, (r.fence.0, omega (arith, r.fence.1, p.cells_fit.most)))))

pub overflow_cast-code : goal.overflow_cast-code
overflow_cast-code c = omega (arith, (raise-passed c.args.cells.now c.args.row.now c.args.code c.requires).code-most)

pub raise-requires-clause-least : goal.raise-requires-clause-least
raise-requires-clause-least c = (raise-passed c.args.cells.now c.args.row.now c.args.code c.requires).cells_fit.least

pub raise-requires-clause-cycles : goal.raise-requires-clause-cycles
raise-requires-clause-cycles c =
    let p = raise-passed c.args.cells.now c.args.row.now c.args.code c.requires in
    rw c.from_row-m.ensures (omega (arith, p.row_fits.cycles.1))

pub write_row-requires : goal.write_row-requires
unfolding machine_of
write_row-requires c =
    let a = c.args in
    let r = (raise-passed a.cells.now a.row.now a.code c.requires).row_fits in
    let h = c.in_ok-raise.ensures [] [] ∙ ap (raised_from a.cells.now a.code) c.from_row-m.ensures in
    let f = raise-fits a.cells.now a.row.now a.code c.requires (machine_at c.raise.new.cells [] [] c.raise.new.m) h in
    let s = ap (λ (x : Console). x.start) f.1.0 in
    let n = ap (λ (x : Console). x.count) f.1.0 in
    let w = ap (λ (x : Console). x.written) f.1.0 in
    let time = subst TimerIn (sym f.1.1) (record { interval_in = r.interval.1; remaining_in = omega (arith, r.remaining.1) }) in
    (r.long, (f.0, (omega (arith, r.start.1), (omega (arith, r.count.1), (omega (arith, r.written.1), time)))))

pub returns : goal.returns
returns c =
    let a = c.args in
    raise-done a.cells.now a.row.now a.code c.requires c.raise.new.cells c.raise.new.m _ (c.in_ok-raise.ensures [] [] ∙ ap (raised_from a.cells.now a.code) c.from_row-m.ensures) c.write_row.ensures

pub returns-in_err-raise : goal.returns-in_err-raise
returns-in_err-raise c =
    let a = c.args in
    let p = err_from_is_err_and c.from_residual.result c.from_residual.ensures.1 in
    rw (p.1, p.2) (raise-stopped a.cells.now a.row.now a.code c.requires c.raise.new.cells c.raise.new.m c.in_err-raise.field-0.0 (c.in_err-raise.ensures [] [] ∙ ap (raised_from a.cells.now a.code) c.from_row-m.ensures))
