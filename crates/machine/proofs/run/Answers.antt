use Rattle.std.proofs.Common.{arith}
use Rattle.definition.specs.Calls.{lent}
use Rattle.definition.proofs.Row.{run-passed}
use Rattle.machine.proofs.Laws.{run-accepted, left-accepted, run-answer}
use Rattle.machine.proofs.run.Goals as goal

pub from_row-m-requires : goal.from_row-m-requires
from_row-m-requires c =
    let a = c.args in
    let p = run-passed (lent a.cells.now a.queue.now a.output.now a.row.now) c.requires in
    let r = p.row_fits in
    (r.long, (r.pc, (r.sp, (r.fence.0, omega (arith, r.fence.1, p.cells_fit.most)))))

pub run-ended-requires : goal.run-ended-requires
run-ended-requires c =
    let a = c.args in rw c.from_row-m.ensures (run-accepted a.cells.now a.queue.now a.output.now a.row.now c.requires)

pub write_row-requires : goal.write_row-requires
write_row-requires c =
    let a = c.args in
    let x = left-accepted a.cells.now a.queue.now a.output.now a.row.now c.requires a.budget _ _ c.run-ended.result c.run-ended.new.m (rw c.from_row-m.ensures at c.run-ended.ensures) in
    let k = x.console_in in
    let p = (run-passed (lent a.cells.now a.queue.now a.output.now a.row.now) c.requires).row_fits in
    (p.long, (x.cycles_in, (omega (arith, k.start_in, k.few), (omega (arith, k.count_in, k.few), (omega (arith, k.written_in, k.small), x.timer_in)))))

pub returns : goal.returns
returns c =
    let a = c.args in
    rw c.into.ensures (run-answer a.cells.now a.queue.now a.output.now a.row.now c.requires a.budget _ _ c.run-ended.result c.run-ended.new.m (rw c.from_row-m.ensures at c.run-ended.ensures) _ c.write_row.ensures)
