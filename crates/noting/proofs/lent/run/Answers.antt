use Rattle.std.proofs.Common.{arith}
use Rattle.definition.specs.Calls.{lent}
use Rattle.definition.proofs.Row.{run-passed}
use Rattle.machine.proofs.Laws.{run-accepted, left-accepted}
use Rattle.noting.proofs.Runs.{lent-answer}
use Rattle.noting.proofs.lent.run.Goals as goal

pub from_row-m-requires : goal.from_row-m-requires
from_row-m-requires c =
    let a = c.args in
    let p = run-passed (lent a.cells.now a.queue.now a.output.now a.row.now) c.requires.accepted in
    let r = p.row_fits in
    (r.long, (r.pc, (r.sp, (r.fence.0, omega (arith, r.fence.1, p.cells_fit.most)))))

pub run-ended-requires-clause-accepted : goal.run-ended-requires-clause-accepted
run-ended-requires-clause-accepted c =
    let a = c.args in rw c.from_row-m.ensures (run-accepted a.cells.now a.queue.now a.output.now a.row.now c.requires.accepted)

pub write_row-requires : goal.write_row-requires
write_row-requires c =
    let a = c.args in
    let x = left-accepted a.cells.now a.queue.now a.output.now a.row.now c.requires.accepted a.budget _ _ c.run-ended.result c.run-ended.new.m (rw c.from_row-m.ensures at c.run-ended.ensures.run) in
    let k = x.console_in in
    let p = (run-passed (lent a.cells.now a.queue.now a.output.now a.row.now) c.requires.accepted).row_fits in
    (p.long, (x.cycles_in, (omega (arith, k.start_in, k.few), (omega (arith, k.count_in, k.few), (omega (arith, k.written_in, k.small), x.timer_in)))))

pub returns : goal.returns
returns c =
    let a = c.args in
    rw c.into.ensures (lent-answer a.cells.now a.queue.now a.output.now a.row.now a.journal.now c.requires.accepted c.requires.journal a.budget _ _ c.run-ended.result c.run-ended.new.m (rw c.from_row-m.ensures at c.run-ended.ensures.run) _ c.write_row.ensures _ (rw c.from_row-m.ensures at c.run-ended.ensures.journal))
