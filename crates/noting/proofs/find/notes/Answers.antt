use Rattle.std.proofs.Common.{ap, ◌∙◌, ◌++◌}
use Rattle.definition.specs.Runtime as M
use Rattle.row.specs.Meaning.{machine_at}
use Rattle.journal.specs.Writes.{step_writes, entry_writes}
use Rattle.journal.specs.Journal.{begun}
use Rattle.noting.proofs.find.notes.Goals as goal

pub returns : goal.returns
unfolding step_writes M.guard M.step
returns c = λ q o t.
    (let m = c.args.m.now in
    let before = machine_at c.args.cells.now q o m in
    let own = c.own_cell.ensures in
    let entry = c.entry_cells.ensures q o m ∙ ap entry_writes t in
    ((λ i. own i ++ entry i), c.is_begun.ensures q o m before ∙ ap (λ (x : M.Turn). begun (M.limit before (M.settle x))) t))
