use Rattle.std.proofs.Common.{ap, ◌∙◌}
use Rattle.definition.specs.Memory.{cell_count}
use Rattle.journal.specs.Calls.{backward, is_record}
use Rattle.back.proofs.Laws.{back-passed}
use Rattle.back.proofs.back.Goals as goal

pub put_back-requires : goal.put_back-requires
put_back-requires c =
    let b = backward c.args.cells.now c.args.row.now c.args.journal.now in
    let p = back-passed b c.in_ok-back_check.ensures in
    (p.row-long, ap (is_record (cell_count b.cells)) c.newest.ensures ∙ p.is-record)
