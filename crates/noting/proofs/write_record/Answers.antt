use Rattle.std.proofs.Common.{ap, ◌∙◌, ◌++◌, List, ℤ, length}
use Rattle.journal.specs.Journal.{record_of}
use Rattle.noting.specs.Meaning.{helds_of, behind_row}
use Rattle.noting.proofs.Record.{row-length, parts_are}
use Rattle.noting.proofs.write_record.Goals as goal

pub returns : goal.returns
unfolding record_of
returns c =
    let r = c.write_row.ensures in
    rw c.write_cells.ensures (parts_are c.args.kept.now c.write_row.new.row (behind_row (helds_of c.args.w.now)) (ap length r ∙ row-length c.args.m.now))
    ∙ ap (λ (x : List ℤ). x ++ behind_row (helds_of c.args.w.now)) r
