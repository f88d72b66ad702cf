use Rattle.std.proofs.Common.{refl}
use borrow.Rule.Slice.PartMut.{same_len_mid}
use Rattle.seats.specs.Meaning.{lent_of}
use Rattle.seats.proofs.Parts.{parts-ran}
use Rattle.seats.proofs.Buffers.run_at.Goals as goal

pub returns-clause-same : goal.returns-clause-same
returns-clause-same c =
    let same = c.run.auto in
    record {
      cells = refl;
      queues = refl;
      outputs = refl;
      rows = refl;
      cells_long = same_len_mid _ _ _ _ same.cells;
      queues_long = same_len_mid _ _ _ _ same.queue;
      outputs_long = same_len_mid _ _ _ _ same.output;
      rows_long = same_len_mid _ _ _ _ same.row;
    }

pub returns-clause-is : goal.returns-clause-is
returns-clause-is c =
    let a = c.args in
    parts-ran a.n a.k (lent_of a.self.now) c.range-c.result c.range-q.result c.range-o.result c.range-r.result c.range-c.ensures c.range-q.ensures c.range-o.ensures c.range-r.ensures a.budget c.run.ensures
