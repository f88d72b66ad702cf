use Rattle.back.proofs.Laws.{few-cells}
use Rattle.back.proofs.is_record.Goals as goal

pub held_fit-requires : goal.held_fit-requires
held_fit-requires c = few-cells c.args.kept.now c.below_at.ensures c.if-not-below_at.false c.number_at-k.ensures
