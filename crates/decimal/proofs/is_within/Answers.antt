use Rattle.decimal.proofs.is_within.Goals as goal

pub returns : goal.returns
returns c = rw c.limit_of.ensures
