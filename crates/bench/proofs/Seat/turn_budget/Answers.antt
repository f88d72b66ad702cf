use Rattle.std.proofs.Common.{arith}
use Rattle.bench.proofs.Seat.turn_budget.Goals as goal

pub returns-clause-fits : goal.returns-clause-fits
returns-clause-fits c = omega (arith, c.well_formed.0.1.1.0.1, c.well_formed.0.1.1.1.0.1, c.min-2.ensures, c.min.ensures, c.saturating_sub.ensures)
