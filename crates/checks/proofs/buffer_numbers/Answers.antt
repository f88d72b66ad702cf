use Rattle.std.proofs.Common.{rules}
use Rattle.definition.specs.Calls.{verdict, row_tests}
use Rattle.checks.proofs.buffer_numbers.Goals as goal

-- The timer's tests are the same for every q, o and n.
pub returns : goal.returns
unfolding verdict row_tests
returns c = let h = c.timer_numbers.ensures c.args.q c.args.o c.args.n in search rules
