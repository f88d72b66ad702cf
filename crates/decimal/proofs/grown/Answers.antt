use mathlib.Core.Path.{refl}
use borrow.Author.Tests.{lt-ltb, le-ltb}
use Rattle.decimal.specs.Decimal.{cap_step}
use Rattle.decimal.proofs.grown.Goals as goal

pub returns-then-size-gt922337203685477580 : goal.returns-then-size-gt922337203685477580
unfolding cap_step
returns-then-size-gt922337203685477580 c = rw (lt-ltb 922337203685477580 _ c.if-size-gt922337203685477580.true)

pub returns : goal.returns
unfolding cap_step
returns c = rw (le-ltb 922337203685477580 _ c.if-size-gt922337203685477580.false) refl
