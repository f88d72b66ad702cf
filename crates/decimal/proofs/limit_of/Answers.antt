use mathlib.Core.Path.{refl}
use Rattle.decimal.proofs.limit_of.Goals as goal

pub returns-then-minus : goal.returns-then-minus
returns-then-minus c = rw c.if-minus.true refl

pub returns-else-minus : goal.returns-else-minus
returns-else-minus c = rw c.if-minus.false refl
