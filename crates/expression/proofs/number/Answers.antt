use Rattle.std.proofs.Common.{arith}
use Rattle.expression.proofs.Laws.{number_is, number-none, no-digit-below, no-digit-past, no-digit-in-empty, digit-first}
use Rattle.expression.proofs.number.Goals.{in_default-via-then-s-lt1, in_default-via-else-s-lt1+then-s-lt48, in_default-via-else-s-lt1+else-s-lt48+else-s-lt58}
use Rattle.expression.proofs.number.Goals as goal

pub returns-in_default : goal.returns-in_default
returns-in_default c = number-none c.args.minus c.args.s.now
    (elim c.in_default.branch [
      | in_default-via-then-s-lt1 w ↦ no-digit-in-empty c.args.s.now (search arith)
      | in_default-via-else-s-lt1+then-s-lt48 w ↦ no-digit-below c.args.s.now (search arith)
      | in_default-via-else-s-lt1+else-s-lt48+else-s-lt58 w ↦ no-digit-past c.args.s.now (search arith)
    ])

pub returns : goal.returns
returns c = rw (c.sized.ensures, c.skip_spaces.ensures, c.digits-size.ensures.0, c.digits-size.ensures.1) (number_is c.args.minus c.args.s.now (digit-first c.args.s.now (search arith) (search arith)))
