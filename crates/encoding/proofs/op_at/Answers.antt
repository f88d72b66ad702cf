use Rattle.std.proofs.Common.{arith}
use Rattle.encoding.proofs.Sound.{op-past}
use Rattle.encoding.proofs.op_at.Goals as goal

pub returns-in_default : goal.returns-in_default
returns-in_default c = op-past c.args.n (omega arith)
