use Rattle.std.proofs.Common.{◌∙◌}
use Rattle.line.proofs.Laws.{then-none, then-some, register-step}
use Rattle.line.proofs.operands.register.Goals as goal

pub returns-in_err-register : goal.returns-in_err-register
returns-in_err-register c = rw c.from_residual.ensures (then-none _ _ c.in_err-register.ensures ∙ register-step c.args.s.now)

pub returns : goal.returns
returns c = rw c.skip_spaces.ensures (then-some _ _ _ _ c.in_ok-register.ensures ∙ register-step c.args.s.now)
