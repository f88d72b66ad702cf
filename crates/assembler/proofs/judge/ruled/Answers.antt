use Rattle.std.proofs.Common.{ap, ◌∙◌, Ok, Bool}
use Rattle.std.proofs.lemmas.Result.{err_from_is_err_and}
use Rattle.assembler.specs.Meaning.{ruled}
use Rattle.assembler.proofs.Judged.{checked-ruled, ruled-error}
use Rattle.assembler.proofs.judge.ruled.Goals as goal

pub returns-in_err-verdict : goal.returns-in_err-verdict
returns-in_err-verdict c =
    let x = err_from_is_err_and c.from_residual.result c.from_residual.ensures.1 in
    rw (x.1, x.2, c.in_err-verdict.was) (ruled-error _ _ c.args.k)

pub returns : goal.returns
returns c = rw c.in_ok-verdict.was (c.check.ensures ∙ (checked-ruled _ c.args.k ∙ ap (λ (b : Bool). ruled (Ok tt) b c.args.k) c.exceeds.ensures))
