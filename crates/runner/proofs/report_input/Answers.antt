use Rattle.std.proofs.Common.{◌≡◌, ℕ, subst, take, IfSome}
use Rattle.runner.proofs.report_input.Goals as goal

pub returns : goal.returns
returns g c =
    let r = c.in_ok-n.ensures in
    let t = c.read_all.new.text in
    record { text = take c.in_ok-n.n t; front = subst (λ (k : ℕ). IfSome (g.R.Read.remaining c.args.from.now) (λ input. take c.in_ok-n.n t ≡ take k input)) c.read_all.auto.text r.front; printed = c.report_file.ensures }
