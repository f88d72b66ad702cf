use Rattle.std.proofs.Common.{◌∙◌, arith}
use Rattle.word.proofs.Laws.{back}
use Rattle.runtime.proofs.Served.{served_set, served_write}
use Rattle.computer.proofs.Laws.{not_full}
use Rattle.computer.proofs.serve.serve_write.Goals as goal

pub returns-then-port-eq-INTERVAL_PORT-clause-value : goal.returns-then-port-eq-INTERVAL_PORT-clause-value
returns-then-port-eq-INTERVAL_PORT-clause-value c = λ l b q.
    c.poll.ensures.value l q c.args.output.now
    ∙ rw (c.set.ensures, back c.args.w (omega arith)) (served_set _ _ _ _ _ (not_full _ _ c.requires.room) c.if-port-eq-INTERVAL_PORT.true)

pub returns-clause-value : goal.returns-clause-value
returns-clause-value c = λ l b q.
    let e = rw (back c.args.w (omega arith)) at (c.write_port-byte.ensures.is q c.args.output.now) in
    c.conclude.ensures.value l q _ ∙ rw c.write.ensures.output (served_write _ _ _ _ _ _ (not_full _ _ c.requires.room) c.if-port-eq-INTERVAL_PORT.false e)
