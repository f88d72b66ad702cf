use Rattle.std.proofs.Common.{◌∙◌, arith}
use Rattle.std.proofs.lemmas.Result.{err_from_is_err_and}
use Rattle.word.proofs.Laws.{back}
use Rattle.registers.specs.Meaning.{res_of}
use Rattle.registers.proofs.Laws.{settled_is}
use Rattle.runtime.proofs.Served.{served_ok, served_err}
use Rattle.computer.proofs.serve.serve_read.Goals as goal

pub returns-clause-value : goal.returns-clause-value
unfolding res_of
returns-clause-value c = λ l b o.
    let v = rw (back c.read_port-w.result (omega arith), c.read_port-w.ensures) at c.word_cell.ensures in
    let s = rw v at (settled_is _ _ l _ _ c.in_ok-put_reg.ensures) in
    c.conclude.ensures.value l c.args.queue.now o ∙ served_ok _ _ _ _ _ _ _ _ (c.read_port-n.ensures o) s

pub returns-in_err-put_reg-clause-value : goal.returns-in_err-put_reg-clause-value
unfolding res_of
returns-in_err-put_reg-clause-value c = λ l b o.
    let v = rw (back c.read_port-w.result (omega arith), c.read_port-w.ensures) at c.word_cell.ensures in
    let s = rw v at (settled_is _ _ l _ _ c.in_err-put_reg.ensures) in
    let p = err_from_is_err_and c.from_residual.result c.from_residual.ensures.1 in
    rw (p.1, p.2) (served_err _ _ _ _ _ _ _ _ (c.read_port-n.ensures o) _ s)
