use Rattle.std.proofs.Common.{◌∙◌, sym, arith}
use Rattle.memory.specs.Overlay.{overlay}
use Rattle.word.proofs.Laws.{back}
use Rattle.registers.specs.Meaning.{res_of}
use Rattle.computer.proofs.Laws.{out_asked}
use Rattle.computer.proofs.serve.output.Goals as goal

pub returns-clause-value : goal.returns-clause-value
unfolding res_of overlay
returns-clause-value c = λ b q.
    rw (back c.in_ok-w.w (omega arith)) at (c.serve_write.ensures.value c.args.cells.now b q)
    ∙ out_asked _ _ _ _ _ _ _ _ _ (sym c.if-not-supervisor.ensures) c.in_ok-w.ensures (c.in_ok-port.ensures c.args.cells.now)
