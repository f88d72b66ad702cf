use Rattle.std.specs.Prelude.{Ok}
use Rattle.std.proofs.Common.{ap, ◌∙◌, arith}
use Rattle.definition.specs.Runtime.{entered, elapsed}
use Rattle.runtime.proofs.Laws.{finished, entered_cycles}
use Rattle.runtime.proofs.settle.finish_entering.Goals as goal

pub returns : goal.returns
returns c = λ q. rw c.tick_entry.ensures (finished _ _ _ (Ok tt) (omega (arith, entered_cycles)) (ap (elapsed c.args.code) (c.enter.ensures q _ ∙ ap (entered c.args.code) (c.commit.ensures.value q))))
