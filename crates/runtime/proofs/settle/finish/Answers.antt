use Rattle.runtime.proofs.Laws.{finished}
use Rattle.runtime.proofs.settle.finish.Goals as goal

pub returns : goal.returns
returns c = λ q. finished _ _ _ c.args.end c.in_ok-within.ensures (c.commit.ensures.value q)
