use Rattle.std.proofs.Common.{◌∙◌, sym, ap, arith}
use Rattle.definition.specs.Runtime.{step, settle, limit}
use Rattle.runtime.proofs.Laws.{end_in}
use Rattle.computer.proofs.usual.take.Goals as goal

pub returns : goal.returns
unfolding step
returns c =
    let e = c.end.ensures.value c.args.queue.now c.arrive-arrival.new.output ∙ ap settle c.arrive-arrival.ensures.value in
    sym (end_in _ _ c.end.result (let h = c.end.ensures.soon in let g = c.arrive-arrival.ensures.soon in let f = c.requires.usual.far in omega arith)) ∙ ap (limit _) e
