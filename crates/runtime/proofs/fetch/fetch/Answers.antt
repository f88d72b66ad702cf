use Rattle.std.proofs.Common.{arith, ap, ◌∙◌}
use Rattle.definition.specs.Encoding.{sound}
use Rattle.runtime.proofs.Laws.{read_in}
use Rattle.runtime.proofs.fetch.fetch.Goals as goal

pub overflow_add-p : goal.overflow_add-p
overflow_add-p c = let h = read_in _ c.args.p.now _ _ _ c.requires.none (c.in_ok-v.ensures c.args.p.now.s) in omega arith

pub decoded-requires : goal.decoded-requires
decoded-requires c = let h = read_in _ c.args.p.now _ _ _ c.requires.none (c.in_ok-v.ensures c.args.p.now.s) in ap sound h.1 ∙ c.requires.sound _ h.0
