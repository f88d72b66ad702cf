use Rattle.std.proofs.Common.{◌^◌, ap, w64, to_z}
use Rattle.definition.specs.Word.{shl_w, wrap}
use Rattle.word.proofs.Laws.{shl-bits}
use Rattle.word.proofs.shl.Goals as goal

pub returns : goal.returns
unfolding shl_w wrap
returns c = ap (to_z w64) (shl-bits c.args.x (2 ^ c.args.n) c.ranges.x)
