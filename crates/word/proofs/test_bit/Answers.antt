use Rattle.std.proofs.Common.{w64, of_z}
use Rattle.definition.specs.Word.{bit}
use Rattle.definition.proofs.Bits.{bits-of_z}
use Rattle.word.proofs.Laws.{one_shl, mask-test}
use Rattle.word.proofs.test_bit.Goals as goal

pub returns : goal.returns
unfolding bit
returns c = rw (one_shl c.args.k c.requires, bits-of_z c.args.w c.ranges.w) (mask-test (of_z w64 c.args.w) c.args.k)
