use Rattle.std.proofs.Common.{ap, w64, to_z, of_z}
use mir.Facts.{Fits-of_z}
use Rattle.definition.specs.Word.{put_bit}
use Rattle.definition.proofs.Bits.{bits-of_z}
use Rattle.word.proofs.Laws.{mask-put}
use Rattle.word.proofs.put_bit.Goals as goal

pub returns : goal.returns
unfolding put_bit
returns c =
    rw (bits-of_z c.args.w c.ranges.w)
    (ap (to_z w64) (mask-put (of_z w64 c.args.w) c.args.k c.args.on c.requires (Fits-of_z c.ranges.w).fits))
