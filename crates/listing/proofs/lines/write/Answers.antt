use Rattle.std.proofs.Common.{ap, ◌∙◌, arith}
use Rattle.listing.specs.Listing.{line_text}
use Rattle.listing.proofs.Cells.{written-next}
use Rattle.listing.proofs.lines.write.Goals as goal

pub loop-n-preserved : goal.loop-n-preserved
loop-n-preserved c = let l = c.loop-n in let bytes = c.as_bytes-bytes in
    let line = bytes.ensures.value ∙ c.put_line.ensures ∙ ap line_text c.get_cell.ensures in
    rw c.copy.ensures (written-next c.args.image.now c.args.text.now l.text bytes.result.now l.n l.at c.loop-n-test.true (omega arith) line l.invariant)
