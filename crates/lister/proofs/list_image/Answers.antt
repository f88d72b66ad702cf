use Rattle.std.proofs.Common.{◌∙◌, sym, refl, arith}
use lib.Seq.{length-take-le}
use Rattle.std.specs.Prelude.{Ok, Err}
use Rattle.definition.specs.Answers.{counted_of}
use Rattle.lister.proofs.Laws.{text-put, refusal-put, numbered}
use Rattle.lister.proofs.list_image.Goals as goal

pub slice_bounds-room-end : goal.slice_bounds-room-end
slice_bounds-room-end c = (text-put c.args.leave c.args.image.now _ (counted_of (Ok c.in-Ok.bytes)) (rw c.in-Ok.is at c.listed.ensures) refl).1

pub slice_bounds-put-end : goal.slice_bounds-put-end
slice_bounds-put-end c = let t = text-put c.args.leave c.args.image.now _ (counted_of (Ok c.in-Ok.bytes)) (rw c.in-Ok.is at c.listed.ensures) refl in
    sym (length-take-le _ _ t.1)

pub returns-in-Ok : goal.returns-in-Ok
returns-in-Ok c = let t = text-put c.args.leave c.args.image.now _ (counted_of (Ok c.in-Ok.bytes)) (rw c.in-Ok.is at c.listed.ensures) refl in
    rw (c.put.ensures, c.clear.ensures) t.0

pub returns-in-Err : goal.returns-in-Err
returns-in-Err c = c.refusal.ensures ∙ refusal-put c.args.leave c.args.image.now _ (counted_of (Err c.in-Err.e)) (rw c.in-Err.is at c.listed.ensures) (λ z. let n = numbered c.in-Err.e in omega arith)
