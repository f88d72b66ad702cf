use Rattle.std.proofs.Common.{rules}
use Rattle.noting.proofs.Kept.{place-few, place-room, part-put}
use Rattle.noting.proofs.keep.put_next.Goals as goal

pub overflow_mul-from : goal.overflow_mul-from
overflow_mul-from c = let l = place-few c.args.m.now c.args.w.now c.args.journal.now c.requires.0 _ c.next_place-p.ensures in search rules

pub overflow_add-from : goal.overflow_add-from
overflow_add-from c = let l = place-few c.args.m.now c.args.w.now c.args.journal.now c.requires.0 _ c.next_place-p.ensures in search rules

pub overflow_add-from-2 : goal.overflow_add-from-2
overflow_add-from-2 c = let l = place-few c.args.m.now c.args.w.now c.args.journal.now c.requires.0 _ c.next_place-p.ensures in search rules

pub offset_bounds-journal-from : goal.offset_bounds-journal-from
offset_bounds-journal-from c = let l = place-few c.args.m.now c.args.w.now c.args.journal.now c.requires.0 _ c.next_place-p.ensures in search rules

pub slice_bounds-write_record-end : goal.slice_bounds-write_record-end
slice_bounds-write_record-end c = let l = place-room c.args.m.now c.args.w.now c.args.journal.now c.requires.0 _ c.next_place-p.ensures in search rules

pub returns : goal.returns
returns c = part-put c.args.m.now c.args.w.now c.args.journal.now c.requires.0 _ c.next_place-p.ensures c.write_record.ensures
