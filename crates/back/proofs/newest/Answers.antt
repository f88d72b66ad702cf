use Rattle.std.proofs.Common.{rules}
use Rattle.ring.proofs.Laws.{small}
use Rattle.back.proofs.Laws.{newest-few, newest-room, newest-part}
use Rattle.back.proofs.newest.Goals as goal

pub kept_place-p-requires : goal.kept_place-p-requires
kept_place-p-requires c =
    let few = (small _ c.requires.0).1.1 in
    let e = c.count-n.ensures in
    search rules

pub overflow_mul-from : goal.overflow_mul-from
overflow_mul-from c = let l = newest-few _ c.requires.0 c.requires.1 _ _ c.count-n.ensures c.kept_place-p.ensures in search rules

pub overflow_add-from : goal.overflow_add-from
overflow_add-from c = let l = newest-few _ c.requires.0 c.requires.1 _ _ c.count-n.ensures c.kept_place-p.ensures in search rules

pub overflow_add-to : goal.overflow_add-to
overflow_add-to c = let l = newest-few _ c.requires.0 c.requires.1 _ _ c.count-n.ensures c.kept_place-p.ensures in search rules

pub offset_bounds-journal-from : goal.offset_bounds-journal-from
offset_bounds-journal-from c = let l = newest-few _ c.requires.0 c.requires.1 _ _ c.count-n.ensures c.kept_place-p.ensures in search rules

pub slice_bounds-try_into-end : goal.slice_bounds-try_into-end
slice_bounds-try_into-end c = let l = newest-room _ c.requires.0 c.requires.1 _ _ c.count-n.ensures c.kept_place-p.ensures in search rules

pub returns : goal.returns
returns c = let e = newest-part _ c.requires.0 c.requires.1 _ _ c.count-n.ensures c.kept_place-p.ensures in search rules
