use Rattle.std.proofs.Common.{rules}
use Rattle.ring.proofs.Laws.{small}
use Rattle.ring.proofs.kept_place.Goals as goal

pub overflow_add-start : goal.overflow_add-start
overflow_add-start c =
    let s = small _ c.requires.0 in
    let a = s.0 in
    let b = s.1.0 in
    let i = c.requires.1 in
    let e = c.start.ensures in
    search rules
