use Rattle.std.proofs.Common.{◌≡◌, ◌+◌, ◌<◌, ◌^◌, w64, arith, rules, sym, ◌∙◌}
use mir.Facts.{to_z_pos}
use Rattle.definition.specs.Io.{around}
use Rattle.ring.proofs.Laws.{small, start-on, start_small}
use Rattle.ring.proofs.advance.Goals as goal

pub overflow_add-start : goal.overflow_add-start
overflow_add-start c =
    let s = small _ c.requires in
    let a = s.0 in
    let b = s.1.0 in
    let e = c.start.ensures in
    search rules

pub overflow_cast-journal-else-n-room : goal.overflow_cast-journal-else-n-room
overflow_cast-journal-else-n-room c =
    let a = (small _ c.requires).0 in
    let e = c.start.ensures in
    let f = c.room-else-n-room.ensures in
    let z = start_small c.args.journal.now c.requires c.room-else-n-room.result _ c.around-s.result f c.around-s.ensures (omega arith) in
    search rules

pub returns-else-n-room : goal.returns-else-n-room
returns-else-n-room c =
    let j = c.args.journal.now in
    let k = c.room.result in
    let x = c.around-s.result in
    let a = (small _ c.requires).0 in
    let e = c.start.ensures in
    let f = c.room.ensures in
    let y : x ≡ around k (c.start.result + 1) = c.around-s.ensures ∙ (λ i. around ((c.room-else-n-room.ensures ∙ sym f) i) (c.start.result + 1)) in
    let z = start_small j c.requires k (c.start.result + 1) x f y (omega arith) in
    let small-enough : x < 2 ^ 63 = omega arith in
    rw (to_z_pos w64 small-enough) (start-on j c.count-n.result k c.count-n.ensures f c.start.result x c.if-n-room.false e y)
