use Rattle.std.proofs.Common.{◌≡◌, ◌-◌, ◌<◌, ◌^◌, w64, arith, rules}
use mir.Facts.{to_z_pos}
use Rattle.journal.specs.Journal.{count_of, forget_newest}
use Rattle.ring.proofs.Laws.{small}
use Rattle.ring.proofs.retreat.Goals as goal

pub overflow_cast-journal : goal.overflow_cast-journal
overflow_cast-journal c =
    let s = small _ c.requires.0 in
    let few = s.1.0 in
    let ci = s.1.1 in
    let e = c.count.ensures in
    search rules

pub returns : goal.returns
unfolding forget_newest
returns c =
    let s = small c.args.journal.now c.requires.0 in
    let few = s.1.0 in
    let ci = s.1.1 in
    let e : c.count.result ≡ count_of c.args.journal.now = c.count.ensures in
    let small-enough : c.count.result - 1 < 2 ^ 63 = omega arith in
    rw (to_z_pos w64 small-enough, e)
