use Rattle.std.proofs.Common.{◌≡◌, sym, ◌∙◌, ◌-◌, refl, arith, length}
use Rattle.source.proofs.Said.{lines_next, lines_here, lines_none}
use Rattle.source.proofs.message.lines_from.Goals as goal

pub loop-line-init : goal.loop-line-init
loop-line-init c = refl

pub loop-line-preserved : goal.loop-line-preserved
loop-line-preserved c = let l = c.loop-line in
    rw c.next_line-rest.ensures (sym (lines_next c.args.place l._line l.rest.now (omega arith)) ∙ l.invariant)

pub returns-after-loop-line : goal.returns-after-loop-line
returns-after-loop-line c = let l = c.loop-line in
    sym (lines_here c.args.place l._line l.rest.now (omega arith)) ∙ l.invariant

pub returns-then-is_empty : goal.returns-then-is_empty
returns-then-is_empty c = let l = c.loop-line in
    let z : length l.rest.now ≡ 0 = search (arith, c.is_empty.ensures, c.if-is_empty.true) in
    sym (lines_none (c.args.place - l._line) l.rest.now z) ∙ l.invariant
