use Rattle.std.proofs.Common.{sym, ◌∙◌, arith}
use Rattle.source.proofs.Laws.{numeric-here, numeric-later, numeric-over}
use Rattle.source.proofs.numeric.lowest_numeric.Goals as goal

pub returns-then-begins_numeric : goal.returns-then-begins_numeric
returns-then-begins_numeric c = let l = c.loop-rest in
    sym (numeric-here l.k l.fresh l.rest.now (omega arith) (sym c.begins_numeric.ensures ∙ c.if-begins_numeric.true)) ∙ l.invariant

pub loop-rest-preserved : goal.loop-rest-preserved
loop-rest-preserved c = let l = c.loop-rest in
    rw c.line_after-k.ensures (sym (numeric-later l.k l.fresh l.rest.now (omega arith) (sym c.begins_numeric.ensures ∙ c.if-begins_numeric.false)) ∙ l.invariant)

pub returns : goal.returns
returns c = let l = c.loop-rest in
    sym (numeric-over l.k l.fresh l.rest.now (omega arith)) ∙ l.invariant
