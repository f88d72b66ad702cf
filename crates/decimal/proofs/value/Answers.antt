use Rattle.word.proofs.Laws.{back}
use Rattle.definition.specs.Word.{wrapped}
use Rattle.decimal.specs.Decimal.{value_of}
use native.Mathlib.Omega.{arith}
use Rattle.decimal.proofs.value.Goals as goal

pub returns-then-minus : goal.returns-then-minus
unfolding value_of wrapped
returns-then-minus c = let n = c.neg-n in
    let w = c.of_bits-w in
    rw (back n.result.value (omega arith), n.ensures, back w.result w.type_inv, w.ensures, c.if-minus.true)

pub returns : goal.returns
unfolding value_of
returns c = let w = c.of_bits-w in
    rw (back w.result w.type_inv, w.ensures, c.if-minus.false)
