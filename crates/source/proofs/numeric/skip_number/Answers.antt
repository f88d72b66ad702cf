use Rattle.std.proofs.Common.{◌≡◌, ap, sym, ◌∙◌, true, false, arith}
use Rattle.expression.specs.Reader.{head, is_digit}
use Rattle.source.specs.Source.{after_number}
use Rattle.source.proofs.Fronts.{first_is, head_none}
use Rattle.source.proofs.numeric.skip_number.Goals as goal

pub returns-in_default : goal.returns-in_default
unfolding after_number is_digit
returns-in_default c = let n = c.skip_minus-number in
    let h = head_none n.result.now (omega arith) in
    rw (← n.ensures, h)

pub returns-then-is_digit : goal.returns-then-is_digit
unfolding after_number
returns-then-is_digit c = let n = c.skip_minus-number in
    let d : is_digit (head n.result.now) ≡ true = ap is_digit (sym (first_is n.result.now)) ∙ sym c.is_digit.ensures ∙ c.if-is_digit.true in
    rw (← n.ensures, d) c.digits.ensures.1

pub returns-else-is_digit : goal.returns-else-is_digit
unfolding after_number
returns-else-is_digit c = let n = c.skip_minus-number in
    let d : is_digit (head n.result.now) ≡ false = ap is_digit (sym (first_is n.result.now)) ∙ sym c.is_digit.ensures ∙ c.if-is_digit.false in
    rw (← n.ensures, d)
