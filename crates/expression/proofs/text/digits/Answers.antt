use Rattle.std.proofs.Common.{ap, ◌∙◌, arith}
use Rattle.expression.specs.Reader.{is_digit}
use Rattle.expression.specs.Code.{cap_decimal}
use Rattle.expression.proofs.Names.{digit-within, decimal-more, decimal-stop}
use Rattle.expression.proofs.text.digits.Goals as goal

pub overflow_sub-digit : goal.overflow_sub-digit
overflow_sub-digit c = (digit-within c.args.s.now _ c.loop-digit.digit-index (c.span.ensures is_digit (λ b r h. h)).0 c.loop-digit-test.true).0

pub grown-size-requires : goal.grown-size-requires
grown-size-requires c = let d = digit-within c.args.s.now _ c.loop-digit.digit-index (c.span.ensures is_digit (λ b r h. h)).0 c.loop-digit-test.true in omega arith

pub loop-digit-preserved : goal.loop-digit-preserved
loop-digit-preserved c = rw c.grown-size.ensures (decimal-more _ c.loop-digit.digit-index c.loop-digit.size c.loop-digit-test.true) ∙ c.loop-digit.invariant

pub returns : goal.returns
returns c =
    let e = c.span.ensures is_digit (λ b r h. h) in
    (decimal-stop _ c.loop-digit.digit-index c.loop-digit.size c.loop-digit-test.false ∙ (c.loop-digit.invariant ∙ ap (cap_decimal 0) e.0), e.1)
