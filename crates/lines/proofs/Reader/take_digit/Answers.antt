use Rattle.std.proofs.Common.{◌≡◌, ◌∙◌, sym, true, false, ◌*◌, ◌+◌, leb}
use Rattle.decimal.proofs.Laws.{step-within, step_is}
use Rattle.lines.specs.Reader.{digit, size_of, limit}
use Rattle.lines.proofs.Reader.take_digit.Goals as goal

pub returns-then-is_within : goal.returns-then-is_within
unfolding digit
returns-then-is_within c = let f = c.args.self.now.field in
    let d = c.args.d in
    let h : leb (size_of f * 10 + d) (limit f.minus) ≡ true = sym (step-within f.minus (size_of f) d) ∙ (rw (c.grown-magnitude.ensures, c.unwrap_or.ensures) at (sym c.is_within.ensures)) ∙ c.if-is_within.true in
    rw (c.grown-magnitude.ensures, c.unwrap_or.ensures, step_is f.minus (size_of f) d h, h)

pub returns-else-is_within : goal.returns-else-is_within
unfolding digit
returns-else-is_within c = let f = c.args.self.now.field in
    let d = c.args.d in
    let h : leb (size_of f * 10 + d) (limit f.minus) ≡ false = sym (step-within f.minus (size_of f) d) ∙ (rw (c.grown-magnitude.ensures, c.unwrap_or.ensures) at (sym c.is_within.ensures)) ∙ c.if-is_within.false in
    rw (c.break_line.ensures, h)
