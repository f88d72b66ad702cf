use Rattle.std.proofs.Common.{◌≡◌, not, ◌-ℤ◌, ◌∙◌, to_z-of_z, rules}
use Rattle.definition.specs.Word.{is_word}
use Rattle.definition.proofs.Words.{wrapped-by}
use Rattle.word.proofs.Laws.{back, sub-wraps, overflow-is}
use Rattle.word.proofs.sub.Goals as goal

pub returns : goal.returns
returns c =
    let a = c.args.a in
    let b = c.args.b in
    let e = rw (to_z-of_z c.ranges.a, to_z-of_z c.ranges.b) at c.overflowing_sub-value.ensures.value ∙ sub-wraps a b c.ranges.a c.ranges.b in
    let o : c.overflowing_sub-value.result.1 ≡ not (is_word (a -ℤ b)) = overflow-is (a -ℤ b) _ (rw (to_z-of_z c.ranges.a, to_z-of_z c.ranges.b) at c.overflowing_sub-value.ensures.overflow) in
    rw (back c.overflowing_sub-value.result.0 (search rules), e) (wrapped-by (a -ℤ b) o)
