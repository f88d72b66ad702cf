use Rattle.std.proofs.Common.{sym, ap, ◌∙◌}
use Rattle.expression.specs.Reader.{tail}
use Rattle.expression.specs.Table.{next_line}
use Rattle.expression.proofs.Spans.{rest-is, tail_nothing}
use Rattle.expression.proofs.text.next_line.Goals as goal

pub returns-in_default : goal.returns-in_default
unfolding next_line
returns-in_default c = sym (tail_nothing c.split_line.result.1.now c.in_default.len_below) ∙ ap tail c.split_line.ensures.1

pub returns-in-len1-up : goal.returns-in-len1-up
unfolding next_line
returns-in-len1-up c = rest-is c.split_line.result.1.now ∙ ap tail c.split_line.ensures.1
