use Rattle.std.proofs.Common.{◌≡◌, ◌-◌}
use Rattle.source.specs.Message.{lines_from}
use Rattle.source.proofs.message.lines_from.Given as goal

abbrev pub invariant-loop-line : goal.invariant-loop-line
invariant-loop-line l = lines_from (l.place - l._line) l.rest ≡ lines_from (l.place - 1) l.text
