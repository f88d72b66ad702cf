use Rattle.std.proofs.Common.{◌≡◌, ◌++◌, map}
use Rattle.report.specs.Text.{line}
use Rattle.report.proofs.Laws.{left}
use Rattle.report.proofs.put_line.Given as goal

abbrev pub invariant-loop-v : goal.invariant-loop-v
invariant-loop-v g l =
    l.text ++ left g.V.Number.number l.fields l.v-index ≡ l.fn.text ++ line l.name (map g.V.Number.number l.fields)
