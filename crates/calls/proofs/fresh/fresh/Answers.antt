use Rattle.std.proofs.Common.{rules}
use Rattle.definition.specs.Calls.{fresh}
use Rattle.refusals.proofs.Passed.{fresh-passed}
use Rattle.calls.proofs.fresh.fresh.Goals as goal

pub returns : goal.returns
unfolding fresh
returns c =
    let long = fresh-passed c.args.cells.now c.args.row.now c.in_ok-fresh_check.ensures in
    rw (c.in_ok-fresh_check.ensures) (search rules)
