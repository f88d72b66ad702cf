use Rattle.refusals.proofs.Passed.{read-passed}
use Rattle.calls.proofs.cells.read_cell.Goals as goal

pub get_cell-requires : goal.get_cell-requires
get_cell-requires c = read-passed c.args.cells.now c.args.address c.in_ok-read_check.ensures
