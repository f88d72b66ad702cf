use Rattle.std.proofs.Common.{arith}
use Rattle.memory.proofs.Laws.{length_over}
use Rattle.registers.specs.Meaning.{res_of}
use Rattle.arguments.specs.Seen.{cells_of}
use Rattle.instructions.proofs.Laws.{read_in}
use Rattle.instructions.proofs.moves.pop_cell.Goals as goal

pub overflow_add-s : goal.overflow_add-s
unfolding res_of
overflow_add-s c =
    let m = c.args.seen.now in
    let s = c.args.s.now in
    let h = read_in (cells_of m) s.sp _ _ s _ (c.in_ok-v.ensures s) in
    let e = length_over m.0.now m.1 in
    let q = c.requires in
    omega arith
