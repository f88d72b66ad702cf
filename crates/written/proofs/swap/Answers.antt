use Rattle.std.proofs.lemmas.Result.{err_from_is_err_and}
use Rattle.definition.specs.Exec.{and_then}
use Rattle.journal.specs.Writes.{aim_swap}
use Rattle.registers.specs.Meaning.{res_of}
use Rattle.arguments.specs.Seen.{cells_of}
use Rattle.registers.proofs.Laws.{settled_is}
use Rattle.written.proofs.swap.Goals as goal

pub returns-in_err-put_reg : goal.returns-in_err-put_reg
unfolding aim_swap and_then res_of
returns-in_err-put_reg c =
    let e = settled_is c.cell_of.new.s c.put_reg.new.s (cells_of c.args.seen.now) c.put_reg.result _ c.put_reg.ensures in
    let x = err_from_is_err_and c.from_residual-in_err-put_reg.result c.from_residual-in_err-put_reg.ensures.1 in
    rw (x.1, x.2, ← c.in_ok-v.ensures, ← e, c.in_err-put_reg.was)

pub returns : goal.returns
unfolding aim_swap and_then res_of
returns c =
    let e = settled_is c.cell_of.new.s c.put_reg.new.s (cells_of c.args.seen.now) c.put_reg.result _ c.put_reg.ensures in
    rw (← c.in_ok-v.ensures, ← e, c.in_ok-put_reg.was) (c.place_of.ensures (cells_of c.args.seen.now))
