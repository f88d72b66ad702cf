use Rattle.definition.specs.Exec.{and_then}
use Rattle.definition.specs.Instructions.{swap}
use Rattle.registers.specs.Meaning.{planned, res_of}
use Rattle.registers.proofs.Laws.{settled_is}
use Rattle.stores.proofs.swap.Goals as goal

pub returns : goal.returns
unfolding swap and_then res_of
returns c =
    let e = settled_is c.cell_of.new.s c.put_reg.new.s (planned c.args.cells.now c.args.p.now) c.put_reg.result _ c.put_reg.ensures in
    rw (← c.in_ok-v.ensures, ← e, c.in_ok-put_reg.was) (rw c.get_reg-old.ensures at c.swap_back.ensures)
