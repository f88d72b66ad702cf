use Rattle.definition.specs.Exec.{and_then}
use Rattle.definition.specs.Instructions.{swap}
use Rattle.memory.specs.Overlay.{overlay}
use Rattle.registers.specs.Meaning.{res_of}
use Rattle.registers.proofs.Laws.{settled_is}
use Rattle.computer.proofs.writes.swap.Goals as goal

pub returns : goal.returns
unfolding swap and_then res_of overlay
returns c =
    let e = settled_is c.cell_of.new.s c.put_reg.new.s c.args.cells.now c.put_reg.result _ c.put_reg.ensures in
    rw (← c.in_ok-v.ensures, ← e, c.in_ok-put_reg.was) (rw c.get_reg-old.ensures at c.swap_back.ensures)
