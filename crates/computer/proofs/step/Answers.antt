use Rattle.computer.proofs.step.Goals as goal

pub usual-requires : goal.usual-requires
usual-requires c = c.requires.core_in.cells_s
