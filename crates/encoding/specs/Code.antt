-- The instruction that a cell taken apart is.
use Rattle.definition.specs.declared.Instruction.{Instruction}
use Rattle.definition.specs.Registers.{reg_at}
use Rattle.definition.specs.Arguments.{operand}
use Rattle.encoding.specs.declared.Code.{Code}

abbrev pub instruction_of : Code → Instruction
instruction_of c =
    record { op = c.op; x = operand c.m1 c.r1 c.first; y = operand c.m2 c.r2 c.second; r1 = reg_at c.r1; r2 = reg_at c.r2; cycles = c.cycles }
