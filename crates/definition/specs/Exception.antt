-- exception.rs, and "Stops": what an error ends a step with.
use Rattle.std.specs.Prelude.{ℕ}
use Rattle.definition.specs.declared.Ending.{Ending}
use Rattle.definition.specs.declared.Ending.TheVariants.{Exception, Stops}
use Rattle.definition.specs.declared.Stop.{Stop}
use Rattle.definition.specs.declared.Stop.TheVariants as S
use Rattle.definition.specs.declared.Reg.TheVariants.{PC, SP, SR}
use Rattle.definition.specs.Registers.{reg_number}
use Rattle.definition.specs.declared.Error.{Error}
use Rattle.definition.specs.declared.Error.TheVariants.{DivByZero, InvalidInstruction, PrivilegedInstruction, Trap, InvalidMemoryAccess, CellError, Extract, InvalidPc, InvalidSp, InvalidSr, Reset}

-- The code of an interrupt, which is no error of an instruction.
abbrev pub HARDWARE-INTERRUPT : ℕ
HARDWARE-INTERRUPT = 0

-- A run's number where its budget is spent, and those of the stops that "leave the machine before that step".
abbrev pub BUDGET-SPENT : ℕ
BUDGET-SPENT = 0

abbrev pub OUTPUT-FULL : ℕ
OUTPUT-FULL = 6

abbrev pub CYCLES-FULL : ℕ
CYCLES-FULL = 7

-- "0 budget spent; 1 reset; 2 exception without handler (detail: code); 3 `CellError`; 4 `Extract`; 5 `InvalidRegister` (detail: register);
-- 6 the step would write a byte past the output record; 7 the step would pass 2^63 - 1 cycles."
abbrev pub stop_number : Stop → ℕ
stop_number S.Reset = 1
stop_number (S.NoHandler k) = 2
stop_number S.CellError = 3
stop_number S.Extract = 4
stop_number (S.InvalidRegister r) = 5
stop_number S.OutputFull = OUTPUT-FULL
stop_number S.CyclesFull = CYCLES-FULL

-- "Other details are 0."
abbrev pub stop_detail : Stop → ℕ
stop_detail (S.NoHandler k) = k
stop_detail (S.InvalidRegister r) = reg_number r
stop_detail s = 0

-- Document 01's code or stop for each case of `Error`.
unfoldable pub ending : Error → Ending
ending DivByZero = Exception 1
ending InvalidInstruction = Exception 2
ending PrivilegedInstruction = Exception 3
ending Trap = Exception 4
ending InvalidMemoryAccess = Exception 5
ending Reset = Stops S.Reset
ending CellError = Stops S.CellError
ending Extract = Stops S.Extract
ending InvalidPc = Stops (S.InvalidRegister PC)
ending InvalidSp = Stops (S.InvalidRegister SP)
ending InvalidSr = Stops (S.InvalidRegister SR)
