-- What the code reads of a row, and the machine that it is. Cells, queue and output record are lent beside it.
use Rattle.std.specs.Prelude.{List, ℕ, ℤ}
use Rattle.definition.specs.declared.Registers.{Registers}
use Rattle.definition.specs.declared.Marks.{Marks}
use Rattle.definition.specs.declared.Timer.{Timer}
use Rattle.definition.specs.Constants.{ROW-A, ROW-B, ROW-PC, ROW-SP, ROW-SR, ROW-CYCLES, ROW-ENABLE, ROW-FLAG, ROW-PENDING, ROW-START, ROW-COUNT, ROW-WRITTEN, ROW-FENCE, ROW-INTERVAL, ROW-REMAINING, ROW-MARK}
use Rattle.definition.specs.Io.{marked}
use Rattle.definition.specs.Timer.{timed}
use Rattle.definition.specs.Calls.{at, cell_of_row, number_of_row, mark_of_row}
use Rattle.definition.specs.Exec.{core}
use Rattle.definition.specs.Runtime.{Machine, machine}
use Rattle.console.specs.declared.ConsoleState.{ConsoleState}
use Rattle.console.specs.Meaning.{console_of}
use Rattle.row.specs.declared.State.{State}

-- The row has no place for a count of empty reads: between steps it is 0.
abbrev pub registers_of : List ℤ → Registers
registers_of row =
    record { a = cell_of_row ROW-A row; b = cell_of_row ROW-B row; pc = number_of_row ROW-PC row; sp = number_of_row ROW-SP row; sr = at ROW-SR row; empties = 0 }

abbrev pub marks_of : List ℤ → Marks
marks_of row = marked (mark_of_row ROW-ENABLE row) (mark_of_row ROW-FLAG row) (mark_of_row ROW-PENDING row)

abbrev pub state_of : List ℤ → ConsoleState
state_of row =
    record { marks = marks_of row; start = number_of_row ROW-START row; count = number_of_row ROW-COUNT row; written = number_of_row ROW-WRITTEN row }

abbrev pub timer_of : List ℤ → Timer
timer_of row = timed (number_of_row ROW-INTERVAL row) (number_of_row ROW-REMAINING row) (mark_of_row ROW-MARK row)

abbrev pub row_state : List ℤ → State
row_state row = record { s = registers_of row; cycles = number_of_row ROW-CYCLES row; k = state_of row; fence = number_of_row ROW-FENCE row; timer = timer_of row }

-- The definition's machine.
abbrev pub machine_at : List ℤ → List ℕ → List ℕ → State → Machine
machine_at l q o m = machine (core l m.s) m.cycles (console_of m.k q o) m.fence m.timer
