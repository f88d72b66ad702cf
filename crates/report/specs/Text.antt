-- What the runner prints (document 01, "The runner"). A text is a list of bytes: 44 is a comma, 45 a minus, 10 a line end.
use Rattle.std.specs.Prelude.{List, [], ◌∷◌, ◌++◌, ℕ, ◌+◌, ℤ, pos}
use Rattle.printing.specs.Decimal.{numeral}
use Rattle.definition.specs.declared.Ran.{Ran}
use Rattle.definition.specs.Constants.{ROW-A, ROW-B, ROW-PC, ROW-SP, ROW-SR, ROW-CYCLES, ROW-WRITTEN}
use Rattle.definition.specs.Calls.{at}

-- A comma and the number.
abbrev pub field : ℤ → List ℕ
field v = 44 ∷ numeral v

unfoldable pub fields : List ℤ → List ℕ
fields [] = []
fields (v ∷ vs) = field v ++ fields vs

-- A name, its fields and a line end.
unfoldable pub line : List ℕ → List ℤ → List ℕ
line name vs = name ++ (fields vs ++ (10 ∷ []))

-- The lines' names: `stop`, `steps`, `cycles`, `regs`, `a`, `b`, `out`, `empty`, and a refusal's, `refused`.
abbrev pub stop_name : List ℕ
stop_name = 115 ∷ 116 ∷ 111 ∷ 112 ∷ []

abbrev pub steps_name : List ℕ
steps_name = 115 ∷ 116 ∷ 101 ∷ 112 ∷ 115 ∷ []

abbrev pub cycles_name : List ℕ
cycles_name = 99 ∷ 121 ∷ 99 ∷ 108 ∷ 101 ∷ 115 ∷ []

abbrev pub regs_name : List ℕ
regs_name = 114 ∷ 101 ∷ 103 ∷ 115 ∷ []

abbrev pub a_name : List ℕ
a_name = 97 ∷ []

abbrev pub b_name : List ℕ
b_name = 98 ∷ []

abbrev pub out_name : List ℕ
out_name = 111 ∷ 117 ∷ 116 ∷ []

abbrev pub empty_name : List ℕ
empty_name = 101 ∷ 109 ∷ 112 ∷ 116 ∷ 121 ∷ []

abbrev pub refused_name : List ℕ
refused_name = 114 ∷ 101 ∷ 102 ∷ 117 ∷ 115 ∷ 101 ∷ 100 ∷ []

-- "stop and detail; steps": the lines `stop` and `steps`.
unfoldable pub answer_text : Ran → List ℕ
answer_text ran =
    line stop_name (pos ran.stop ∷ pos ran.detail ∷ []) ++ line steps_name (pos ran.steps ∷ [])

-- "cycles; pc, sp, sr": the lines `cycles` and `regs`.
unfoldable pub registers_text : List ℤ → List ℕ
registers_text row =
    line cycles_name (at ROW-CYCLES row ∷ []) ++ line regs_name (at ROW-PC row ∷ at ROW-SP row ∷ at ROW-SR row ∷ [])

-- The three numbers of the cell that begins at this place.
abbrev pub numbers_from : ℕ → List ℤ → List ℤ
numbers_from i row = at i row ∷ at (i + 1) row ∷ at (i + 2) row ∷ []

-- "cells a and b; output count": the lines `a`, `b` and `out`.
unfoldable pub cells_text : List ℤ → List ℕ
cells_text row =
    line a_name (numbers_from ROW-A row) ++ (line b_name (numbers_from ROW-B row) ++ line out_name (at ROW-WRITTEN row ∷ []))

-- "The runner adds a last line `empty,count`."
unfoldable pub empty_text : Ran → List ℕ
empty_text ran = line empty_name (pos ran.empty ∷ [])

-- The eight lines, seven of them in document 01's order, of what run answered and the row that it left.
unfoldable pub run_text : Ran → List ℤ → List ℕ
run_text ran row = answer_text ran ++ (registers_text row ++ (cells_text row ++ empty_text ran))

-- "A refusal prints `refused`, number and line."
unfoldable pub refusal_text : ℕ → ℕ → List ℕ
refusal_text number place = line refused_name (pos number ∷ pos place ∷ [])
