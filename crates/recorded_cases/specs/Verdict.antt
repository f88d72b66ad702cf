-- What the replay prints of where it ended. A text is a list of bytes; 10 is a line feed.
use Rattle.std.specs.Prelude.{ℕ, List, [], ◌∷◌, ◌++◌, Option, Some, None}
use Rattle.recorded.specs.declared.compare.Fault.{Fault}
use Rattle.recorded.specs.declared.compare.Fault.TheVariants as F
use Rattle.printing.specs.Decimal.{decimal}
use Rattle.recorded_cases.specs.declared.state.State.{State}

-- The fault in words, the line's end with them.
abbrev pub fault_text : Fault → List ℕ
fault_text F.Text = 116 ∷ 104 ∷ 101 ∷ 32 ∷ 108 ∷ 105 ∷ 110 ∷ 101 ∷ 32 ∷ 105 ∷ 115 ∷ 32 ∷ 110 ∷ 111 ∷ 116 ∷ 32 ∷ 102 ∷ 105 ∷ 118 ∷ 101 ∷ 32 ∷ 110 ∷ 117 ∷ 109 ∷ 98 ∷ 101 ∷ 114 ∷ 115 ∷ 10 ∷ []
fault_text F.Order = 97 ∷ 32 ∷ 108 ∷ 105 ∷ 110 ∷ 101 ∷ 32 ∷ 111 ∷ 102 ∷ 32 ∷ 116 ∷ 104 ∷ 105 ∷ 115 ∷ 32 ∷ 107 ∷ 105 ∷ 110 ∷ 100 ∷ 32 ∷ 105 ∷ 115 ∷ 32 ∷ 110 ∷ 111 ∷ 116 ∷ 32 ∷ 100 ∷ 117 ∷ 101 ∷ 10 ∷ []
fault_text F.Number = 97 ∷ 32 ∷ 110 ∷ 117 ∷ 109 ∷ 98 ∷ 101 ∷ 114 ∷ 32 ∷ 105 ∷ 115 ∷ 32 ∷ 111 ∷ 117 ∷ 116 ∷ 32 ∷ 111 ∷ 102 ∷ 32 ∷ 114 ∷ 97 ∷ 110 ∷ 103 ∷ 101 ∷ 10 ∷ []
fault_text F.Cases = 116 ∷ 104 ∷ 101 ∷ 32 ∷ 99 ∷ 97 ∷ 115 ∷ 101 ∷ 39 ∷ 115 ∷ 32 ∷ 110 ∷ 117 ∷ 109 ∷ 98 ∷ 101 ∷ 114 ∷ 32 ∷ 111 ∷ 114 ∷ 32 ∷ 116 ∷ 104 ∷ 101 ∷ 32 ∷ 99 ∷ 111 ∷ 117 ∷ 110 ∷ 116 ∷ 32 ∷ 111 ∷ 102 ∷ 32 ∷ 99 ∷ 97 ∷ 115 ∷ 101 ∷ 115 ∷ 32 ∷ 105 ∷ 115 ∷ 32 ∷ 119 ∷ 114 ∷ 111 ∷ 110 ∷ 103 ∷ 10 ∷ []
fault_text F.End = 116 ∷ 104 ∷ 101 ∷ 32 ∷ 108 ∷ 105 ∷ 115 ∷ 116 ∷ 32 ∷ 100 ∷ 111 ∷ 101 ∷ 115 ∷ 32 ∷ 110 ∷ 111 ∷ 116 ∷ 32 ∷ 101 ∷ 110 ∷ 100 ∷ 32 ∷ 119 ∷ 105 ∷ 116 ∷ 104 ∷ 32 ∷ 105 ∷ 116 ∷ 115 ∷ 32 ∷ 108 ∷ 97 ∷ 115 ∷ 116 ∷ 32 ∷ 108 ∷ 105 ∷ 110 ∷ 101 ∷ 10 ∷ []
fault_text F.Refusal = 116 ∷ 104 ∷ 101 ∷ 32 ∷ 114 ∷ 101 ∷ 102 ∷ 117 ∷ 115 ∷ 97 ∷ 108 ∷ 32 ∷ 100 ∷ 105 ∷ 102 ∷ 102 ∷ 101 ∷ 114 ∷ 115 ∷ 10 ∷ []
fault_text F.Place = 116 ∷ 104 ∷ 101 ∷ 32 ∷ 114 ∷ 101 ∷ 102 ∷ 117 ∷ 115 ∷ 97 ∷ 108 ∷ 39 ∷ 115 ∷ 32 ∷ 112 ∷ 108 ∷ 97 ∷ 99 ∷ 101 ∷ 32 ∷ 100 ∷ 105 ∷ 102 ∷ 102 ∷ 101 ∷ 114 ∷ 115 ∷ 10 ∷ []
fault_text F.Stop = 116 ∷ 104 ∷ 101 ∷ 32 ∷ 115 ∷ 116 ∷ 111 ∷ 112 ∷ 32 ∷ 100 ∷ 105 ∷ 102 ∷ 102 ∷ 101 ∷ 114 ∷ 115 ∷ 10 ∷ []
fault_text F.Detail = 116 ∷ 104 ∷ 101 ∷ 32 ∷ 100 ∷ 101 ∷ 116 ∷ 97 ∷ 105 ∷ 108 ∷ 32 ∷ 100 ∷ 105 ∷ 102 ∷ 102 ∷ 101 ∷ 114 ∷ 115 ∷ 10 ∷ []
fault_text F.Count = 116 ∷ 104 ∷ 101 ∷ 32 ∷ 99 ∷ 111 ∷ 117 ∷ 110 ∷ 116 ∷ 32 ∷ 111 ∷ 102 ∷ 32 ∷ 115 ∷ 116 ∷ 101 ∷ 112 ∷ 115 ∷ 32 ∷ 111 ∷ 114 ∷ 32 ∷ 98 ∷ 121 ∷ 116 ∷ 101 ∷ 115 ∷ 32 ∷ 100 ∷ 105 ∷ 102 ∷ 102 ∷ 101 ∷ 114 ∷ 115 ∷ 10 ∷ []
fault_text F.Empty = 116 ∷ 104 ∷ 101 ∷ 32 ∷ 99 ∷ 111 ∷ 117 ∷ 110 ∷ 116 ∷ 32 ∷ 111 ∷ 102 ∷ 32 ∷ 101 ∷ 109 ∷ 112 ∷ 116 ∷ 121 ∷ 32 ∷ 114 ∷ 101 ∷ 97 ∷ 100 ∷ 115 ∷ 32 ∷ 100 ∷ 105 ∷ 102 ∷ 102 ∷ 101 ∷ 114 ∷ 115 ∷ 10 ∷ []
fault_text F.Row = 116 ∷ 104 ∷ 101 ∷ 32 ∷ 114 ∷ 111 ∷ 119 ∷ 32 ∷ 100 ∷ 105 ∷ 102 ∷ 102 ∷ 101 ∷ 114 ∷ 115 ∷ 10 ∷ []
fault_text F.Cells = 116 ∷ 104 ∷ 101 ∷ 32 ∷ 99 ∷ 101 ∷ 108 ∷ 108 ∷ 115 ∷ 32 ∷ 100 ∷ 105 ∷ 102 ∷ 102 ∷ 101 ∷ 114 ∷ 10 ∷ []
fault_text F.Queue = 116 ∷ 104 ∷ 101 ∷ 32 ∷ 113 ∷ 117 ∷ 101 ∷ 117 ∷ 101 ∷ 32 ∷ 100 ∷ 105 ∷ 102 ∷ 102 ∷ 101 ∷ 114 ∷ 115 ∷ 10 ∷ []
fault_text F.Output = 116 ∷ 104 ∷ 101 ∷ 32 ∷ 111 ∷ 117 ∷ 116 ∷ 112 ∷ 117 ∷ 116 ∷ 32 ∷ 114 ∷ 101 ∷ 99 ∷ 111 ∷ 114 ∷ 100 ∷ 32 ∷ 100 ∷ 105 ∷ 102 ∷ 102 ∷ 101 ∷ 114 ∷ 115 ∷ 10 ∷ []
fault_text F.Buffer = 116 ∷ 104 ∷ 101 ∷ 32 ∷ 100 ∷ 114 ∷ 97 ∷ 105 ∷ 110 ∷ 32 ∷ 98 ∷ 117 ∷ 102 ∷ 102 ∷ 101 ∷ 114 ∷ 32 ∷ 100 ∷ 105 ∷ 102 ∷ 102 ∷ 101 ∷ 114 ∷ 115 ∷ 10 ∷ []

-- `case `
abbrev pub case_name : List ℕ
case_name = 99 ∷ 97 ∷ 115 ∷ 101 ∷ 32 ∷ []

-- `, line `
abbrev pub line_name : List ℕ
line_name = 44 ∷ 32 ∷ 108 ∷ 105 ∷ 110 ∷ 101 ∷ 32 ∷ []

-- `: `
abbrev pub colon : List ℕ
colon = 58 ∷ 32 ∷ []

-- ` cases, `
abbrev pub cases_name : List ℕ
cases_name = 32 ∷ 99 ∷ 97 ∷ 115 ∷ 101 ∷ 115 ∷ 44 ∷ 32 ∷ []

-- ` calls, 0 differ`
abbrev pub calls_name : List ℕ
calls_name = 32 ∷ 99 ∷ 97 ∷ 108 ∷ 108 ∷ 115 ∷ 44 ∷ 32 ∷ 48 ∷ 32 ∷ 100 ∷ 105 ∷ 102 ∷ 102 ∷ 101 ∷ 114 ∷ 10 ∷ []

-- Where the list is not met: the case, the line and what differs first.
abbrev pub difference_text : State → Fault → List ℕ
difference_text s f =
    case_name ++ (decimal s.cases ++ (line_name ++ (decimal s.lines ++ (colon ++ fault_text f))))

-- How many cases and calls the list held.
abbrev pub numbers_text : State → List ℕ
numbers_text s = decimal s.cases ++ (cases_name ++ (decimal s.calls ++ calls_name))

abbrev pub found_text : State → Option Fault → List ℕ
found_text s None = numbers_text s
found_text s (Some f) = difference_text s f

abbrev pub verdict_text : State → List ℕ
verdict_text s = found_text s s.fault
