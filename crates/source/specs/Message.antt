-- What a person reads on standard error of a file that is refused: the line, what was read, what was expected. A text is a list of bytes: 10 is a line end.
use Rattle.std.specs.Prelude.{cond, List, [], ◌∷◌, ◌++◌, ℕ, zero, suc, ◌-◌, eqb}
use Rattle.expression.specs.Reader.{front}
use Rattle.expression.specs.Table.{is_inner, next_line}
use Rattle.printing.specs.Decimal.{decimal}

-- What stands from the k-th line on, from 0.
unfoldable pub lines_from : ℕ → List ℕ → List ℕ
lines_from zero text = text
lines_from (suc k) text = lines_from k (next_line text)

-- A line, from 1, without its end.
unfoldable pub line_at : ℕ → List ℕ → List ℕ
line_at place text = front is_inner (lines_from (place - 1) text)

-- `line `, `: read was: `, `: `
abbrev pub line_name : List ℕ
line_name = 108 ∷ 105 ∷ 110 ∷ 101 ∷ 32 ∷ []

abbrev pub read_name : List ℕ
read_name = 58 ∷ 32 ∷ 114 ∷ 101 ∷ 97 ∷ 100 ∷ 32 ∷ 119 ∷ 97 ∷ 115 ∷ 58 ∷ 32 ∷ []

abbrev pub colon_name : List ℕ
colon_name = 58 ∷ 32 ∷ []

-- 12: `expected is start,pc,sp,sr: decimal numbers within 64 bits and no spaces, pc and sp from 0 to 4294967295`
unfoldable pub start_text : List ℕ
start_text =
    101 ∷ 120 ∷ 112 ∷ 101 ∷ 99 ∷ 116 ∷ 101 ∷ 100 ∷ 32 ∷ 105 ∷ 115 ∷ 32 ∷ 115 ∷ 116 ∷ 97 ∷ 114 ∷ 116 ∷ 44 ∷ 112 ∷ 99 ∷ 44 ∷ 115 ∷ 112 ∷ 44 ∷ 115 ∷ 114 ∷ 58 ∷ 32 ∷ 100 ∷ 101 ∷ 99 ∷ 105 ∷ 109 ∷ 97 ∷ 108 ∷ 32 ∷ 110 ∷ 117 ∷ 109 ∷ 98 ∷ 101 ∷ 114 ∷ 115 ∷ 32 ∷ 119 ∷ 105 ∷ 116 ∷ 104 ∷ 105 ∷ 110 ∷ 32 ∷ 54 ∷ 52 ∷ 32 ∷ 98 ∷ 105 ∷ 116 ∷ 115 ∷ 32 ∷ 97 ∷ 110 ∷ 100 ∷ 32 ∷ 110 ∷ 111 ∷ 32 ∷ 115 ∷ 112 ∷ 97 ∷ 99 ∷ 101 ∷ 115 ∷ 44 ∷ 32 ∷ 112 ∷ 99 ∷ 32 ∷ 97 ∷ 110 ∷ 100 ∷ 32 ∷ 115 ∷ 112 ∷ 32 ∷ 102 ∷ 114 ∷ 111 ∷ 109 ∷ 32 ∷ 48 ∷ 32 ∷ 116 ∷ 111 ∷ 32 ∷ 52 ∷ 50 ∷ 57 ∷ 52 ∷ 57 ∷ 54 ∷ 55 ∷ 50 ∷ 57 ∷ 53 ∷ 10 ∷ []

-- 13: `expected is [label:] mnemonic operands, or .word value, as the grammar has it: brackets at most 32 deep, 2048 lines, 32768 bytes with the start line`
unfoldable pub grammar_text : List ℕ
grammar_text =
    101 ∷ 120 ∷ 112 ∷ 101 ∷ 99 ∷ 116 ∷ 101 ∷ 100 ∷ 32 ∷ 105 ∷ 115 ∷ 32 ∷ 91 ∷ 108 ∷ 97 ∷ 98 ∷ 101 ∷ 108 ∷ 58 ∷ 93 ∷ 32 ∷ 109 ∷ 110 ∷ 101 ∷ 109 ∷ 111 ∷ 110 ∷ 105 ∷ 99 ∷ 32 ∷ 111 ∷ 112 ∷ 101 ∷ 114 ∷ 97 ∷ 110 ∷ 100 ∷ 115 ∷ 44 ∷ 32 ∷ 111 ∷ 114 ∷ 32 ∷ 46 ∷ 119 ∷ 111 ∷ 114 ∷ 100 ∷ 32 ∷ 118 ∷ 97 ∷ 108 ∷ 117 ∷ 101 ∷ 44 ∷ 32 ∷ 97 ∷ 115 ∷ 32 ∷ 116 ∷ 104 ∷ 101 ∷ 32 ∷ 103 ∷ 114 ∷ 97 ∷ 109 ∷ 109 ∷ 97 ∷ 114 ∷ 32 ∷ 104 ∷ 97 ∷ 115 ∷ 32 ∷ 105 ∷ 116 ∷ 58 ∷ 32 ∷ 98 ∷ 114 ∷ 97 ∷ 99 ∷ 107 ∷ 101 ∷ 116 ∷ 115 ∷ 32 ∷ 97 ∷ 116 ∷ 32 ∷ 109 ∷ 111 ∷ 115 ∷ 116 ∷ 32 ∷ 51 ∷ 50 ∷ 32 ∷ 100 ∷ 101 ∷ 101 ∷ 112 ∷ 44 ∷ 32 ∷ 50 ∷ 48 ∷ 52 ∷ 56 ∷ 32 ∷ 108 ∷ 105 ∷ 110 ∷ 101 ∷ 115 ∷ 44 ∷ 32 ∷ 51 ∷ 50 ∷ 55 ∷ 54 ∷ 56 ∷ 32 ∷ 98 ∷ 121 ∷ 116 ∷ 101 ∷ 115 ∷ 32 ∷ 119 ∷ 105 ∷ 116 ∷ 104 ∷ 32 ∷ 116 ∷ 104 ∷ 101 ∷ 32 ∷ 115 ∷ 116 ∷ 97 ∷ 114 ∷ 116 ∷ 32 ∷ 108 ∷ 105 ∷ 110 ∷ 101 ∷ 10 ∷ []

-- 14: `expected is a label that one line sets and no more, of at most 256`
unfoldable pub label_text : List ℕ
label_text =
    101 ∷ 120 ∷ 112 ∷ 101 ∷ 99 ∷ 116 ∷ 101 ∷ 100 ∷ 32 ∷ 105 ∷ 115 ∷ 32 ∷ 97 ∷ 32 ∷ 108 ∷ 97 ∷ 98 ∷ 101 ∷ 108 ∷ 32 ∷ 116 ∷ 104 ∷ 97 ∷ 116 ∷ 32 ∷ 111 ∷ 110 ∷ 101 ∷ 32 ∷ 108 ∷ 105 ∷ 110 ∷ 101 ∷ 32 ∷ 115 ∷ 101 ∷ 116 ∷ 115 ∷ 32 ∷ 97 ∷ 110 ∷ 100 ∷ 32 ∷ 110 ∷ 111 ∷ 32 ∷ 109 ∷ 111 ∷ 114 ∷ 101 ∷ 44 ∷ 32 ∷ 111 ∷ 102 ∷ 32 ∷ 97 ∷ 116 ∷ 32 ∷ 109 ∷ 111 ∷ 115 ∷ 116 ∷ 32 ∷ 50 ∷ 53 ∷ 54 ∷ 10 ∷ []

-- 18: `expected is a program written as text: ./listing writes an image of such lines as one`
unfoldable pub numbers_text : List ℕ
numbers_text =
    101 ∷ 120 ∷ 112 ∷ 101 ∷ 99 ∷ 116 ∷ 101 ∷ 100 ∷ 32 ∷ 105 ∷ 115 ∷ 32 ∷ 97 ∷ 32 ∷ 112 ∷ 114 ∷ 111 ∷ 103 ∷ 114 ∷ 97 ∷ 109 ∷ 32 ∷ 119 ∷ 114 ∷ 105 ∷ 116 ∷ 116 ∷ 101 ∷ 110 ∷ 32 ∷ 97 ∷ 115 ∷ 32 ∷ 116 ∷ 101 ∷ 120 ∷ 116 ∷ 58 ∷ 32 ∷ 46 ∷ 47 ∷ 108 ∷ 105 ∷ 115 ∷ 116 ∷ 105 ∷ 110 ∷ 103 ∷ 32 ∷ 119 ∷ 114 ∷ 105 ∷ 116 ∷ 101 ∷ 115 ∷ 32 ∷ 97 ∷ 110 ∷ 32 ∷ 105 ∷ 109 ∷ 97 ∷ 103 ∷ 101 ∷ 32 ∷ 111 ∷ 102 ∷ 32 ∷ 115 ∷ 117 ∷ 99 ∷ 104 ∷ 32 ∷ 108 ∷ 105 ∷ 110 ∷ 101 ∷ 115 ∷ 32 ∷ 97 ∷ 115 ∷ 32 ∷ 111 ∷ 110 ∷ 101 ∷ 10 ∷ []

-- 15: `expected are values within 64 bits, and in square brackets an address, 0 to 4294967295`
unfoldable pub value_text : List ℕ
value_text =
    101 ∷ 120 ∷ 112 ∷ 101 ∷ 99 ∷ 116 ∷ 101 ∷ 100 ∷ 32 ∷ 97 ∷ 114 ∷ 101 ∷ 32 ∷ 118 ∷ 97 ∷ 108 ∷ 117 ∷ 101 ∷ 115 ∷ 32 ∷ 119 ∷ 105 ∷ 116 ∷ 104 ∷ 105 ∷ 110 ∷ 32 ∷ 54 ∷ 52 ∷ 32 ∷ 98 ∷ 105 ∷ 116 ∷ 115 ∷ 44 ∷ 32 ∷ 97 ∷ 110 ∷ 100 ∷ 32 ∷ 105 ∷ 110 ∷ 32 ∷ 115 ∷ 113 ∷ 117 ∷ 97 ∷ 114 ∷ 101 ∷ 32 ∷ 98 ∷ 114 ∷ 97 ∷ 99 ∷ 107 ∷ 101 ∷ 116 ∷ 115 ∷ 32 ∷ 97 ∷ 110 ∷ 32 ∷ 97 ∷ 100 ∷ 100 ∷ 114 ∷ 101 ∷ 115 ∷ 115 ∷ 44 ∷ 32 ∷ 48 ∷ 32 ∷ 116 ∷ 111 ∷ 32 ∷ 52 ∷ 50 ∷ 57 ∷ 52 ∷ 57 ∷ 54 ∷ 55 ∷ 50 ∷ 57 ∷ 53 ∷ 10 ∷ []

unfoldable pub expected_text : ℕ → List ℕ
expected_text number =
    cond
    (eqb number 12)
    start_text
    (cond (eqb number 13) grammar_text (cond (eqb number 14) label_text (cond (eqb number 18) numbers_text value_text)))

-- `line N`
unfoldable pub number_text : ℕ → List ℕ
number_text place = line_name ++ decimal place

-- "line, what was read, what was expected"
unfoldable pub message_text : List ℕ → ℕ → ℕ → List ℕ
message_text text number place =
    number_text place ++ (read_name ++ (line_at place text ++ ((10 ∷ []) ++ (number_text place ++ (colon_name ++ expected_text number)))))
