-- The runner's file (Card 7): "The runner takes `start,pc,sp,sr` and then text of Card 1, loaded from cell 0", and which refusal a file gets. A text is a list of
-- bytes: 10 is a line end, 44 a comma, 45 a minus.
use Rattle.std.specs.Prelude.{Bool, true, cond, not, ◌&&◌, ℕ, zero, suc, ℤ, ltb, eqb, length, take, Option, Some, None, Result, Ok, Err}
use mathlib.Core.List.{List, [], ◌∷◌, ◌++◌, foldl}
use Rattle.definition.specs.declared.Counted.{Counted}
use Rattle.definition.specs.declared.answers.Refusal.{Refusal}
use Rattle.definition.specs.declared.answers.Refusal.TheVariants.{ImageLine, NumericLine}
use Rattle.definition.specs.declared.Done.{Done}
use Rattle.definition.specs.Answers.{number_of, place_of}
use Rattle.definition.specs.Calls.{Called, called}
use Rattle.expression.specs.Reader.{head, tail, front, past, is_digit}
use Rattle.expression.specs.Table.{is_inner, next_line}
use Rattle.assembly.specs.Assemble.{assemble_call}
use Rattle.lines.specs.declared.Reader.{Reader}
use Rattle.lines.specs.declared.Start.{Start}
use Rattle.source.specs.declared.Refused.{Refused}
use Rattle.source.specs.declared.Loaded.{Loaded}
use Rattle.lines.specs.Reader.{has_digits, opened, broken, within, following, start_line}

-- "A file over 32,768 bytes is 13 at the line where it passes them, or 12 if that is the start line": the byte that passes them reads as 0, which no line may
-- hold, and nothing behind it is looked at.
abbrev pub LIMIT : ℕ
LIMIT = 32768

unfoldable pub bounded : List ℕ → List ℕ
bounded file = cond (ltb LIMIT (length file)) (take LIMIT file ++ (0 ∷ [])) file

-- ---- "Lines count from the start line, which stays under 12."

-- The first line is read as it was; these are its bytes, without its end.
unfoldable pub start_end : Reader → Reader
start_end r = cond r.broken r (cond (has_digits r.field && eqb r.count 3) (start_line r) (broken r))

unfoldable pub start_read : List ℕ → Reader
start_read line = start_end (foldl within opened line)

abbrev pub first_line : List ℕ → List ℕ
first_line t = front is_inner t

unfoldable pub start_good : List ℕ → Bool
start_good t = eqb (head (past is_inner t)) 10 && not (start_read (first_line t)).broken

-- ---- "18 a line of four comma-parted decimal numbers, of any size, ended within that limit"

unfoldable pub after_minus : List ℕ → List ℕ
after_minus t = cond (eqb (head t) 45) (tail t) t

-- What stands behind a number, its minus included; nothing where there is none.
unfoldable pub after_number : List ℕ → List ℕ
after_number t = cond (is_digit (head (after_minus t))) (past is_digit (after_minus t)) []

-- Behind a number: so many more, each after a comma, and the line end.
unfoldable pub numeric_from : ℕ → List ℕ → Bool
numeric_from zero t = eqb (head t) 10
numeric_from (suc k) t = eqb (head t) 44 && numeric_from k (after_number (tail t))

abbrev pub is_numeric : List ℕ → Bool
is_numeric t = numeric_from 3 (after_number t)

-- The number of the line that the byte behind b stands in, where b stands in line k.
unfoldable pub line_after : ℕ → ℕ → ℕ
line_after b k = cond (eqb b 10) (following k) k

-- Whether such a line begins here; fresh where a line does.
unfoldable pub begins_numeric : Bool → List ℕ → Bool
begins_numeric fresh t = fresh && is_numeric t

-- The lowest such line, if there is one; the text stands in line k, at its start or not.
unfoldable pub numeric_line : ℕ → Bool → List ℕ → Option ℕ
numeric_line k fresh [] = None
numeric_line k fresh (b ∷ t) = cond (begins_numeric fresh (b ∷ t)) (Some k) (numeric_line (line_after b k) (eqb b 10) t)

abbrev pub lowest_numeric : List ℕ → Option ℕ
lowest_numeric t = numeric_line 1 true t

-- ---- which refusal a file gets

abbrev pub done : ℕ → ℕ → Done
done r p = record { refusal = r; place = p }

abbrev pub refused : Refusal → Refused
refused e = record { number = number_of e; place = place_of e }

-- The number and the place, 0 and 0 where nothing is refused.
abbrev pub done_of : {A : Type 0} → Result A Refused → Done
done_of (Ok _) = done 0 0
done_of (Err e) = done e.number e.place

-- "of 13 and 18 the lowest line counts, 18 on a tie": a is what the text is answered by the assembler, n a numeric line, both counted from the text's first
-- line.
unfoldable pub is18 : Counted → ℕ → Bool
is18 a n = ltb 0 n && not (eqb a.refusal 13 && ltb a.place n)

-- "after 12 in this order": 13 or 18, then 14, then 15. "Lines count from the start line." n is the lowest numeric line, 0 where there is none.
unfoldable pub judged : Counted → ℕ → Done
judged a n = cond (is18 a n) (done 18 (following n)) (cond (eqb a.refusal 0) (done 0 0) (done a.refusal (following a.place)))

-- The assembler's answer, at a line of the file.
abbrev pub assembler_answer : Counted → Result (Unit {0}) Refused
assembler_answer a = cond (eqb a.refusal 0) (Ok tt) (Err (record { number = a.refusal; place = following a.place }))

-- The same as a Result, of the lowest numeric line, if there is one.
unfoldable pub text_judged : Counted → Option ℕ → Result (Unit {0}) Refused
text_judged a None = assembler_answer a
text_judged a (Some n) = cond (is18 a n) (Err (refused (NumericLine (following n)))) (assembler_answer a)

-- What the start line says is told of a file that is refused, too.
abbrev pub loaded : Result (Unit {0}) Refused → Start → Loaded
loaded d s = record { start = s; outcome = d }

-- A text within the limit, loaded from cell 0.
unfoldable pub loading : List ℕ → List ℤ → Called Loaded (List ℤ)
loading t cells =
    let s = (start_read (first_line t)).start in
    let m = assemble_call (next_line t) cells in
    cond (start_good t) (called (loaded (text_judged m.answer (lowest_numeric (next_line t))) s) m.left) (called (loaded (Err (refused (ImageLine 1))) s) cells)
