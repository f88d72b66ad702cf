-- "Each line is five decimal numbers parted by commas and ended by a line feed": what each byte makes of what was read of a line. 44 is the
-- comma, 45 the minus, 10 the line feed, 48 to 57 are the digits.
use Rattle.std.specs.Prelude.{Bool, true, false, cond, not, ◌&&◌, ◌||◌, ℕ, ◌+◌, ◌-◌, ℤ, pos, ltb, leb, eqb, is_some, is_none, Option, Some, None, Result, Ok, Err}
use Rattle.decimal.specs.Decimal.{cap_step, limit}
use Rattle.decimal.specs.Decimal as D
use Rattle.recorded.specs.declared.number.Number.{Number}
use Rattle.recorded.specs.declared.reader.Broken.{Broken}
use Rattle.recorded.specs.declared.reader.Line.{Line}
use Rattle.recorded.specs.declared.reader.Reader.{Reader}

-- Nothing of a number yet.
abbrev pub no_number : Number
no_number = record { minus = false; size = None }

abbrev pub number : Bool → ℕ → Number
number m n = record { minus = m; size = Some n }

-- "after an optional minus"
abbrev pub minus_read : Number → Option Number
minus_read n = cond (n.minus || is_some n.size) None (Some (record { minus = true; size = None }))

-- "digits [...] without leading zeros"
abbrev pub digit_after : Bool → Option ℕ → ℕ → Option Number
digit_after m None d = Some (number m (cap_step 0 d))
digit_after m (Some n) d = cond (eqb n 0) None (Some (number m (cap_step n d)))

abbrev pub digit_read : Number → ℕ → Option Number
digit_read n d = digit_after n.minus n.size d

abbrev pub grown : Number → ℕ → Option Number
grown n b =
    cond (eqb b 45) (minus_read n) (cond (ltb b 48) None (cond (ltb 57 b) None (digit_read n (b - 48))))

-- "within signed 64 bits", and 0 has no minus.
abbrev pub value_at : Bool → Option ℕ → Option ℤ
value_at m None = None
value_at m (Some n) = cond (leb n (limit m) && not (m && eqb n 0)) (Some (D.value_of m n)) None

abbrev pub value_of : Number → Option ℤ
value_of n = value_at n.minus n.size

abbrev pub line : ℤ → ℤ → ℤ → ℤ → ℤ → Line
line k a b c d = record { kind = k; a = a; b = b; c = c; d = d }

-- A number more, behind the others: of five the first is the kind.
abbrev pub pushed : Line → ℤ → Line
pushed l z = line l.a l.b l.c l.d z

abbrev pub reader : Line → ℕ → Number → Reader
reader l k n = record { line = l; whole = k; number = n }

-- At the start of a line.
abbrev pub no_line : Reader
no_line = reader (line (pos 0) (pos 0) (pos 0) (pos 0) (pos 0)) 0 no_number

abbrev pub broken : {A : Type 0} → Result A Broken
broken = Err (record {})

-- What goes on from a number that is one.
abbrev pub if_number : {A B : Type 0} → Option A → (A → Result B Broken) → Result B Broken
if_number None f = broken
if_number (Some n) f = f n

-- The number goes on.
abbrev pub number_on : Reader → ℕ → Result Reader Broken
number_on r b = if_number (grown r.number b) (λ n. Ok (reader r.line r.whole n))

-- The number ends at a comma: it is not the fifth.
abbrev pub comma : Reader → Result Reader Broken
comma r =
    if_number (value_of r.number) (λ z. cond (ltb r.whole 4) (Ok (reader (pushed r.line z) (r.whole + 1) no_number)) broken)

-- The number ends at the line's end: it is the fifth.
abbrev pub line_end : Reader → Result Line Broken
line_end r = if_number (value_of r.number) (λ z. cond (eqb r.whole 4) (Ok (pushed r.line z)) broken)

-- What is read after a byte, and the line that it ends. After a line, and after one that is broken, nothing is.
abbrev pub on : Result Reader Broken → Reader × Result (Option Line) Broken
on (Ok r) = (r, Ok None)
on (Err e) = (no_line, Err e)

abbrev pub ended : Result Line Broken → Reader × Result (Option Line) Broken
ended (Ok l) = (no_line, Ok (Some l))
ended (Err e) = (no_line, Err e)

-- The line with one byte more.
abbrev pub fed : Reader → ℕ → Reader × Result (Option Line) Broken
fed r b = cond (eqb b 10) (ended (line_end r)) (on (cond (eqb b 44) (comma r) (number_on r b)))

-- Whether nothing was read of a line.
abbrev pub is_at_start : Reader → Bool
is_at_start r = (eqb r.whole 0 && not r.number.minus) && is_none r.number.size
