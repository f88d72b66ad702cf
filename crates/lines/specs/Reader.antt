-- The reader of numeric lines, as a fold over the bytes of the text.
use Rattle.std.specs.Prelude.{Bool, true, false, cond, ◌&&◌, ◌||◌, ℕ, ◌+◌, ◌*◌, ◌-◌, ℤ, pos, nat_abs, get_or, replicate, ltb, leb, eqb, Option, Some, None, is_some, unwrap_or}
use mathlib.Core.List.{List, [], ◌∷◌, ◌++◌, foldl}
use Rattle.definition.specs.declared.Cell.{Cell}
use Rattle.definition.specs.Word.{address_of}
use Rattle.definition.specs.Memory.{cell, put_cell}
use Rattle.definition.specs.Encoding.{sound, is_address}
use Rattle.definition.specs.Calls.{is_below}
unfoldable pub use Rattle.decimal.specs.Decimal.{value_of}
pub use Rattle.decimal.specs.Decimal.{limit}
use Rattle.lines.specs.declared.Field.{Field}
use Rattle.lines.specs.declared.Reader.{Reader}
pub use Rattle.lines.specs.declared.State.{State}

-- Nothing of a field yet.
abbrev pub no_field : Field
no_field = record { minus = false; magnitude = None }

-- Has it a digit, and what its digits say: 0 where there are none.
abbrev pub has_digits : Field → Bool
has_digits f = is_some f.magnitude

abbrev pub size_of : Field → ℕ
size_of f = unwrap_or f.magnitude 0

-- Before the first byte; the first line's first field is the word `start`.
abbrev pub opened : Reader
opened =
    record { line = 1; broken = false; opening = 0; count = 1; last = record { x = pos 0; y = pos 0; z = pos 0 }; field = no_field; start = record { pc = pos 0; sp = pos 0; sr = pos 0 } }

abbrev pub broken : Reader → Reader
broken r =
    record { line = r.line; broken = true; opening = r.opening; count = r.count; last = r.last; field = r.field; start = r.start }

abbrev pub with_field : Reader → Field → Reader
with_field r f =
    record { line = r.line; broken = r.broken; opening = r.opening; count = r.count; last = r.last; field = f; start = r.start }

-- "start,"
abbrev pub letters : List ℕ
letters = 115 ∷ 116 ∷ 97 ∷ 114 ∷ 116 ∷ 44 ∷ []

unfoldable pub letter : ℕ → ℕ
letter i = get_or letters i 44

unfoldable pub opening_byte : Reader → ℕ → Reader
opening_byte r b =
    cond
    (eqb (letter r.opening) b)
    (record { line = r.line; broken = r.broken; opening = r.opening + 1; count = r.count; last = r.last; field = r.field; start = r.start })
    (broken r)

-- "decimal digits [...], leading zeros allowed": the digit d.
unfoldable pub digit : Reader → ℕ → Reader
digit r d =
    let v = size_of r.field * 10 + d in
    cond (leb v (limit r.field.minus)) (with_field r (record { minus = r.field.minus; magnitude = Some v })) (broken r)

unfoldable pub comma : Reader → Reader
comma r =
    cond
    (has_digits r.field && ltb r.count 3)
    (record { line = r.line; broken = r.broken; opening = r.opening; count = r.count + 1; last = record { x = r.last.y; y = r.last.z; z = value_of r.field.minus (size_of r.field) }; field = no_field; start = r.start })
    (broken r)

-- "after an optional minus"
unfoldable pub minus : Reader → Reader
minus r = cond (r.field.minus || has_digits r.field) (broken r) (with_field r (record { minus = true; magnitude = None }))

-- A byte after `start,` that is no line end: 44 is a comma, 45 a minus, 48 to 57 the digits.
unfoldable pub plain : Reader → ℕ → Reader
plain r b =
    cond
    (ltb b 48)
    (cond (eqb b 44) (comma r) (cond (eqb b 45) (minus r) (broken r)))
    (cond (ltb b 58) (digit r (b - 48)) (broken r))

-- A byte that is no line end.
unfoldable pub within : Reader → ℕ → Reader
within r b = cond r.broken r (cond (ltb r.opening 6) (opening_byte r b) (plain r b))

-- The number of the next line. A line past the 2^64th counts as that one; no file is so long.
unfoldable pub following : ℕ → ℕ
following n = cond (ltb n 18446744073709551615) (n + 1) n

unfoldable pub next : Reader → Reader
next r =
    record { line = following r.line; broken = r.broken; opening = r.opening; count = 0; last = r.last; field = no_field; start = r.start }

abbrev pub started : Reader → ℤ → ℤ → ℤ → Reader
started r pc sp sr =
    record { line = r.line; broken = r.broken; opening = r.opening; count = r.count; last = r.last; field = r.field; start = record { pc = pc; sp = sp; sr = sr } }

-- "pc and sp must be addresses"
unfoldable pub start_line : Reader → Reader
start_line r =
    cond
    (is_address (address_of r.last.y) && is_address (address_of r.last.z))
    (started (next r) r.last.y r.last.z (value_of r.field.minus (size_of r.field)))
    (broken r)

-- The reader, and the cells that it wrote.
abbrev pub state : Reader → List ℤ → State
state r cells = record { reader = r; cells = cells }

-- The cell that a whole line gives.
abbrev pub line_cell : Reader → Cell
line_cell r = cell r.last.y r.last.z (value_of r.field.minus (size_of r.field))

-- "a later line over an earlier one, addresses below 2,048", "each cell sound"
unfoldable pub cell_line : State → State
cell_line s =
    let r = s.reader in
    cond
    (is_below 2048 r.last.x && sound (line_cell r))
    (state (next r) (put_cell s.cells (nat_abs r.last.x) (line_cell r)))
    (state (broken r) s.cells)

-- "each with a line end"
unfoldable pub line_end : State → State
line_end s =
    let r = s.reader in
    cond
    r.broken
    s
    (cond
    (has_digits r.field && eqb r.count 3)
    (cond (eqb r.line 1) (state (start_line r) s.cells) (cell_line s))
    (state (broken r) s.cells))

unfoldable pub step : State → ℕ → State
step s b = cond (eqb b 10) (line_end s) (state (within s.reader b) s.cells)

-- At the end of the text: none where it is an image, else the number of the line that breaks the form.
unfoldable pub broken_line : Reader → Option ℕ
broken_line r = cond (r.broken || ((r.field.minus || has_digits r.field) || ltb 0 r.count)) (Some r.line) None

-- 2,048 empty cells.
abbrev pub empty_cells : List ℤ
empty_cells = replicate 6144 (pos 0)

-- Before the first byte.
abbrev pub unread : State
unread = state opened empty_cells

-- What is made of a whole text.
unfoldable pub read_text : List ℕ → State
read_text text = foldl step unread text

-- A text in parts, and the parts read one after the other, each from where the last one left.
unfoldable pub joined : List (List ℕ) → List ℕ
joined [] = []
joined (p ∷ ps) = p ++ joined ps

unfoldable pub read_parts : State → List (List ℕ) → State
read_parts s [] = s
read_parts s (p ∷ ps) = read_parts (foldl step s p) ps
