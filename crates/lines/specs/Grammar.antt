-- The numeric lines that the runner took (document 01, "The runner"), written without the reader. A text is a list of bytes: 44 is a comma, 45 a
-- minus, 10 a line end.
use Rattle.std.specs.Prelude.{◌≡◌, true, List, [], ◌∷◌, ◌++◌, ℕ, suc, ◌≤◌, ℤ, pos, neg_ℤ, nat_abs, replicate}
use Rattle.definition.specs.Word.{address_of}
use Rattle.definition.specs.Memory.{cell, put_cell}
use Rattle.definition.specs.Encoding.{sound, is_address}
use Rattle.definition.specs.Calls.{is_below}
pub use Rattle.decimal.specs.Decimal.{Digits}

-- "decimal digits after an optional minus, within 64 bits"
pub data Numeral : List ℕ → ℤ → Type 0 where
  plus : {s : List ℕ} {v : ℕ} → Digits s v → v ≤ 9223372036854775807 → Numeral s (pos v)
  minus : {s : List ℕ} {v : ℕ} → Digits s v → v ≤ 9223372036854775808 → Numeral (45 ∷ s) (neg_ℤ (pos v))

-- "start,"
abbrev pub word : List ℕ
word = 115 ∷ 116 ∷ 97 ∷ 114 ∷ 116 ∷ 44 ∷ []

-- "`start,pc,sp,sr`", "pc and sp must be addresses"
pub data StartLine : List ℕ → ℤ → ℤ → ℤ → Type 0 where
  start_line : {a b c : List ℕ} {pc sp sr : ℤ} → Numeral a pc → Numeral b sp → Numeral c sr → is_address (address_of pc) ≡ true → is_address (address_of sp) ≡ true → StartLine (word ++ ((a ++ (44 ∷ [])) ++ ((b ++ (44 ∷ [])) ++ (c ++ (10 ∷ []))))) pc sp sr

-- "`address,tag,first,second`", "addresses below 2,048", "each cell sound": the line, its address and the cell's three numbers
pub data CellLine : List ℕ → ℤ → ℤ → ℤ → ℤ → Type 0 where
  cell_line : {a b c d : List ℕ} {n t f s : ℤ} → Numeral a n → Numeral b t → Numeral c f → Numeral d s → is_below 2048 n ≡ true → sound (cell t f s) ≡ true → CellLine ((a ++ (44 ∷ [])) ++ ((b ++ (44 ∷ [])) ++ ((c ++ (44 ∷ [])) ++ (d ++ (10 ∷ []))))) n t f s

-- So many lines of cells, the cells before them and after: "a later line over an earlier one".
pub data CellLines : ℕ → List ℕ → List ℤ → List ℤ → Type 0 where
  none : {l : List ℤ} → CellLines 0 [] l l
  more : {k : ℕ} {u v : List ℕ} {l m : List ℤ} {n t f s : ℤ} → CellLines k u l m → CellLine v n t f s → CellLines (suc k) (u ++ v) l (put_cell m (nat_abs n) (cell t f s))

-- A whole text: its lines' number, pc, sp, sr and the cells, which were empty.
pub data Image : ℕ → List ℕ → ℤ → ℤ → ℤ → List ℤ → Type 0 where
  image : {k : ℕ} {u v : List ℕ} {pc sp sr : ℤ} {m : List ℤ} → StartLine u pc sp sr → CellLines k v (replicate 6144 (pos 0)) m → Image (suc k) (u ++ v) pc sp sr m

-- The first k lines of a text, in order.
pub data Front : ℕ → List ℕ → Type 0 where
  nothing : Front 0 []
  lines : {k : ℕ} {p : List ℕ} {pc sp sr : ℤ} {m : List ℤ} → Image k p pc sp sr m → Front k p

-- A line that may stand after k lines.
pub data Good : ℕ → List ℕ → Type 0 where
  first : {l : List ℕ} {pc sp sr : ℤ} → StartLine l pc sp sr → Good 0 l
  later : {k : ℕ} {l : List ℕ} {n t f s : ℤ} → CellLine l n t f s → Good (suc k) l

-- Line k + 1 is the lowest that breaks the form: k lines stand in order before it, what is left does not begin with a line in order, and
-- there is something left or no line at all ("Empty input breaks line 1").
pub record Breaks (k : ℕ) (s : List ℕ) : Type 0 where
  pub p : List ℕ
  pub q : List ℕ
  pub cut : s ≡ p ++ q
  pub front : Front k p
  pub left : q ≡ [] → k ≡ 0
  pub none : (l v : List ℕ) → q ≡ l ++ v → Good k l → ⊥
