-- What a caller may rely on, as statements.
use Rattle.std.specs.Prelude.{◌≡◌, Bool, true, false, ◌&&◌, List, [], ◌∷◌, ◌++◌, map, reverse, ℕ, suc, ◌≤◌, ◌<◌, length, take}
use Rattle.std.proofs.Math.Option.{Option}
use Rattle.definition.specs.declared.Cell.{Cell}
use Rattle.definition.specs.Encoding.{sound}
use Rattle.expression.specs.declared.Value.{Value}
use Rattle.expression.specs.Grammar.{Expr}
use Rattle.assembly.specs.Grammar.{Line, Row, Rows}
use Rattle.assembly.specs.Assemble.{place_in, line_values, labels_of, wrong_labels, wrong_values, cells, refuses, assemble}

unfoldable pub all_sound : List Cell → Bool
all_sound [] = true
all_sound (v ∷ vs) = sound v && all_sound vs

-- "each text has one reading"
abbrev pub OneReading : Type 0
OneReading = (t : List ℕ) (ls ms : List (Line Expr)) → Rows 32 t ls → Rows 32 t ms → ls ≡ ms

-- "Depth, room, 14 and 15 aside, the text accepted is exactly that of a grammar written without the reader": a text is refused by 13 just where it
-- has no reading, or one of more lines than there is room for.
abbrev pub Refused13 : Type 0
Refused13 =
    (room : ℕ) (t : List ℕ) (k : ℕ) → assemble room t ≡ refuses 13 k → (ls : List (Line Expr)) → Rows 32 t ls → length ls ≤ room → ⊥

abbrev pub Accepted : Type 0
Accepted = (room : ℕ) (t : List ℕ) (vs : List Cell) → assemble room t ≡ cells vs → (ls : List (Line Expr)) × (Rows 32 t ls × (length ls ≤ room))

-- Each cell made is sound.
abbrev pub CellsSound : Type 0
CellsSound = (room : ℕ) (t : List ℕ) (vs : List Cell) → assemble room t ≡ cells vs → all_sound vs ≡ true

-- It makes no more cells than there is room for.
abbrev pub CellsFit : Type 0
CellsFit = (room : ℕ) (t : List ℕ) (vs : List Cell) → assemble room t ≡ cells vs → length vs ≤ room

-- ---- "after 12 in this order, each with its lowest line", said without the search. Lines are numbered from 0 here and from 1 in an answer.

-- The line that stands at a number.
pub data Stands : List (Line Value) → ℕ → Line Value → Type 0 where
  here : {l : Line Value} {ls : List (Line Value)} → Stands (l ∷ ls) 0 l
  later : {l m : Line Value} {ls : List (Line Value)} {k : ℕ} → Stands ls k l → Stands (m ∷ ls) (suc k) l

-- The line at a number fails a test, which also sees the labels of the lines before it, the last one first; and it does not.
abbrev pub Fault : (List (Option (List ℕ)) → Line Value → Bool) → List (Line Value) → ℕ → Type 0
Fault p ls k = (l : Line Value) × (Stands ls k l × (p (reverse (take k (labels_of ls))) l ≡ true))

abbrev pub NoFault : (List (Option (List ℕ)) → Line Value → Bool) → List (Line Value) → ℕ → Type 0
NoFault p ls k = (l : Line Value) → Stands ls k l → p (reverse (take k (labels_of ls))) l ≡ false

-- The line of an answer has the fault, and no lower line has it.
pub record Lowest (p : List (Option (List ℕ)) → Line Value → Bool) (ls : List (Line Value)) (n : ℕ) : Type 0 where
  pub k : ℕ
  pub numbered : n ≡ suc k
  pub fault : Fault p ls k
  pub below : (j : ℕ) → j < k → NoFault p ls j

-- The lines of a reading, with their values.
abbrev pub valued : List (Line Expr) → List (Line Value)
valued ls = map (line_values (place_in 0 (labels_of ls))) ls

-- All lines are in order and have room: none has 13.
abbrev pub Whole : ℕ → List ℕ → List (Line Expr) → Type 0
Whole room t ls = Rows 32 t ls × (length ls ≤ room)

-- The k lines in front are in order and have room; where one more stands behind them, there is no room for it.
pub record Lowest13 (room : ℕ) (t : List ℕ) (n : ℕ) : Type 0 where
  pub k : ℕ
  pub numbered : n ≡ suc k
  pub front : List ℕ
  pub rest : List ℕ
  pub cut : t ≡ front ++ rest
  pub lines : List (Line Expr)
  pub count : length lines ≡ k
  pub before : Whole room front lines
  pub some : 0 < length rest
  pub fault : (s u : List ℕ) (l : Line Expr) → rest ≡ s ++ u → Row 32 s l → k ≡ room

abbrev pub LowestOf13 : Type 0
LowestOf13 = (room : ℕ) (t : List ℕ) (n : ℕ) → assemble room t ≡ refuses 13 n → Lowest13 room t n

abbrev pub LowestOf14 : Type 0
LowestOf14 =
    (room : ℕ) (t : List ℕ) (n : ℕ) → assemble room t ≡ refuses 14 n → (ls : List (Line Expr)) × (Whole room t ls × Lowest wrong_labels (valued ls) n)

abbrev pub LowestOf15 : Type 0
LowestOf15 =
    (room : ℕ) (t : List ℕ) (n : ℕ) → assemble room t ≡ refuses 15 n → (ls : List (Line Expr)) × (Whole room t ls × ((j : ℕ) → NoFault wrong_labels (valued ls) j) × Lowest wrong_values (valued ls) n)
