-- What becomes of a text: the cells, or a refusal: "13 line outside the grammar, round brackets over 32 deep, or past the lent image; 14 label
-- missing, set again or beyond 256; 15 value out of range; after 12 in this order, each with its lowest line".
use Rattle.std.specs.Prelude.{Bool, false, cond, not, ◌||◌, List, [], ◌∷◌, map, ℕ, suc, ◌%◌, ℤ, pos, length, leb, eqb}
use Rattle.std.proofs.Math.Option.{Option, some, none}
use Rattle.definition.specs.declared.Cell.{Cell}
use Rattle.definition.specs.declared.Counted.{Counted}
use Rattle.definition.specs.Word.{address_of}
use Rattle.definition.specs.Memory.{cell, word, cell_count, put_cell}
use Rattle.definition.specs.Encoding.{tag_of, is_address}
use Rattle.definition.specs.Calls.{Called, called}
use Rattle.expression.specs.declared.Value.{Value}
use Rattle.expression.specs.Grammar.{Expr}
use Rattle.expression.specs.Reader.{same, trees}
use Rattle.expression.specs.Values.{eval}
use Rattle.assembly.specs.Grammar.{Arg, None, Imm, Reg, Dir, Ind, Idx, mode, Body, Word, Code, Line, line}
use Rattle.assembly.specs.Reader.{Text, lines, broken, rows}

-- ---- labels and values

unfoldable pub sets_label : List ℕ → Option (List ℕ) → Bool
sets_label n none = false
sets_label n (some m) = same m n

-- "A label means its cell's place in the image, from 0": of the lines numbered from k, the first that sets it.
unfoldable pub place_in : ℕ → List (Option (List ℕ)) → List ℕ → Option ℕ
place_in k [] n = none
place_in k (l ∷ ls) n = cond (sets_label n l) (some k) (place_in (suc k) ls n)

unfoldable pub arg_of : {X Y : Type 0} → (X → Y) → Arg X → Arg Y
arg_of f None = None
arg_of f (Imm x) = Imm (f x)
arg_of f (Reg r) = Reg r
arg_of f (Dir x) = Dir (f x)
arg_of f (Ind r) = Ind r
arg_of f (Idx r x) = Idx r (f x)

unfoldable pub body_of : {X Y : Type 0} → (X → Y) → Body X → Body Y
body_of f (Word x) = Word (f x)
body_of f (Code o x y) = Code o (arg_of f x) (arg_of f y)

-- A line with its values in place of its expressions.
abbrev pub line_values : (List ℕ → Option ℕ) → Line Expr → Line Value
line_values p l = line l.label (body_of (eval p) l.body)

-- ---- what is wrong with a line

unfoldable pub arg_misses : Arg Value → Bool
arg_misses None = false
arg_misses (Imm v) = v.missing
arg_misses (Reg r) = false
arg_misses (Dir v) = v.missing
arg_misses (Ind r) = false
arg_misses (Idx r v) = v.missing

-- "label missing"
unfoldable pub misses : Body Value → Bool
misses (Word v) = v.missing
misses (Code o x y) = arg_misses x || arg_misses y

unfoldable pub count_set : List (Option (List ℕ)) → ℕ
count_set [] = 0
count_set (none ∷ ls) = count_set ls
count_set (some n ∷ ls) = suc (count_set ls)

unfoldable pub any_sets : List ℕ → List (Option (List ℕ)) → Bool
any_sets n [] = false
any_sets n (l ∷ ls) = sets_label n l || any_sets n ls

-- "set again or beyond 256", after the labels of the lines before.
unfoldable pub label_wrong : List (Option (List ℕ)) → Option (List ℕ) → Bool
label_wrong before none = false
label_wrong before (some n) = any_sets n before || leb 256 (count_set before)

-- "value out of range"; "a direct one is an address"
unfoldable pub arg_exceeds : Arg Value → Bool
arg_exceeds None = false
arg_exceeds (Imm v) = v.overflow
arg_exceeds (Reg r) = false
arg_exceeds (Dir v) = v.overflow || not (is_address (address_of v.value))
arg_exceeds (Ind r) = false
arg_exceeds (Idx r v) = v.overflow

unfoldable pub exceeds : Body Value → Bool
exceeds (Word v) = v.overflow
exceeds (Code o x y) = arg_exceeds x || arg_exceeds y

-- Of lines numbered from k: the number of the first that fails a test, which also sees the labels of those before it, the last one first.
unfoldable pub lowest : (List (Option (List ℕ)) → Line Value → Bool) → ℕ → List (Option (List ℕ)) → List (Line Value) → Option ℕ
lowest p k before [] = none
lowest p k before (l ∷ ls) = cond (p before l) (some k) (lowest p (suc k) (l.label ∷ before) ls)

abbrev pub wrong_labels : List (Option (List ℕ)) → Line Value → Bool
wrong_labels before l = label_wrong before l.label || misses l.body

abbrev pub wrong_values : List (Option (List ℕ)) → Line Value → Bool
wrong_values before l = exceeds l.body

-- ---- the cells

unfoldable pub arg_register : Arg Value → ℕ
arg_register None = 0
arg_register (Imm v) = 0
arg_register (Reg r) = r
arg_register (Dir v) = 0
arg_register (Ind r) = r
arg_register (Idx r v) = r

unfoldable pub arg_number : Arg Value → ℤ
arg_number None = pos 0
arg_number (Imm v) = v.value
arg_number (Reg r) = pos 0
arg_number (Dir v) = v.value
arg_number (Ind r) = pos 0
arg_number (Idx r v) = v.value

unfoldable pub body_cell : Body Value → Cell
body_cell (Word v) = word v.value
body_cell (Code o x y) = cell (pos (tag_of o (mode x) (mode y) (arg_register x) (arg_register y))) (arg_number x) (arg_number y)

abbrev pub line_cell : Line Value → Cell
line_cell l = body_cell l.body

-- ---- texts

pub data Assembled : Type 0 where
  cells : List Cell → Assembled
  refuses : ℕ → ℕ → Assembled

-- Lines are numbered from 0 here and from 1 in an answer.
unfoldable pub otherwise : ℕ → Option ℕ → Assembled → Assembled
otherwise number none a = a
otherwise number (some k) a = refuses number (suc k)

unfoldable pub judged : List (Line Value) → Assembled
judged ls = otherwise 14 (lowest wrong_labels 0 [] ls) (otherwise 15 (lowest wrong_values 0 [] ls) (cells (map line_cell ls)))

abbrev pub labels_of : {X : Type 0} → List (Line X) → List (Option (List ℕ))
labels_of ls = map (λ l. l.label) ls

unfoldable pub assembled : Text Expr → Assembled
assembled (broken k) = refuses 13 (suc k)
assembled (lines ls) = judged (map (line_values (place_in 0 (labels_of ls))) ls)

-- A text, into room for so many cells.
unfoldable pub assemble : ℕ → List ℕ → Assembled
assemble room text = assembled (rows trees 32 room text)

-- ---- the call

abbrev pub counted : ℕ → ℕ → ℕ → Counted
counted r p n = record { refusal = r; place = p; count = n }

-- The cells in an image from its k-th on.
unfoldable pub put_cells : ℕ → List Cell → List ℤ → List ℤ
put_cells k [] image = image
put_cells k (v ∷ vs) image = put_cells (suc k) vs (put_cell image k v)

-- "It answers the count of cells written [...] from the front; the room behind is kept."
unfoldable pub answered : Assembled → List ℤ → Called Counted (List ℤ)
answered (cells vs) image = called (counted 0 0 (length vs)) (put_cells 0 vs image)
answered (refuses r p) image = called (counted r p 0) image

-- "A call that fills a lent image tests it by 9 for whole cells only."
unfoldable pub assemble_call : List ℕ → List ℤ → Called Counted (List ℤ)
assemble_call text image =
    cond (eqb (length image % 3) 0) (answered (assemble (cell_count image) text) image) (called (counted 9 0 0) image)
