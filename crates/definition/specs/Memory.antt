-- memory.rs: cells, and the lent list that holds three numbers for each.
use Rattle.std.specs.Prelude.{Bool, true, false, not, List, ℕ, zero, suc, ◌+◌, ◌*◌, ◌/◌, ℤ, pos, negsuc, length, get_or, set, ltb, None, Option, Some}
use Rattle.std.specs.Int.Signed.{lt_z}
use Rattle.definition.specs.declared.Cell.{Cell}
use Rattle.definition.specs.declared.Word.{Word}
use Rattle.definition.specs.declared.Word.TheVariants.{Is, Empty, NotWord}
use Rattle.definition.specs.Word.{address_of}

abbrev pub cell : ℤ → ℤ → ℤ → Cell
cell t f s = record { tag = t; first = f; second = s }

-- "Empty is 0,0,0; word w is 1,w,0."
abbrev pub empty : Cell
empty = cell (pos 0) (pos 0) (pos 0)

abbrev pub word : ℤ → Cell
word w = cell (pos 1) w (pos 0)

-- Cell::extract_word: "Empty reads as word 0", which is told apart; an instruction has no word.
unfoldable pub word_at : ℤ → ℤ → Word
word_at (pos zero) f = Empty
word_at (pos (suc zero)) f = Is f
word_at (pos (suc (suc t))) f = NotWord
word_at (negsuc n) f = Empty

unfoldable pub extract_word : Cell → Word
extract_word v = word_at v.tag v.first

unfoldable pub as_address : Word → Option ℕ
as_address (Is w) = address_of w
as_address Empty = address_of (pos 0)
as_address NotWord = None

-- Cell::extract_address
unfoldable pub extract_address : Cell → Option ℕ
extract_address v = as_address (extract_word v)

-- Is the cell an instruction?
unfoldable pub is_instruction : Cell → Bool
is_instruction v = not (lt_z v.tag (pos 2))

-- How many cells the list holds.
abbrev pub cell_count : List ℤ → ℕ
cell_count l = length l / 3

-- The cell at address n, and the list with another cell there. "A cell is three signed 64-bit numbers: tag, first, second."
unfoldable pub cell_at : List ℤ → ℕ → Cell
cell_at l n = cell (get_or l (3 * n) (pos 0)) (get_or l (3 * n + 1) (pos 0)) (get_or l (3 * n + 2) (pos 0))

unfoldable pub put_cell : List ℤ → ℕ → Cell → List ℤ
put_cell l n v = set (set (set l (3 * n) v.tag) (3 * n + 1) v.first) (3 * n + 2) v.second

unfoldable pub found : Bool → Cell → Option Cell
found true v = Some v
found false v = None

-- Memory::get
unfoldable pub get : List ℤ → ℕ → Option Cell
get l n = found (ltb n (cell_count l)) (cell_at l n)
