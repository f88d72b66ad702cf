-- What a caller may rely on, as statements. The proofs are proofs/RoundTrip.
use Rattle.std.specs.Prelude.{◌≡◌, ◌≢◌, Bool, true, false, ◌&&◌, List, [], ◌∷◌, map, ℕ, zero, suc, ◌≤◌, ℤ, pos, negsuc, length, take, drop}
use Rattle.std.proofs.Math.Option.{Option}
use Rattle.definition.specs.declared.Cell.{Cell}
use Rattle.definition.specs.declared.Counted.{Counted}
use Rattle.definition.specs.Word.{is_word}
use Rattle.definition.specs.Memory.{cell, word, cell_count}
use Rattle.definition.specs.Encoding.{sound}
use Rattle.definition.specs.Calls.{Called, called}
use Rattle.printing.specs.Decimal.{decimal}
use Rattle.expression.specs.Grammar.{Expr, Digits}
use Rattle.assembly.specs.Grammar.{Line, Row, Rows}
use Rattle.assembly.specs.Assemble.{line_values, line_cell, counted, assemble_call}
use Rattle.listing.specs.Listing.{image_cells, any_empty, line_text}
use Rattle.listing.specs.Call.{image_text, list_call}

-- The numbers are of 64 bits.
unfoldable pub all_words : List ℤ → Bool
all_words [] = true
all_words (w ∷ ws) = is_word w && all_words ws

-- A cell as it comes back: "except for those empty cells", which are word 0.
unfoldable pub kept_at : ℤ → ℤ → ℤ → Cell
kept_at (pos zero) f s = word (pos 0)
kept_at (pos (suc t)) f s = cell (pos (suc t)) f s
kept_at (negsuc n) f s = cell (negsuc n) f s

abbrev pub kept : Cell → Cell
kept v = kept_at v.tag v.first v.second

unfoldable pub numbers_of : List Cell → List ℤ
numbers_of [] = []
numbers_of (v ∷ vs) = v.tag ∷ v.first ∷ v.second ∷ numbers_of vs

-- A cell's line is one that the grammar derives, and what it derives makes that cell, whatever labels may mean.
pub record LineOf (v : Cell) : Type 0 where
  pub reading : Line Expr
  pub derived : Row 32 (line_text v) reading
  pub makes : (p : List ℕ → Option ℕ) → line_cell (line_values p reading) ≡ kept v

-- What a listing put into a buffer is assembled to, in some room.
abbrev pub listed_back : ℕ → List ℤ → List ℕ → List ℤ → Called Counted (List ℤ)
listed_back leave image buffer room =
    let c = list_call leave image buffer in
    assemble_call (take c.answer.count c.left) room

pub record ListLaws : Type 0 where
  -- "numbers in shortest decimal": no digits of the same value are fewer.
  pub shortest : (n : ℕ) (s : List ℕ) → Digits s n → length (decimal n) ≤ length s
  pub line-of : (v : Cell) → sound v ≡ true → is_word v.first ≡ true → is_word v.second ≡ true → LineOf v
  -- "each text has one reading": any reading of the text makes the image's cells.
  pub any_reading : (leave : ℕ) (image : List ℤ) (buffer : List ℕ) → all_words image ≡ true → (list_call leave image buffer).answer.refusal ≡ 0
      → (ls : List (Line Expr)) → Rows 32 (image_text image) ls → (p : List ℕ → Option ℕ) → map line_cell (map (line_values p) ls) ≡ map kept (image_cells image)
  -- "Reading the text back into as much room returns the image, except for those empty cells."
  pub round_trip : (leave : ℕ) (image : List ℤ) (buffer : List ℕ) (room : List ℤ) → all_words image ≡ true → length room ≡ length image
      → (list_call leave image buffer).answer.refusal ≡ 0 → listed_back leave image buffer room ≡ called (counted 0 0 (cell_count image)) (numbers_of (map kept (image_cells image)))
  -- Where no cell is empty it is the image,
  pub exactly : (leave : ℕ) (image : List ℤ) (buffer : List ℕ) (room : List ℤ) → all_words image ≡ true → length room ≡ length image
      → (list_call leave image buffer).answer.refusal ≡ 0 → any_empty (image_cells image) ≡ false → listed_back leave image buffer room ≡ called (counted 0 0 (cell_count image)) image
  -- as it is of any listing without leave.
  pub without_leave : (image : List ℤ) (buffer : List ℕ) (room : List ℤ) → all_words image ≡ true → length room ≡ length image
      → (list_call 0 image buffer).answer.refusal ≡ 0 → listed_back 0 image buffer room ≡ called (counted 0 0 (cell_count image)) image
  -- "the room behind is kept"
  pub behind : (leave : ℕ) (image : List ℤ) (buffer : List ℕ) → drop (list_call leave image buffer).answer.count (list_call leave image buffer).left ≡ drop (list_call leave image buffer).answer.count buffer
  -- A refused call changes nothing.
  pub keeps : (leave : ℕ) (image : List ℤ) (buffer : List ℕ) → (list_call leave image buffer).answer.refusal ≢ 0 → (list_call leave image buffer).left ≡ buffer
