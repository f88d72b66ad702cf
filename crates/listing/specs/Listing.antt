-- A cell as a line of Card 1: "one line a cell, without labels, numbers in shortest decimal (index 0 as +0), one space after a comma and after a
-- mnemonic or `.word` with operands, no other". 10 is a line end, 32 a space, 37 `%`, 43 a plus, 44 a comma, 45 a minus, 91 and 93 are the
-- square brackets.
use Rattle.std.specs.Prelude.{Bool, false, ◌||◌, List, [], ◌∷◌, ◌++◌, ℕ, zero, suc, ℤ, pos, negsuc, get_or}
use Rattle.definition.specs.declared.Cell.{Cell}
use Rattle.definition.specs.Word.{eq_z}
use Rattle.definition.specs.Memory.{cell}
use Rattle.definition.specs.Encoding.{op_number, mode₁, mode₂, reg₁, reg₂}
use Rattle.printing.specs.Decimal.{decimal, numeral}
use Rattle.assembly.specs.Grammar.{mnemonics, registers, dot_word}

-- "An index is + or - and digits"; "index 0 as +0".
unfoldable pub index_text : ℤ → List ℕ
index_text (pos n) = 43 ∷ decimal n
index_text (negsuc n) = numeral (negsuc n)

abbrev pub register_text : ℕ → List ℕ
register_text r = 37 ∷ get_or registers r []

-- An operand of mode m with register r and number w: nothing, `5`, `%a`, `[5]`, `[%a]`, `[%a+5]`.
unfoldable pub operand_text : ℕ → ℕ → ℤ → List ℕ
operand_text zero r w = []
operand_text (suc zero) r w = numeral w
operand_text (suc (suc zero)) r w = register_text r
operand_text (suc (suc (suc zero))) r w = 91 ∷ (numeral w ++ (93 ∷ []))
operand_text (suc (suc (suc (suc zero)))) r w = 91 ∷ (register_text r ++ (93 ∷ []))
operand_text (suc (suc (suc (suc (suc m))))) r w = 91 ∷ (register_text r ++ (index_text w ++ (93 ∷ [])))

-- What follows a mnemonic: nothing, a space and an operand, or a space and two operands with a comma and a space between.
unfoldable pub operands_text : ℕ → ℕ → List ℕ → List ℕ → List ℕ
operands_text zero n x y = []
operands_text (suc m) zero x y = 32 ∷ x
operands_text (suc m) (suc n) x y = 32 ∷ (x ++ (44 ∷ (32 ∷ y)))

-- `.word` and a value
abbrev pub word_text : ℤ → List ℕ
word_text w = dot_word ++ (32 ∷ numeral w)

-- Of an instruction, t is its tag less 2.
unfoldable pub code_text : ℕ → ℤ → ℤ → List ℕ
code_text t f s =
    get_or mnemonics (op_number t) [] ++ operands_text (mode₁ t) (mode₂ t) (operand_text (mode₁ t) (reg₁ t) f) (operand_text (mode₂ t) (reg₂ t) s)

-- "an empty cell as `.word 0`"; a damaged cell is never written.
unfoldable pub content_text : ℤ → ℤ → ℤ → List ℕ
content_text (pos zero) f s = word_text (pos 0)
content_text (pos (suc zero)) f s = word_text f
content_text (pos (suc (suc t))) f s = code_text t f s
content_text (negsuc n) f s = []

unfoldable pub line_text : Cell → List ℕ
line_text v = content_text v.tag v.first v.second ++ (10 ∷ [])

-- "one line a cell"
unfoldable pub listing : List Cell → List ℕ
listing [] = []
listing (v ∷ vs) = line_text v ++ listing vs

-- The cells of an image: "A cell is three signed 64-bit numbers: tag, first, second."
unfoldable pub image_cells : List ℤ → List Cell
image_cells [] = []
image_cells (t ∷ []) = []
image_cells (t ∷ f ∷ []) = []
image_cells (t ∷ f ∷ s ∷ l) = cell t f s ∷ image_cells l

abbrev pub is_empty : Cell → Bool
is_empty v = eq_z v.tag (pos 0)

unfoldable pub any_empty : List Cell → Bool
any_empty [] = false
any_empty (v ∷ vs) = is_empty v || any_empty vs
