-- The pieces of a line that the code puts one after another, of the instruction that a cell decodes to. That they make the line of Listing is shown
-- in proofs/Pieces.
use Rattle.std.specs.Prelude.{Bool, true, false, cond, List, [], ◌∷◌, ◌++◌, ℕ, leb, Some, None, Option}
use Rattle.definition.specs.declared.Cell.{Cell}
use Rattle.definition.specs.declared.Reg.{Reg}
use Rattle.definition.specs.declared.Operand.{Operand}
use Rattle.definition.specs.declared.Operand.TheVariants.{Absent, Imm, Register, Dir, Ind, Idx}
use Rattle.definition.specs.declared.Instruction.{Instruction}
use Rattle.printing.specs.Decimal.{numeral}
use Rattle.listing.specs.Listing.{index_text, content_text}
use Rattle.listing.specs.Names.{mnemonic, register}

-- `%` and a name
abbrev pub named : Reg → List ℕ
named r = 37 ∷ register r

-- Between square brackets.
abbrev pub square : List ℕ → List ℕ
square s = 91 ∷ (s ++ (93 ∷ []))

-- `5`, `%a`, `[5]`, `[%a]`, `[%a+5]`
abbrev pub operand : Operand → List ℕ
operand Absent = []
operand (Imm w) = numeral w
operand (Register r) = named r
operand (Dir w) = square (numeral w)
operand (Ind r) = square (named r)
operand (Idx r w) = square (named r ++ index_text w)

abbrev pub is_absent : Operand → Bool
is_absent Absent = true
is_absent (Imm w) = false
is_absent (Register r) = false
is_absent (Dir w) = false
is_absent (Ind r) = false
is_absent (Idx r w) = false

-- What follows a mnemonic.
abbrev pub operands : Operand → Operand → List ℕ
operands x y =
    cond (is_absent x) [] (32 ∷ (operand x ++ cond (is_absent y) [] (44 ∷ 32 ∷ operand y)))

abbrev pub instruction : Instruction → List ℕ
instruction i = mnemonic i.op ++ operands i.x i.y

-- A line without its end.
abbrev pub cell_text : Cell → List ℕ
cell_text v = content_text v.tag v.first v.second

-- A text's length, if it fits into some room.
abbrev pub fitted : ℕ → ℕ → Option ℕ
fitted n room = cond (leb n room) (Some n) None
