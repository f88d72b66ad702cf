-- arguments.rs: the operands, one function a kind, and what each costs.
use Rattle.std.specs.Prelude.{List, [], ◌∷◌, ℕ, ℤ, pos, ◌+ℤ◌, get_or, Err, None, Ok, Option, Result, Some}
use Rattle.definition.specs.declared.Operand.{Operand}
use Rattle.definition.specs.declared.Operand.TheVariants.{Absent, Imm, Register, Dir, Ind, Idx}
use Rattle.definition.specs.declared.Missing.{Missing}
use Rattle.definition.specs.declared.Missing.TheVariants.{NoAddress, OutsideCells}
use Rattle.definition.specs.declared.Registers.{Registers}
use Rattle.definition.specs.declared.Cell.{Cell}
use Rattle.definition.specs.declared.Word.{Word}
use Rattle.definition.specs.declared.Word.TheVariants.{Is, Empty, NotWord}
use Rattle.definition.specs.Word.{wrap, address_of}
use Rattle.definition.specs.Memory.{word, extract_word, extract_address, get}
use Rattle.definition.specs.Registers.{reg_at, get_reg, counted}

-- The operand of mode m with register r and number w: "modes: 0 none, 1 immediate, 2 register, 3 direct, 4 indirect, 5 indexed".
unfoldable pub operand : ℕ → ℕ → ℤ → Operand
operand m r w = get_or (Absent ∷ Imm w ∷ Register (reg_at r) ∷ Dir w ∷ Ind (reg_at r) ∷ Idx (reg_at r) w ∷ []) m Absent

-- The cost functions: a memory access takes a cycle, an immediate value or a register none.
unfoldable pub mode_cost : ℕ → ℕ
mode_cost m = get_or (0 ∷ 0 ∷ 0 ∷ 1 ∷ 1 ∷ 1 ∷ []) m 0

-- "an indexed sum wraps at 64 bits before it is tested as an address"
unfoldable pub indexed : Word → ℤ → Option ℕ
indexed (Is w) k = address_of (wrap (w +ℤ k))
indexed Empty k = address_of (wrap (pos 0 +ℤ k))
indexed NotWord k = None

-- ResolveAddress: the address that an operand names.
unfoldable pub resolve : Operand → Registers → Option ℕ
resolve Absent s = None
resolve (Imm w) s = None
resolve (Register r) s = None
resolve (Dir w) s = address_of w
resolve (Ind r) s = extract_address (get_reg r s)
resolve (Idx r k) s = indexed (extract_word (get_reg r s)) k

-- The registers after that: the word of an address register was taken, "registers a and b included".
unfoldable pub resolved : Operand → Registers → Registers
resolved Absent s = s
resolved (Imm w) s = s
resolved (Register r) s = s
resolved (Dir w) s = s
resolved (Ind r) s = counted (extract_word (get_reg r s)) s
resolved (Idx r k) s = counted (extract_word (get_reg r s)) s

-- "not below the count of cells"
unfoldable pub read_there : Option Cell → Result Cell Missing
read_there (Some v) = Ok v
read_there None = Err OutsideCells

-- The cell at an address: there is none at an address outside, nor where the word is no address.
unfoldable pub cell_there : Option ℕ → List ℤ → Result Cell Missing
cell_there (Some n) l = read_there (get l n)
cell_there None l = Err NoAddress

-- ExtractValue: the cell that an operand gives. Its word is taken apart from it, as the Rust does (Instructions: `word_of`).
unfoldable pub extract_cell : Operand → List ℤ → Registers → Result Cell Missing
extract_cell Absent l s = Err NoAddress
extract_cell (Imm w) l s = Ok (word w)
extract_cell (Register r) l s = Ok (get_reg r s)
extract_cell (Dir w) l s = cell_there (resolve (Dir w) s) l
extract_cell (Ind r) l s = cell_there (resolve (Ind r) s) l
extract_cell (Idx r k) l s = cell_there (resolve (Idx r k) s) l
