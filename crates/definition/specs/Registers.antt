-- registers.rs, and Computer::set_register of mod.rs.
use Rattle.std.specs.Prelude.{Bool, true, false, List, [], ◌∷◌, ℕ, ℤ, pos, get_or, None, Option, Some}
use Rattle.definition.specs.declared.Reg.{Reg}
use Rattle.definition.specs.declared.Reg.TheVariants.{A, B, PC, SP, SR}
use Rattle.definition.specs.declared.Cell.{Cell}
use Rattle.definition.specs.declared.Registers.{Registers}
use Rattle.definition.specs.declared.Word.{Word}
use Rattle.definition.specs.declared.Word.TheVariants.{Is, Empty, NotWord}
use Rattle.definition.specs.declared.Error.{Error}
use Rattle.definition.specs.declared.Error.TheVariants.{PrivilegedInstruction, InvalidPc, InvalidSp, InvalidSr}
use Rattle.definition.specs.Constants.{SUPERVISOR, INTERRUPT-ENABLE}
use Rattle.definition.specs.Word.{bit, put_bit}
use Rattle.definition.specs.Total.{total}
use Rattle.definition.specs.Memory.{word, extract_word, extract_address}

-- "registers: 0 a, 1 b, 2 pc, 3 sp, 4 sr"
abbrev pub regs : List Reg
regs = A ∷ B ∷ PC ∷ SP ∷ SR ∷ []

-- Its number, as the detail of stop 5 gives it.
abbrev pub reg_number : Reg → ℕ
reg_number A = 0
reg_number B = 1
reg_number PC = 2
reg_number SP = 3
reg_number SR = 4

-- The register of a number; a tag's r is below 5.
unfoldable pub reg_at : ℕ → Reg
reg_at r = get_or regs r A

-- One register changed.
abbrev pub with_a : Cell → Registers → Registers
with_a v s = record { a = v; b = s.b; pc = s.pc; sp = s.sp; sr = s.sr; empties = s.empties }

abbrev pub with_b : Cell → Registers → Registers
with_b v s = record { a = s.a; b = v; pc = s.pc; sp = s.sp; sr = s.sr; empties = s.empties }

abbrev pub with_pc : ℕ → Registers → Registers
with_pc n s = record { a = s.a; b = s.b; pc = n; sp = s.sp; sr = s.sr; empties = s.empties }

abbrev pub with_sp : ℕ → Registers → Registers
with_sp n s = record { a = s.a; b = s.b; pc = s.pc; sp = n; sr = s.sr; empties = s.empties }

abbrev pub with_sr : ℤ → Registers → Registers
with_sr w s = record { a = s.a; b = s.b; pc = s.pc; sp = s.sp; sr = w; empties = s.empties }

-- The count of empty reads is no register: it goes where they go, from the step's beginning to its end.
abbrev pub with_empties : ℕ → Registers → Registers
with_empties n s = record { a = s.a; b = s.b; pc = s.pc; sp = s.sp; sr = s.sr; empties = n }

-- "Taking a word (`Cell::extract_word`) now also tells whether the cell was empty": the registers once the word w was taken. Every word that
-- an instruction takes is counted here.
unfoldable pub counted : Word → Registers → Registers
counted (Is w) s = s
counted Empty s = with_empties (total s.empties 1) s
counted NotWord s = s

-- StatusRegister::set of one flag
abbrev pub put_flag : ℕ → Bool → Registers → Registers
put_flag k on s = with_sr (put_bit k on s.sr) s

-- S, the supervisor bit, and I, the interrupt enable
unfoldable pub supervisor : Registers → Bool
supervisor s = bit SUPERVISOR s.sr

unfoldable pub interrupt_enable : Registers → Bool
interrupt_enable s = bit INTERRUPT-ENABLE s.sr

-- Registers::get
unfoldable pub get_reg : Reg → Registers → Cell
get_reg A s = s.a
get_reg B s = s.b
get_reg PC s = word (pos s.pc)
get_reg SP s = word (pos s.sp)
get_reg SR s = word s.sr

-- A register that takes its value, or refuses it.
pub data Put : Type 0 where
  assigned : Registers → Put
  refused : Error → Put

unfoldable pub put_pc : Option ℕ → Registers → Put
put_pc (Some n) s = assigned (with_pc n s)
put_pc None s = refused InvalidPc

unfoldable pub put_sp : Option ℕ → Registers → Put
put_sp (Some n) s = assigned (with_sp n s)
put_sp None s = refused InvalidSp

-- "Writing sr with S clear raises code 3, whatever the value."
unfoldable pub put_sr : Bool → Word → Registers → Put
put_sr false w s = refused PrivilegedInstruction
put_sr true (Is w) s = assigned (with_sr w s)
put_sr true Empty s = assigned (with_sr (pos 0) s)
put_sr true NotWord s = refused InvalidSr

-- Computer::set_register. pc, sp and sr take the cell's word; where a value is refused, none was taken from an empty cell.
unfoldable pub put_reg : Reg → Cell → Registers → Put
put_reg A v s = assigned (with_a v s)
put_reg B v s = assigned (with_b v s)
put_reg PC v s = put_pc (extract_address v) (counted (extract_word v) s)
put_reg SP v s = put_sp (extract_address v) (counted (extract_word v) s)
put_reg SR v s = put_sr (supervisor s) (extract_word v) (counted (extract_word v) s)
