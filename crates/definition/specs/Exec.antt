-- What an instruction works on, and how it fails. "`Result` and `?`: enums."
-- The console is not in reach here: an instruction can only ask for it (`Request` in Instructions), so none can look at it.
use Rattle.std.specs.Prelude.{Bool, true, false, ◌&&◌, List, ℕ, zero, suc, ℤ, pos, ltb, leb, Err, None, Ok, Option, Result, Some}
use Rattle.definition.specs.declared.Missing.{Missing}
use Rattle.definition.specs.declared.Missing.TheVariants.{NoAddress, OutsideCells}
use Rattle.definition.specs.declared.Cell.{Cell}
use Rattle.definition.specs.declared.Registers.{Registers}
use Rattle.definition.specs.declared.Word.{Word}
use Rattle.definition.specs.declared.Word.TheVariants.{Is, Empty, NotWord}
use Rattle.definition.specs.declared.Error.{Error}
use Rattle.definition.specs.declared.Error.TheVariants.{PrivilegedInstruction, InvalidMemoryAccess, Extract}
use Rattle.definition.specs.Word.{address_of}
use Rattle.definition.specs.Memory.{extract_word, cell_count, put_cell, get}
use Rattle.definition.specs.Registers.{Put, assigned, refused, supervisor, with_sp, counted}

-- Cells and registers.
pub record Core : Type 0 where
  pub cells : List ℤ
  pub regs : Registers

abbrev pub core : List ℤ → Registers → Core
core l s = record { cells = l; regs = s }

-- Other registers, and other cells.
abbrev pub with_regs : Registers → Core → Core
with_regs s c = core c.cells s

abbrev pub with_cells : List ℤ → Core → Core
with_cells l c = core l c.regs

-- A value, or an error, each with the cells and registers as they are left.
pub data Res (X : Type 0) : Type 0 where
  ok : X → Core → Res X
  err : Error → Core → Res X

abbrev pub Exec : Type 0 → Type 0
Exec X = Core → Res X

unfoldable pub and_then : {X Y : Type 0} → Res X → (X → Exec Y) → Res Y
and_then (ok v c) k = k v c
and_then (err e c) k = err e c

infixl 1 ◌>>=◌
abbrev pub ◌>>=◌ : {X Y : Type 0} → Exec X → (X → Exec Y) → Exec Y
◌>>=◌ m k = λ c. and_then (m c) k

infixl 1 ◌>>◌
abbrev pub ◌>>◌ : {X Y : Type 0} → Exec X → Exec Y → Exec Y
◌>>◌ m k = λ c. and_then (m c) (λ v. k)

abbrev pub return : {X : Type 0} → X → Exec X
return v = λ c. ok v c

abbrev pub raise : {X : Type 0} → Error → Exec X
raise e = λ c. err e c

-- The first where the test holds, else the second.
unfoldable pub branch : {X : Type 0} → Bool → Exec X → Exec X → Exec X
branch true m n = m
branch false m n = n

-- Reads the registers, and changes them.
abbrev pub ask : {X : Type 0} → (Registers → X) → Exec X
ask f = λ c. ok (f c.regs) c

abbrev pub change : (Registers → Registers) → Exec (Unit {0})
change f = λ c. ok tt (with_regs (f c.regs) c)

-- What may be missing, or else the error. An empty cell's word is 0, and is counted.
unfoldable pub or_word : Word → Error → Exec ℤ
or_word (Is w) e = return w
or_word Empty e = λ c. ok (pos 0) (with_regs (counted Empty c.regs) c)
or_word NotWord e = raise e

unfoldable pub or_address : Option ℕ → Error → Exec ℕ
or_address (Some n) e = return n
or_address None e = raise e

-- Cell::extract_word and Cell::extract_address: a cell's word or address, or the error.
abbrev pub take_word : Cell → Error → Exec ℤ
take_word v e = λ c. or_word (extract_word v) e c

abbrev pub take_address : Cell → Error → Exec ℕ
take_address v e = do
  w ← take_word v e
  or_address (address_of w) e

unfoldable pub or_cell : Option Cell → Error → Exec Cell
or_cell (Some v) e = return v
or_cell None e = raise e

-- "An operand read at an address not below the count of cells raises code 5"; "any other operand [...] that cannot be taken is stop 4".
abbrev pub error_of : Missing → Error
error_of OutsideCells = InvalidMemoryAccess
error_of NoAddress = Extract

unfoldable pub or_given : Result Cell Missing → Exec Cell
or_given (Ok v) = return v
or_given (Err m) = raise (error_of m)

unfoldable pub or_put : Put → Exec (Unit {0})
or_put (assigned s) = λ c. ok tt (with_regs s c)
or_put (refused e) = raise e

-- The registers as f leaves them, or the error with which a register refused its value.
abbrev pub assign : (Registers → Put) → Exec (Unit {0})
assign f = λ c. or_put (f c.regs) c

-- A cell read, or the error where the address is outside.
abbrev pub read : ℕ → Error → Exec Cell
read n e = λ c. or_cell (get c.cells n) e c

-- May the address n be written? g is the first address that may: 0, or the fence "in a step begun with S clear".
unfoldable pub permits : ℕ → ℕ → List ℤ → Bool
permits g n l = ltb n (cell_count l) && leb g n

-- Computer::write: "A store, swap's write, push, pop, fas or fetch outside is code 5." "A write by st, swap, fas, push or call, in a step
-- begun with S clear, to an address below the fence raises code 5 and leaves that cell."
unfoldable pub write : ℕ → ℕ → Cell → Exec (Unit {0})
write g n v = λ c. branch (permits g n c.cells) (λ c. ok tt (with_cells (put_cell c.cells n v) c)) (raise InvalidMemoryAccess) c

-- Computer::check_privileged
unfoldable pub check_privileged : Exec (Unit {0})
check_privileged = λ c. branch (supervisor c.regs) (return tt) (raise PrivilegedInstruction) c

-- "sp 0 less 1 wraps to 4,294,967,295"
unfoldable pub below : ℕ → ℕ
below zero = 4294967295
below (suc n) = n

-- Computer::push: "the push then raises code 5 and sp stays so"
unfoldable pub push : ℕ → Cell → Exec (Unit {0})
push g v = do
  change (λ s. with_sp (below s.sp) s)
  n ← ask (λ s. s.sp)
  write g n v

-- Computer::pop: "pop and rtn read at sp (outside: code 5, sp unmoved), then move sp"
unfoldable pub pop : Exec Cell
pop = do
  n ← ask (λ s. s.sp)
  v ← read n InvalidMemoryAccess
  change (with_sp (suc n))
  return v
