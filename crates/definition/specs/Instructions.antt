-- instructions.rs: what each instruction does, the effects in the order of the lines.
use Rattle.std.specs.Prelude.{Bool, not, cond, ◌&&◌, ◌||◌, ℕ, ◌-◌, ℤ, pos, neg_ℤ, nat_abs, ◌+ℤ◌, ◌-ℤ◌, ◌*ℤ◌, None, Option, Some}
use Rattle.definition.specs.declared.Op.TheVariants as O
use Rattle.definition.specs.declared.Request.{Request}
use Rattle.definition.specs.declared.Request.TheVariants.{Nothing, Reads, Writes}
use Rattle.definition.specs.declared.Op.{Op}
use Rattle.definition.specs.declared.Operand.{Operand}
use Rattle.definition.specs.declared.Operand.TheVariants.{Absent, Dir, Idx, Imm, Ind, Register}
use Rattle.definition.specs.declared.Reg.{Reg}
use Rattle.std.specs.Int.Signed.{lt_z}
use Rattle.definition.specs.declared.Cell.{Cell}
use Rattle.definition.specs.declared.Registers.{Registers}
use Rattle.definition.specs.declared.Wrapped.{Wrapped}
use Rattle.definition.specs.declared.Error.TheVariants.{DivByZero, InvalidInstruction, Trap, InvalidMemoryAccess, CellError, Extract, Reset}
use Rattle.definition.specs.Constants.{ZERO, NEGATIVE, OVERFLOW, INTERRUPT-PC-SAVE, INTERRUPT-SR-SAVE}
use Rattle.definition.specs.Word.{eq_z, wrapped, quotient, is_shift, shl_w, shr_w, and_w, or_w, xor_w, not_w, bit}
use Rattle.definition.specs.Memory.{word}
use Rattle.definition.specs.Registers.{get_reg, put_reg, Put, assigned, refused, put_flag, with_pc, with_sr}
use Rattle.definition.specs.Arguments.{resolve, resolved, extract_cell}
use Rattle.definition.specs.Exec.{with_regs, Exec, ◌>>=◌, ◌>>◌, return, raise, branch, ask, change, take_word, take_address, or_address, or_given, assign, read, write, check_privileged, push, pop}

-- An operand's cell, word or address, and the word of a register: "any other operand, register or jump target that cannot be taken is
-- stop 4".
abbrev pub cell_of : Operand → Exec Cell
cell_of x = λ c. or_given (extract_cell x c.cells c.regs) (with_regs (resolved x c.regs) c)

abbrev pub word_of : Operand → Exec ℤ
word_of x = do
  v ← cell_of x
  take_word v Extract

abbrev pub target_of : Operand → Exec ℕ
target_of x = do
  v ← cell_of x
  take_address v Extract

abbrev pub register_word : Reg → Exec ℤ
register_word r = λ c. take_word (get_reg r c.regs) Extract c

-- The address that an operand names: "Stop 3 is a word or address that rti or rtn cannot take, or that st, fas, in, out or swap's write
-- cannot take for the address alone".
abbrev pub place_of : Operand → Exec ℕ
place_of x = λ c. or_address (resolve x c.regs) CellError (with_regs (resolved x c.regs) c)

abbrev pub set_register : Reg → Cell → Exec (Unit {0})
set_register r v = assign (put_reg r v)

-- "The register is written before the flags, so flags fall over a result put into sr."
unfoldable pub and_flags : (Registers → Registers) → Put → Put
and_flags f (assigned s) = assigned (f s)
and_flags f (refused e) = refused e

-- Z and N of a result
abbrev pub sign_flags : ℤ → Registers → Registers
sign_flags w s = put_flag NEGATIVE (lt_z w (pos 0)) (put_flag ZERO (eq_z w (pos 0)) s)

-- "and, or, xor, not, div, shl and shr set Z and N and leave V."
unfoldable pub put_result : Reg → ℤ → Registers → Put
put_result r w s = and_flags (sign_flags w) (put_reg r (word w) s)

-- "add, sub, mul and neg wrap at 64 bits and set V, Z, N."
unfoldable pub put_wrapped : Reg → Wrapped → Registers → Put
put_wrapped r x s = and_flags (λ t. sign_flags x.value (put_flag OVERFLOW x.overflow t)) (put_reg r (word x.value) s)

-- "cmp sets Z if the words are equal and N if operand < register."
unfoldable pub put_compared : ℤ → ℤ → Registers → Put
put_compared v w s = assigned (put_flag NEGATIVE (lt_z v w) (put_flag ZERO (eq_z v w) s))

-- "Operand 0, or smallest word / -1, raises code 1."
unfoldable pub put_quotient : Reg → Option ℤ → Registers → Put
put_quotient r (Some q) s = put_result r q s
put_quotient r None s = refused DivByZero

-- "Shift amounts are 0 to 63; others raise code 2."
unfoldable pub put_shifted : (ℤ → ℕ → ℤ) → Reg → ℤ → ℤ → Registers → Put
put_shifted f r v w s = cond (is_shift v) (put_result r (f w (nat_abs v)) s) (refused InvalidInstruction)

-- An instruction of two words: the operand's, then the register's.
unfoldable pub words : Operand → Reg → (ℤ → ℤ → Registers → Put) → Exec (Unit {0})
words x r k = do
  v ← word_of x
  w ← register_word r
  assign (k v w)

unfoldable pub neg : Reg → Exec (Unit {0})
neg r = do
  w ← register_word r
  assign (put_wrapped r (wrapped (neg_ℤ w)))

unfoldable pub not_op : Reg → Exec (Unit {0})
not_op r = do
  w ← register_word r
  assign (put_result r (not_w w))

unfoldable pub jump : Operand → Exec (Unit {0})
jump x = do
  n ← target_of x
  change (with_pc n)

-- "A conditional jump not taken never reads its operand." The test is of Z and N.
unfoldable pub jump_if : (Bool → Bool → Bool) → Operand → Exec (Unit {0})
jump_if test x = λ c. branch (test (bit ZERO c.regs.sr) (bit NEGATIVE c.regs.sr)) (jump x) (return tt) c

-- "call pushes pc before it reads its operand."
unfoldable pub call : ℕ → Operand → Exec (Unit {0})
call g x = do
  pc ← ask (λ s. s.pc)
  push g (word (pos pc))
  jump x

-- "pop and rtn [...] then move sp, and only then test the value or set the register."
unfoldable pub rtn : Exec (Unit {0})
rtn = do
  v ← pop
  n ← take_address v CellError
  change (with_pc n)

unfoldable pub pop_op : Reg → Exec (Unit {0})
pop_op r = do
  v ← pop
  set_register r v

unfoldable pub push_op : ℕ → Operand → Exec (Unit {0})
push_op g x = do
  v ← cell_of x
  push g v

-- "ld, push, pop, swap and fas carry a cell of any kind"
unfoldable pub ld : Operand → Reg → Exec (Unit {0})
ld x r = do
  v ← cell_of x
  set_register r v

-- "st takes a word, so empty becomes word 0 and an instruction stops."
unfoldable pub st : ℕ → Reg → Operand → Exec (Unit {0})
st g r y = do
  w ← register_word r
  n ← place_of y
  write g n (word w)

-- "fas writes word 1 before the register is set, so a refused register leaves the cell changed."
unfoldable pub fas : ℕ → Operand → Reg → Exec (Unit {0})
fas g x r = do
  n ← place_of x
  v ← read n InvalidMemoryAccess
  write g n (word (pos 1))
  set_register r v

-- The second half of swap: the register's old cell goes to the operand, whose address is taken from the new registers.
unfoldable pub swap_back : ℕ → Operand → Cell → Exec (Unit {0})
swap_back g Absent v = raise CellError
swap_back g (Imm w) v = raise CellError
swap_back g (Register r) v = set_register r v
swap_back g (Dir w) v = do
  n ← place_of (Dir w)
  write g n v
swap_back g (Ind r) v = do
  n ← place_of (Ind r)
  write g n v
swap_back g (Idx r k) v = do
  n ← place_of (Idx r k)
  write g n v

-- "swap writes its register first and resolves the memory address from the new registers."
unfoldable pub swap : ℕ → Operand → Reg → Exec (Unit {0})
swap g x r = do
  v ← cell_of x
  old ← ask (get_reg r)
  set_register r v
  swap_back g x old

-- "rti sets pc before it reads cell 101."
unfoldable pub rti : Exec (Unit {0})
rti = do
  check_privileged
  v ← read INTERRUPT-PC-SAVE InvalidMemoryAccess
  n ← take_address v CellError
  change (with_pc n)
  u ← read INTERRUPT-SR-SAVE InvalidMemoryAccess
  w ← take_word u CellError
  change (with_sr w)

-- "reset leaves pc on itself": one less than after the fetch.
unfoldable pub reset : Exec (Unit {0})
reset = do
  change (λ s. with_pc (s.pc - 1) s)
  raise Reset

unfoldable pub quiet : Exec (Unit {0}) → Exec Request
quiet m = do
  m
  return Nothing

-- "in, out and rti check S first"
unfoldable pub in_op : Operand → Reg → Exec Request
in_op x r = do
  check_privileged
  port ← place_of x
  return (Reads port r)

unfoldable pub out_op : Operand → Operand → Exec Request
out_op x y = do
  check_privileged
  w ← word_of x
  port ← place_of y
  return (Writes port w)

-- Instruction::execute, where g is the first address that the step may write
unfoldable pub execute : ℕ → Op → Operand → Operand → Reg → Reg → Exec Request
execute g O.Add x y r₁ r₂ = quiet (words x r₂ (λ v w. put_wrapped r₂ (wrapped (v +ℤ w))))
execute g O.And x y r₁ r₂ = quiet (words x r₂ (λ v w. put_result r₂ (and_w v w)))
execute g O.Call x y r₁ r₂ = quiet (call g x)
execute g O.Cmp x y r₁ r₂ = quiet (words x r₂ put_compared)
execute g O.Div x y r₁ r₂ = quiet (words x r₂ (λ v w. put_quotient r₂ (quotient w v)))
execute g O.Fas x y r₁ r₂ = quiet (fas g x r₂)
execute g O.In x y r₁ r₂ = in_op x r₂
execute g O.Jmp x y r₁ r₂ = quiet (jump x)
execute g O.Jeq x y r₁ r₂ = quiet (jump_if (λ z n. z) x)
execute g O.Jne x y r₁ r₂ = quiet (jump_if (λ z n. not z) x)
execute g O.Jle x y r₁ r₂ = quiet (jump_if (λ z n. z || n) x)
execute g O.Jlt x y r₁ r₂ = quiet (jump_if (λ z n. not z && n) x)
execute g O.Jge x y r₁ r₂ = quiet (jump_if (λ z n. z || not n) x)
execute g O.Jgt x y r₁ r₂ = quiet (jump_if (λ z n. not z && not n) x)
execute g O.Ld x y r₁ r₂ = quiet (ld x r₂)
execute g O.Mul x y r₁ r₂ = quiet (words x r₂ (λ v w. put_wrapped r₂ (wrapped (v *ℤ w))))
execute g O.Neg x y r₁ r₂ = quiet (neg r₁)
execute g O.Nop x y r₁ r₂ = quiet (return tt)
execute g O.Not x y r₁ r₂ = quiet (not_op r₁)
execute g O.Or x y r₁ r₂ = quiet (words x r₂ (λ v w. put_result r₂ (or_w v w)))
execute g O.Out x y r₁ r₂ = out_op x y
execute g O.Pop x y r₁ r₂ = quiet (pop_op r₁)
execute g O.Push x y r₁ r₂ = quiet (push_op g x)
execute g O.Reset x y r₁ r₂ = quiet reset
execute g O.Rti x y r₁ r₂ = quiet rti
execute g O.Rtn x y r₁ r₂ = quiet rtn
execute g O.Shl x y r₁ r₂ = quiet (words x r₂ (put_shifted shl_w r₂))
execute g O.Shr x y r₁ r₂ = quiet (words x r₂ (put_shifted shr_w r₂))
execute g O.St x y r₁ r₂ = quiet (st g r₁ y)
execute g O.Sub x y r₁ r₂ = quiet (words x r₂ (λ v w. put_wrapped r₂ (wrapped (w -ℤ v))))
execute g O.Swap x y r₁ r₂ = quiet (swap g x r₂)
execute g O.Trap x y r₁ r₂ = quiet (raise Trap)
execute g O.Xor x y r₁ r₂ = quiet (words x r₂ (λ v w. put_result r₂ (xor_w v w)))
