-- What leaves the cells as they are: every part of an instruction but `write`.
use Rattle.std.specs.Prelude.{Err, None, Ok, Option, Result, Some}
use Rattle.definition.specs.declared.Instruction.{Instruction}
use Rattle.definition.specs.declared.Missing.{Missing}
use Rattle.definition.specs.declared.Missing.TheVariants.{NoAddress, OutsideCells}
use Rattle.definition.specs.declared.Operand.{Operand}
use Rattle.definition.specs.declared.Reg.{Reg}
use mathlib.Core.Path.{◌≡◌, refl, ◌∙◌}
use mathlib.Core.Bool.{Bool, true, false}
use Prim.Native.Nat.{ℕ, suc, ◌-◌}
use lib.IntN.{ℤ}
use Rattle.definition.specs.declared.Cell.{Cell}
use Rattle.definition.specs.declared.Registers.{Registers}
use Rattle.definition.specs.declared.Word.{Word}
use Rattle.definition.specs.declared.Word.TheVariants.{Is, Empty, NotWord}
use Rattle.definition.specs.declared.Error.{Error}
use Rattle.definition.specs.declared.Error.TheVariants.{CellError, Extract, PrivilegedInstruction}
use Rattle.definition.specs.Word.{address_of}
use Rattle.definition.specs.Memory.{extract_word, get}
use Rattle.definition.specs.Registers.{get_reg, Put, assigned, refused, put_reg, supervisor, with_pc, with_sp, with_sr}
use Rattle.definition.specs.Arguments.{resolve, resolved, extract_cell}
use Rattle.definition.specs.Exec.{Core, with_regs, Exec, Res, ok, err, and_then, ◌>>=◌, return, raise, branch, ask, change, or_word, take_word, take_address, or_address, or_cell, or_given, or_put, assign, read, check_privileged, pop}
use Rattle.definition.specs.Instructions.{cell_of, word_of, target_of, register_word, place_of, set_register, words, neg, not_op, jump, jump_if, rtn, pop_op, ld, rti, reset, quiet, in_op, out_op}
use Rattle.definition.specs.Runtime.{or_instruction, fetch}
use Rattle.journal.specs.StepBack.{cells_of}

pub record Still {X : Type 0} (m : Exec X) : Type 0 where
  pub at : (c : Core) → cells_of (m c) ≡ c.cells

-- what follows a result, and leaves its cells
pub then-still : {X Y : Type 0} (r : Res X) (k : X → Exec Y) → ((v : X) → Still (k v)) → cells_of (and_then r k) ≡ cells_of r
unfolding and_then
then-still (ok v c) k h = (h v).at c
then-still (err e c) k h = refl

pub seq : {X Y : Type 0} {m : Exec X} {k : X → Exec Y} → Still m → ((v : X) → Still (k v)) → Still (m >>= k)
seq {m = m} {k = k} h g = record { at = λ c. then-still (m c) k g ∙ h.at c }

pub pure : {X : Type 0} {v : X} → Still (return v)
pure = record { at = λ c. refl }

pub raises : {X : Type 0} {e : Error} → Still (raise {X = X} e)
raises = record { at = λ c. refl }

pub asks : {X : Type 0} (f : Registers → X) → Still (ask f)
asks f = record { at = λ c. refl }

pub changes : (f : Registers → Registers) → Still (change f)
changes f = record { at = λ c. refl }

branches : {X : Type 0} (b : Bool) (m n : Exec X) (c : Core) → Still m → Still n → cells_of (branch b m n c) ≡ c.cells
unfolding branch
branches true m n c h k = h.at c
branches false m n c h k = k.at c

-- ---- what may be missing

word-still : (w : Word) (e : Error) (c : Core) → cells_of (or_word w e c) ≡ c.cells
unfolding or_word
word-still (Is w) e c = refl
word-still Empty e c = refl
word-still NotWord e c = refl

address-still : (a : Option ℕ) (e : Error) (c : Core) → cells_of (or_address a e c) ≡ c.cells
unfolding or_address
address-still (Some n) e c = refl
address-still None e c = refl

found-still : (f : Option Cell) (e : Error) (c : Core) → cells_of (or_cell f e c) ≡ c.cells
unfolding or_cell
found-still (Some v) e c = refl
found-still None e c = refl

given-still : (g : Result Cell Missing) (c : Core) → cells_of (or_given g c) ≡ c.cells
unfolding or_given
given-still (Ok v) c = refl
given-still (Err OutsideCells) c = refl
given-still (Err NoAddress) c = refl

put-still : (p : Put) (c : Core) → cells_of (or_put p c) ≡ c.cells
unfolding or_put
put-still (assigned s) c = refl
put-still (refused e) c = refl

-- ---- the parts of an instruction

s-assign : (f : Registers → Put) → Still (assign f)
s-assign f = record { at = λ c. put-still (f c.regs) c }

pub s-set : (r : Reg) (v : Cell) → Still (set_register r v)
s-set r v = s-assign (put_reg r v)

pub s_read : (n : ℕ) (e : Error) → Still (read n e)
s_read n e = record { at = λ c. found-still (get c.cells n) e c }

s-take_word : (v : Cell) (e : Error) → Still (take_word v e)
s-take_word v e = record { at = λ c. word-still (extract_word v) e c }

s-take_address : (v : Cell) (e : Error) → Still (take_address v e)
s-take_address v e = seq (s-take_word v e) (λ w. record { at = λ c. address-still (address_of w) e c })

pub s-cell : (x : Operand) → Still (cell_of x)
s-cell x = record { at = λ c. given-still (extract_cell x c.cells c.regs) (with_regs (resolved x c.regs) c) }

s-word : (x : Operand) → Still (word_of x)
s-word x = seq (s-cell x) (λ v. s-take_word v Extract)

s-target : (x : Operand) → Still (target_of x)
s-target x = seq (s-cell x) (λ v. s-take_address v Extract)

pub s-register : (r : Reg) → Still (register_word r)
s-register r = record { at = λ c. (s-take_word (get_reg r c.regs) Extract).at c }

pub s-place : (x : Operand) → Still (place_of x)
s-place x = record { at = λ c. address-still (resolve x c.regs) CellError (with_regs (resolved x c.regs) c) }

s-check : Still check_privileged
unfolding check_privileged
s-check = record { at = λ c. branches (supervisor c.regs) (return tt) (raise PrivilegedInstruction) c pure raises }

s-pop : Still pop
unfolding pop
s-pop = seq (asks (λ s. s.sp)) (λ n. seq (s_read n _) (λ v. seq (changes (with_sp (suc n))) (λ u. pure)))

-- ---- the instructions that write no cell

pub s-jump : (x : Operand) → Still (jump x)
unfolding jump
s-jump x = seq (s-target x) (λ n. changes (with_pc n))

pub s-jump_if : (t : Bool → Bool → Bool) (x : Operand) → Still (jump_if t x)
unfolding jump_if
s-jump_if t x = record { at = λ c. branches _ (jump x) (return tt) c (s-jump x) pure }

pub s-words : (x : Operand) (r : Reg) (f : ℤ → ℤ → Registers → Put) → Still (words x r f)
unfolding words
s-words x r f = seq (s-word x) (λ v. seq (s-register r) (λ w. s-assign (f v w)))

pub s-neg : (r : Reg) → Still (neg r)
unfolding neg
s-neg r = seq (s-register r) (λ w. s-assign _)

pub s-not : (r : Reg) → Still (not_op r)
unfolding not_op
s-not r = seq (s-register r) (λ w. s-assign _)

pub s-rtn : Still rtn
unfolding rtn
s-rtn = seq s-pop (λ v. seq (s-take_address v CellError) (λ n. changes (with_pc n)))

pub s-pop_op : (r : Reg) → Still (pop_op r)
unfolding pop_op
s-pop_op r = seq s-pop (λ v. s-set r v)

pub s-ld : (x : Operand) (r : Reg) → Still (ld x r)
unfolding ld
s-ld x r = seq (s-cell x) (λ v. s-set r v)

pub s-rti : Still rti
unfolding rti
s-rti = seq s-check (λ u. seq (s_read 100 _) (λ v. seq (s-take_address v _) (λ n. seq (changes (with_pc n)) (λ u. seq (s_read 101 _) (λ v. seq (s-take_word v _) (λ w. changes (with_sr w)))))))

pub s-reset : Still reset
unfolding reset
s-reset = seq (changes (λ s. with_pc (s.pc - 1) s)) (λ u. raises)

pub s-quiet : {m : Exec (Unit {0})} → Still m → Still (quiet m)
unfolding quiet
s-quiet h = seq h (λ u. pure)

pub s-in : (x : Operand) (r : Reg) → Still (in_op x r)
unfolding in_op
s-in x r = seq s-check (λ u. seq (s-place x) (λ n. pure))

pub s-out : (x y : Operand) → Still (out_op x y)
unfolding out_op
s-out x y = seq s-check (λ u. seq (s-word x) (λ w. seq (s-place y) (λ n. pure)))

s-instruction : (t : Option Instruction) → Still (or_instruction t)
unfolding or_instruction
s-instruction (Some i) = pure
s-instruction None = raises

pub s-fetch : Still fetch
unfolding fetch
s-fetch = seq (asks (λ s. s.pc)) (λ n. seq (s_read n _) (λ v. seq (changes (with_pc (suc n))) (λ u. s-instruction _)))
