-- One walk over all 33 instructions, for any invariant of cells and registers: what holds before `attempt` holds after it.
use Rattle.std.specs.Prelude.{Err, None, Ok, Option, Result, Some}
use Rattle.definition.specs.declared.Reg.TheVariants as G
use Rattle.definition.specs.declared.Op.TheVariants as O
use Rattle.definition.specs.declared.Executed.{Executed}
use Rattle.definition.specs.declared.Instruction.{Instruction}
use Rattle.definition.specs.declared.Missing.{Missing}
use Rattle.definition.specs.declared.Missing.TheVariants.{NoAddress, OutsideCells}
use Rattle.definition.specs.declared.Op.{Op}
use Rattle.definition.specs.declared.Operand.{Operand}
use Rattle.definition.specs.declared.Operand.TheVariants.{Absent, Dir, Idx, Imm, Ind, Register}
use Rattle.definition.specs.declared.Reg.{Reg}
use Rattle.definition.specs.declared.Request.{Request}
use Rattle.definition.specs.declared.Request.TheVariants.{Nothing}
use mathlib.Core.Path.{◌≡◌, refl, sym, subst}
use mathlib.Core.Bool.{Bool, true, false, cond}
use Prim.Native.Nat.{ℕ, zero, suc, ◌-◌, ◌<◌, ◌≤◌}
use native.Mathlib.Omega.{arith}
use lib.IntN.{ℤ, pos, negsuc, nat_abs}
use lib.Dec.{T, ltb, leb, ltb→lt, leb→le}
use Rattle.definition.specs.declared.Cell.{Cell}
use Rattle.definition.specs.declared.Registers.{Registers}
use Rattle.definition.specs.declared.Wrapped.{Wrapped}
use Rattle.definition.specs.declared.Word.{Word}
use Rattle.definition.specs.declared.Word.TheVariants.{Is, Empty, NotWord}
use Rattle.definition.specs.declared.Error.{Error}
use Rattle.definition.specs.declared.Error.TheVariants.{InvalidInstruction, InvalidMemoryAccess, CellError, Extract}
use Rattle.definition.specs.Constants.{ZERO, NEGATIVE, OVERFLOW}
use Rattle.definition.specs.Word.{address_of, is_shift}
use Rattle.definition.specs.Memory.{word, extract_word, as_address, extract_address, cell_count, cell_at, put_cell, found, get}
use Rattle.definition.specs.Registers.{get_reg, Put, assigned, refused, put_reg, put_pc, put_sp, put_sr, put_flag, counted, supervisor, with_a, with_b, with_pc, with_sp, with_sr, with_empties}
use Rattle.definition.specs.Arguments.{indexed, resolve, resolved, read_there, cell_there, extract_cell}
use Rattle.definition.specs.Exec.{Core, with_regs, with_cells, Exec, Res, ok, err, and_then, ◌>>=◌, return, raise, branch, ask, change, or_word, take_word, take_address, or_address, or_cell, or_given, or_put, assign, read, permits, write, check_privileged, below, push, pop}
use Rattle.definition.specs.Instructions.{cell_of, word_of, target_of, register_word, place_of, set_register, and_flags, sign_flags, put_result, put_wrapped, put_compared, put_quotient, put_shifted, words, neg, not_op, jump, jump_if, call, rtn, pop_op, push_op, ld, st, fas, swap_back, swap, rti, reset, quiet, in_op, out_op, execute}
use Rattle.definition.specs.Runtime.{or_instruction, fetch, attempt}
use Rattle.definition.specs.Accepted.{Addr}
use Rattle.definition.specs.Course.{Course}
use Rattle.definition.proofs.Course.{course}
use Rattle.definition.proofs.Verdict.{and_left, and_right}

-- The table is proved first, so that a wrong rule is refused at a row that shows it.
shown-first : Course
shown-first = course

abbrev pub Any : {X : Type 0} → X → Type 0
Any v = Unit {0}

-- I is kept by steps that may write from g on. Cells in reach satisfy Sd, Loud holds where S is set, and what is asked of the console satisfies Q.
pub record Laws (g : ℕ) (I : Core → Type 0) (Sd : Cell → Type 0) (Loud : Type 0) (Q : Request → Type 0) : Type 0 where
  pub loud : (c : Core) → I c → supervisor c.regs ≡ true → Loud
  pub quiet_q : Q Nothing
  pub loud_q : Loud → (q : Request) → Q q
  pub word_s : (w : ℤ) → Sd (word w)
  pub a_sd : (c : Core) → I c → Sd c.regs.a
  pub b_sd : (c : Core) → I c → Sd c.regs.b
  pub cell_sd : (c : Core) → I c → (n : ℕ) → n < cell_count c.cells → Sd (cell_at c.cells n)
  pub pc_a : (c : Core) → I c → Addr c.regs.pc
  pub sp_a : (c : Core) → I c → Addr c.regs.sp
  pub few : (c : Core) → I c → cell_count c.cells ≤ 10000
  pub put : (c : Core) → I c → (n : ℕ) → n < cell_count c.cells → g ≤ n → (v : Cell) → Sd v → I (with_cells (put_cell c.cells n v) c)
  pub to-a : (c : Core) → I c → (v : Cell) → Sd v → I (with_regs (with_a v c.regs) c)
  pub to-b : (c : Core) → I c → (v : Cell) → Sd v → I (with_regs (with_b v c.regs) c)
  pub to-pc : (c : Core) → I c → (n : ℕ) → Addr n → I (with_regs (with_pc n c.regs) c)
  pub to-sp : (c : Core) → I c → (n : ℕ) → Addr n → I (with_regs (with_sp n c.regs) c)
  pub to-sr : Loud → (c : Core) → I c → (w : ℤ) → I (with_regs (with_sr w c.regs) c)
  pub to-empties : (c : Core) → I c → (n : ℕ) → I (with_regs (with_empties n c.regs) c)
  pub to-flag : (c : Core) → I c → (k : ℕ) → k < 8 → (on : Bool) → I (with_regs (put_flag k on c.regs) c)

-- ---- addresses

abbrev pub AddressIn : Option ℕ → Type 0
AddressIn (Some n) = Addr n
AddressIn None = Unit {0}

pub address_of-in : (w : ℤ) → AddressIn (address_of w)
unfolding address_of
address_of-in (pos n) = go (leb n 4294967295) refl
  where
    go : (b : Bool) → leb n 4294967295 ≡ b → AddressIn (cond b (Some n) None)
    go true h = let l : n ≤ 4294967295 = leb→le n 4294967295 (subst T (sym h) tt) in omega arith
    go false h = tt
address_of-in (negsuc n) = tt

as_address-in : (w : Word) → AddressIn (as_address w)
unfolding as_address
as_address-in (Is w) = address_of-in w
as_address-in Empty = address_of-in _
as_address-in NotWord = tt

extract_address-in : (v : Cell) → AddressIn (extract_address v)
unfolding extract_address
extract_address-in v = as_address-in (extract_word v)

indexed-in : (w : Word) (k : ℤ) → AddressIn (indexed w k)
unfolding indexed
indexed-in (Is w) k = address_of-in _
indexed-in Empty k = address_of-in _
indexed-in NotWord k = tt

resolve-in : (x : Operand) (s : Registers) → AddressIn (resolve x s)
unfolding resolve
resolve-in Absent s = tt
resolve-in (Imm w) s = tt
resolve-in (Register r) s = tt
resolve-in (Dir w) s = address_of-in w
resolve-in (Ind r) s = extract_address-in _
resolve-in (Idx r k) s = indexed-in _ k

below_in : (n : ℕ) → Addr n → Addr (below n)
unfolding below
below_in zero h = omega arith
below_in (suc n) h = omega arith

-- what is known of a result
abbrev pub Good : (I : Core → Type 0) {X : Type 0} → (X → Type 0) → Res X → Type 0
Good I P (ok v c) = P v × I c
Good I P (err e c) = I c

module _ (g : ℕ) (I : Core → Type 0) (Sd : Cell → Type 0) (Loud : Type 0) (Q : Request → Type 0) (L : Laws g I Sd Loud Q) where
  pub record Keeps {X : Type 0} (P : X → Type 0) (m : Exec X) : Type 0 where
    pub at : (c : Core) → I c → Good I P (m c)

  -- ---- the monad

  good-then : {X Y : Type 0} (P : X → Type 0) (R : Y → Type 0) (r : Res X) (k : X → Exec Y) → Good I P r → ((v : X) → P v → Keeps R (k v)) → Good I R (and_then r k)
  unfolding and_then
  good-then P R (ok v c) k g h = (h v g.0).at c g.1
  good-then P R (err e c) k g h = g

  seq : {X Y : Type 0} {P : X → Type 0} {R : Y → Type 0} {m : Exec X} {k : X → Exec Y} → Keeps P m → ((v : X) → P v → Keeps R (k v)) → Keeps R (m >>= k)
  seq {P = P} {R = R} {m = m} {k = k} hm hk = record { at = λ c i. good-then P R (m c) k (hm.at c i) hk }

  pure : {X : Type 0} {P : X → Type 0} {v : X} → P v → Keeps P (return v)
  pure p = record { at = λ c i. (p, i) }

  raises : {X : Type 0} {P : X → Type 0} {e : Error} → Keeps P (raise {X = X} e)
  raises = record { at = λ c i. i }

  good-branch : {X : Type 0} (P : X → Type 0) (b : Bool) (m n : Exec X) (c : Core) → (b ≡ true → Good I P (m c)) → (b ≡ false → Good I P (n c)) → Good I P (branch b m n c)
  unfolding branch
  good-branch P true m n c f g = f refl
  good-branch P false m n c f g = g refl

  asks : {X : Type 0} {P : X → Type 0} (f : Registers → X) → ((c : Core) → I c → P (f c.regs)) → Keeps P (ask f)
  asks f h = record { at = λ c i. (h c i, i) }

  changes : (f : Registers → Registers) → ((c : Core) → I c → I (with_regs (f c.regs) c)) → Keeps Any (change f)
  changes f h = record { at = λ c i. (tt, h c i) }

  good-word : (w : Word) (e : Error) (c : Core) → I c → Good I Any (or_word w e c)
  unfolding or_word counted
  good-word (Is w) e c i = (tt, i)
  good-word Empty e c i = (tt, L.to-empties c i _)
  good-word NotWord e c i = i

  good-address : (a : Option ℕ) (e : Error) (c : Core) → AddressIn a → I c → Good I Addr (or_address a e c)
  unfolding or_address
  good-address (Some n) e c h i = (h, i)
  good-address None e c h i = i

  -- ---- cells

  abbrev Reaches : (Cell → Type 0) → Option Cell → Type 0
  Reaches P (Some v) = P v
  Reaches P None = Unit {0}

  good-cell : (P : Cell → Type 0) (f : Option Cell) (e : Error) (c : Core) → Reaches P f → I c → Good I P (or_cell f e c)
  unfolding or_cell
  good-cell P (Some v) e c h i = (h, i)
  good-cell P None e c h i = i

  -- a cell that was read stands at an address that can be stepped over
  get_in : (c : Core) → I c → (n : ℕ) → Reaches (λ (v : Cell). Sd v × (n < 10000)) (get c.cells n)
  unfolding get found
  get_in c i n = go (ltb n (cell_count c.cells)) refl
    where
      go : (b : Bool) → ltb n (cell_count c.cells) ≡ b → Reaches (λ (v : Cell). Sd v × (n < 10000)) (found b (cell_at c.cells n))
      go true h =
          let l : n < cell_count c.cells = ltb→lt n _ (subst T (sym h) tt) in let f = L.few c i in (L.cell_sd c i n l, omega arith)
      go false h = tt

  k-read : (n : ℕ) (e : Error) → Keeps (λ (v : Cell). Sd v × (n < 10000)) (read n e)
  k-read n e = record { at = λ c i. good-cell _ (get c.cells n) e c (get_in c i n) i }

  k-write : (n : ℕ) (v : Cell) → Sd v → Keeps Any (write g n v)
  unfolding write permits
  k-write n v s =
      record { at = λ c i. good-branch Any (permits g n c.cells) _ (raise InvalidMemoryAccess) c (λ h. (tt, L.put c i n (ltb→lt n _ (subst T (sym (and_left (ltb n (cell_count c.cells)) (leb g n) h)) tt)) (leb→le g n (subst T (sym (and_right (ltb n (cell_count c.cells)) (leb g n) h)) tt)) v s)) (λ h. i) }

  -- ---- registers

  reg_in : (r : Reg) (c : Core) → I c → Sd (get_reg r c.regs)
  unfolding get_reg
  reg_in G.A c i = L.a_sd c i
  reg_in G.B c i = L.b_sd c i
  reg_in G.PC c i = L.word_s _
  reg_in G.SP c i = L.word_s _
  reg_in G.SR c i = L.word_s _

  -- a word taken
  counted-in : (w : Word) (c : Core) → I c → I (with_regs (counted w c.regs) c)
  unfolding counted
  counted-in (Is w) c i = i
  counted-in Empty c i = L.to-empties c i _
  counted-in NotWord c i = i

  resolved-in : (x : Operand) (c : Core) → I c → I (with_regs (resolved x c.regs) c)
  unfolding resolved
  resolved-in Absent c i = i
  resolved-in (Imm w) c i = i
  resolved-in (Register r) c i = i
  resolved-in (Dir w) c i = i
  resolved-in (Ind r) c i = counted-in _ c i
  resolved-in (Idx r k) c i = counted-in _ c i

  abbrev GivesSd : Result Cell Missing → Type 0
  GivesSd (Ok v) = Sd v
  GivesSd (Err OutsideCells) = Unit {0}
  GivesSd (Err NoAddress) = Unit {0}

  good-given : (g : Result Cell Missing) (c : Core) → GivesSd g → I c → Good I Sd (or_given g c)
  unfolding or_given
  good-given (Ok v) c h i = (h, i)
  good-given (Err OutsideCells) c h i = i
  good-given (Err NoAddress) c h i = i

  abbrev Takes : Core → Put → Type 0
  Takes c (assigned s) = I (with_regs s c)
  Takes c (refused e) = Unit {0}

  good-put : (p : Put) (c : Core) → Takes c p → I c → Good I Any (or_put p c)
  unfolding or_put
  good-put (assigned s) c h i = (tt, h)
  good-put (refused e) c h i = i

  k-assign : (f : Registers → Put) → ((c : Core) → I c → Takes c (f c.regs)) → Keeps Any (assign f)
  k-assign f h = record { at = λ c i. good-put (f c.regs) c (h c i) i }

  takes-pc : (c : Core) (s : Registers) → I (with_regs s c) → (a : Option ℕ) → AddressIn a → Takes c (put_pc a s)
  unfolding put_pc
  takes-pc c s i (Some n) h = L.to-pc (with_regs s c) i n h
  takes-pc c s i None h = tt

  takes-sp : (c : Core) (s : Registers) → I (with_regs s c) → (a : Option ℕ) → AddressIn a → Takes c (put_sp a s)
  unfolding put_sp
  takes-sp c s i (Some n) h = L.to-sp (with_regs s c) i n h
  takes-sp c s i None h = tt

  takes-sr : (c : Core) (s : Registers) → I (with_regs s c) → (b : Bool) → (b ≡ true → Loud) → (w : Word) → Takes c (put_sr b w s)
  unfolding put_sr
  takes-sr c s i true h (Is w) = L.to-sr (h refl) (with_regs s c) i w
  takes-sr c s i true h Empty = L.to-sr (h refl) (with_regs s c) i (pos 0)
  takes-sr c s i true h NotWord = tt
  takes-sr c s i false h w = tt

  takes : (r : Reg) (v : Cell) → Sd v → (c : Core) → I c → Takes c (put_reg r v c.regs)
  unfolding put_reg
  takes G.A v h c i = L.to-a c i v h
  takes G.B v h c i = L.to-b c i v h
  takes G.PC v h c i = takes-pc c _ (counted-in (extract_word v) c i) _ (extract_address-in v)
  takes G.SP v h c i = takes-sp c _ (counted-in (extract_word v) c i) _ (extract_address-in v)
  takes G.SR v h c i = takes-sr c _ (counted-in (extract_word v) c i) (supervisor c.regs) (L.loud c i) _

  pub k-set : (r : Reg) (v : Cell) → Sd v → Keeps Any (set_register r v)
  k-set r v h = k-assign (put_reg r v) (takes r v h)

  k-check : Keeps (λ (u : Unit {0}). Loud) check_privileged
  unfolding check_privileged
  k-check =
      record { at = λ c i. good-branch (λ (u : Unit {0}). Loud) (supervisor c.regs) (return tt) (raise _) c (λ h. (L.loud c i h, i)) (λ h. i) }

  -- ---- results and flags

  takes-flags : (c : Core) (f : Registers → Registers) (p : Put) → ((s : Registers) → I (with_regs s c) → I (with_regs (f s) c)) → Takes c p → Takes c (and_flags f p)
  unfolding and_flags
  takes-flags c f (assigned s) h t = h s t
  takes-flags c f (refused e) h t = tt

  sign-in : (w : ℤ) (c : Core) (s : Registers) → I (with_regs s c) → I (with_regs (sign_flags w s) c)
  sign-in w c s i =
      L.to-flag (with_regs (put_flag ZERO _ s) c) (L.to-flag (with_regs s c) i ZERO (omega arith) _) NEGATIVE (omega arith) _

  takes-result : (r : Reg) (w : ℤ) (c : Core) → I c → Takes c (put_result r w c.regs)
  unfolding put_result
  takes-result r w c i = takes-flags c (sign_flags w) _ (sign-in w c) (takes r (word w) (L.word_s w) c i)

  takes-wrapped : (r : Reg) (x : Wrapped) (c : Core) → I c → Takes c (put_wrapped r x c.regs)
  unfolding put_wrapped
  takes-wrapped r x c i =
      takes-flags c (λ s. sign_flags x.value (put_flag OVERFLOW x.overflow s)) _ (λ s j. sign-in x.value c _ (L.to-flag (with_regs s c) j OVERFLOW (omega arith) _)) (takes r _ (L.word_s _) c i)

  takes-compared : (v w : ℤ) (c : Core) → I c → Takes c (put_compared v w c.regs)
  unfolding put_compared
  takes-compared v w c i =
      L.to-flag (with_regs (put_flag ZERO _ c.regs) c) (L.to-flag c i ZERO (omega arith) _) NEGATIVE (omega arith) _

  takes-quotient : (r : Reg) (q : Option ℤ) (c : Core) → I c → Takes c (put_quotient r q c.regs)
  unfolding put_quotient
  takes-quotient r (Some q) c i = takes-result r q c i
  takes-quotient r None c i = tt

  takes-shifted : (f : ℤ → ℕ → ℤ) (r : Reg) (v w : ℤ) (c : Core) → I c → Takes c (put_shifted f r v w c.regs)
  unfolding put_shifted
  takes-shifted f r v w c i = go (is_shift v)
    where
      go : (b : Bool) → Takes c (cond b (put_result r (f w (nat_abs v)) c.regs) (refused InvalidInstruction))
      go true = takes-result r _ c i
      go false = tt

  -- ---- operands

  there-in : (c : Core) → I c → (a : Option ℕ) → GivesSd (cell_there a c.cells)
  unfolding cell_there read_there
  there-in c i (Some n) = weak (get c.cells n) (get_in c i n)
    where
      weak : (f : Option Cell) → Reaches (λ (v : Cell). Sd v × (n < 10000)) f → GivesSd (read_there f)
      weak (Some v) h = h.0
      weak None h = tt
  there-in c i None = tt

  cell_in : (x : Operand) (c : Core) → I c → GivesSd (extract_cell x c.cells c.regs)
  unfolding extract_cell
  cell_in Absent c i = tt
  cell_in (Imm w) c i = L.word_s w
  cell_in (Register r) c i = reg_in r c i
  cell_in (Dir w) c i = there-in c i _
  cell_in (Ind r) c i = there-in c i _
  cell_in (Idx r k) c i = there-in c i _

  k-cell : (x : Operand) → Keeps Sd (cell_of x)
  k-cell x = record { at = λ c i. good-given (extract_cell x c.cells c.regs) _ (cell_in x c i) (resolved-in x c i) }

  k-take_word : (v : Cell) (e : Error) → Keeps Any (take_word v e)
  k-take_word v e = record { at = λ c i. good-word (extract_word v) e c i }

  k-take_address : (v : Cell) (e : Error) → Keeps Addr (take_address v e)
  k-take_address v e = seq (k-take_word v e) (λ w h. record { at = λ c i. good-address (address_of w) e c (address_of-in w) i })

  k-word : (x : Operand) → Keeps Any (word_of x)
  k-word x = seq (k-cell x) (λ v s. k-take_word v _)

  k-target : (x : Operand) → Keeps Addr (target_of x)
  k-target x = seq (k-cell x) (λ v s. k-take_address v _)

  k-register : (r : Reg) → Keeps Any (register_word r)
  k-register r = record { at = λ c i. (k-take_word (get_reg r c.regs) Extract).at c i }

  k-place : (x : Operand) → Keeps Addr (place_of x)
  k-place x = record { at = λ c i. good-address _ CellError _ (resolve-in x c.regs) (resolved-in x c i) }

  -- ---- the instructions

  k-push : (v : Cell) → Sd v → Keeps Any (push g v)
  unfolding push
  k-push v s =
      seq (changes (λ s. with_sp (below s.sp) s) (λ c i. L.to-sp c i _ (below_in _ (L.sp_a c i)))) (λ u h. seq {P = Any} (asks (λ s. s.sp) (λ c i. tt)) (λ n h. k-write n v s))

  k-pop : Keeps Sd pop
  unfolding pop
  k-pop =
      seq
      {P = Any}
      (asks (λ s. s.sp) (λ c i. tt))
      (λ n h. seq (k-read n _) (λ v s. seq (changes (with_sp (suc n)) (λ c i. L.to-sp c i (suc n) (let l : n < 10000 = s.1 in omega arith))) (λ u h. pure s.0)))

  k-jump : (x : Operand) → Keeps Any (jump x)
  unfolding jump
  k-jump x = seq (k-target x) (λ n h. changes (with_pc n) (λ c i. L.to-pc c i n h))

  k-jump_if : (t : Bool → Bool → Bool) (x : Operand) → Keeps Any (jump_if t x)
  unfolding jump_if
  k-jump_if t x =
      record { at = λ c i. good-branch Any _ (jump x) (return tt) c (λ h. (k-jump x).at c i) (λ h. (tt, i)) }

  k-words : (x : Operand) (r : Reg) (f : ℤ → ℤ → Registers → Put) → ((v w : ℤ) (c : Core) → I c → Takes c (f v w c.regs)) → Keeps Any (words x r f)
  unfolding words
  k-words x r f h = seq (k-word x) (λ v p. seq (k-register r) (λ w p. k-assign (f v w) (h v w)))

  k-neg : (r : Reg) → Keeps Any (neg r)
  unfolding neg
  k-neg r = seq (k-register r) (λ w h. k-assign _ (takes-wrapped r _))

  k-not : (r : Reg) → Keeps Any (not_op r)
  unfolding not_op
  k-not r = seq (k-register r) (λ w h. k-assign _ (takes-result r _))

  k-call : (x : Operand) → Keeps Any (call g x)
  unfolding call
  k-call x = seq {P = Any} (asks (λ s. s.pc) (λ c i. tt)) (λ n h. seq (k-push _ (L.word_s _)) (λ u h. k-jump x))

  k-rtn : Keeps Any rtn
  unfolding rtn
  k-rtn = seq k-pop (λ v s. seq (k-take_address v _) (λ n h. changes (with_pc n) (λ c i. L.to-pc c i n h)))

  k-pop_op : (r : Reg) → Keeps Any (pop_op r)
  unfolding pop_op
  k-pop_op r = seq k-pop (λ v s. k-set r v s)

  k-push_op : (x : Operand) → Keeps Any (push_op g x)
  unfolding push_op
  k-push_op x = seq (k-cell x) (λ v s. k-push v s)

  k-ld : (x : Operand) (r : Reg) → Keeps Any (ld x r)
  unfolding ld
  k-ld x r = seq (k-cell x) (λ v s. k-set r v s)

  k-st : (r : Reg) (y : Operand) → Keeps Any (st g r y)
  unfolding st
  k-st r y = seq (k-register r) (λ w h. seq (k-place y) (λ n h. k-write n _ (L.word_s _)))

  k-fas : (x : Operand) (r : Reg) → Keeps Any (fas g x r)
  unfolding fas
  k-fas x r =
      seq (k-place x) (λ n h. seq (k-read n _) (λ v s. seq (k-write n _ (L.word_s _)) (λ u h. k-set r v s.0)))

  k-store : (x : Operand) (v : Cell) → Sd v → Keeps Any (place_of x >>= (λ (n : ℕ). write g n v))
  k-store x v s = seq (k-place x) (λ n h. k-write n v s)

  k-swap_back : (x : Operand) (v : Cell) → Sd v → Keeps Any (swap_back g x v)
  unfolding swap_back
  k-swap_back Absent v s = raises
  k-swap_back (Imm w) v s = raises
  k-swap_back (Register r) v s = k-set r v s
  k-swap_back (Dir w) v s = k-store _ v s
  k-swap_back (Ind r) v s = k-store _ v s
  k-swap_back (Idx r k) v s = k-store _ v s

  k-swap : (x : Operand) (r : Reg) → Keeps Any (swap g x r)
  unfolding swap
  k-swap x r =
      seq (k-cell x) (λ v s. seq (asks (get_reg r) (reg_in r)) (λ old t. seq (k-set r v s) (λ u h. k-swap_back x old t)))

  k-rti : Keeps Any rti
  unfolding rti
  k-rti =
      seq
      k-check
      (λ u l. seq (k-read 100 _) (λ v s. seq (k-take_address v _) (λ n h. seq (changes (with_pc n) (λ c i. L.to-pc c i n h)) (λ u h. seq (k-read 101 _) (λ v s. seq (k-take_word v _) (λ w h. changes (with_sr w) (λ c i. L.to-sr l c i w)))))))

  k-reset : Keeps Any reset
  unfolding reset
  k-reset = seq (changes (λ s. with_pc (s.pc - 1) s) (λ c i. L.to-pc c i _ (let l : Addr c.regs.pc = L.pc_a c i in omega arith))) (λ u h. raises)

  k-quiet : {m : Exec (Unit {0})} → Keeps Any m → Keeps Q (quiet m)
  unfolding quiet
  k-quiet h = seq h (λ u h. pure L.quiet_q)

  k-in : (x : Operand) (r : Reg) → Keeps Q (in_op x r)
  unfolding in_op
  k-in x r = seq k-check (λ u l. seq (k-place x) (λ n h. pure (L.loud_q l _)))

  k-out : (x y : Operand) → Keeps Q (out_op x y)
  unfolding out_op
  k-out x y = seq k-check (λ u l. seq (k-word x) (λ w h. seq (k-place y) (λ n h. pure (L.loud_q l _))))

  k-execute : (o : Op) (x y : Operand) (r₁ r₂ : Reg) → Keeps Q (execute g o x y r₁ r₂)
  unfolding execute
  k-execute O.Add x y r₁ r₂ = k-quiet (k-words x r₂ _ (λ v w. takes-wrapped r₂ _))
  k-execute O.And x y r₁ r₂ = k-quiet (k-words x r₂ _ (λ v w. takes-result r₂ _))
  k-execute O.Call x y r₁ r₂ = k-quiet (k-call x)
  k-execute O.Cmp x y r₁ r₂ = k-quiet (k-words x r₂ _ takes-compared)
  k-execute O.Div x y r₁ r₂ = k-quiet (k-words x r₂ _ (λ v w. takes-quotient r₂ _))
  k-execute O.Fas x y r₁ r₂ = k-quiet (k-fas x r₂)
  k-execute O.In x y r₁ r₂ = k-in x r₂
  k-execute O.Jmp x y r₁ r₂ = k-quiet (k-jump x)
  k-execute O.Jeq x y r₁ r₂ = k-quiet (k-jump_if _ x)
  k-execute O.Jne x y r₁ r₂ = k-quiet (k-jump_if _ x)
  k-execute O.Jle x y r₁ r₂ = k-quiet (k-jump_if _ x)
  k-execute O.Jlt x y r₁ r₂ = k-quiet (k-jump_if _ x)
  k-execute O.Jge x y r₁ r₂ = k-quiet (k-jump_if _ x)
  k-execute O.Jgt x y r₁ r₂ = k-quiet (k-jump_if _ x)
  k-execute O.Ld x y r₁ r₂ = k-quiet (k-ld x r₂)
  k-execute O.Mul x y r₁ r₂ = k-quiet (k-words x r₂ _ (λ v w. takes-wrapped r₂ _))
  k-execute O.Neg x y r₁ r₂ = k-quiet (k-neg r₁)
  k-execute O.Nop x y r₁ r₂ = k-quiet (pure tt)
  k-execute O.Not x y r₁ r₂ = k-quiet (k-not r₁)
  k-execute O.Or x y r₁ r₂ = k-quiet (k-words x r₂ _ (λ v w. takes-result r₂ _))
  k-execute O.Out x y r₁ r₂ = k-out x y
  k-execute O.Pop x y r₁ r₂ = k-quiet (k-pop_op r₁)
  k-execute O.Push x y r₁ r₂ = k-quiet (k-push_op x)
  k-execute O.Reset x y r₁ r₂ = k-quiet k-reset
  k-execute O.Rti x y r₁ r₂ = k-quiet k-rti
  k-execute O.Rtn x y r₁ r₂ = k-quiet k-rtn
  k-execute O.Shl x y r₁ r₂ = k-quiet (k-words x r₂ _ (takes-shifted _ r₂))
  k-execute O.Shr x y r₁ r₂ = k-quiet (k-words x r₂ _ (takes-shifted _ r₂))
  k-execute O.St x y r₁ r₂ = k-quiet (k-st r₁ y)
  k-execute O.Sub x y r₁ r₂ = k-quiet (k-words x r₂ _ (λ v w. takes-wrapped r₂ _))
  k-execute O.Swap x y r₁ r₂ = k-quiet (k-swap x r₂)
  k-execute O.Trap x y r₁ r₂ = k-quiet raises
  k-execute O.Xor x y r₁ r₂ = k-quiet (k-words x r₂ _ (λ v w. takes-result r₂ _))

  k-instruction : (t : Option Instruction) → Keeps Any (or_instruction t)
  unfolding or_instruction
  k-instruction (Some i) = pure tt
  k-instruction None = raises

  k-fetch : Keeps Any fetch
  unfolding fetch
  k-fetch =
      seq
      {P = Any}
      (asks (λ s. s.pc) (λ c i. tt))
      (λ n h. seq (k-read n _) (λ v s. seq (changes (with_pc (suc n)) (λ c i. L.to-pc c i (suc n) (let l : n < 10000 = s.1 in omega arith))) (λ u h. k-instruction _)))

  k-attempt : Keeps (λ (x : Executed). Q x.request) (attempt g)
  unfolding attempt
  k-attempt = seq k-fetch (λ i h. seq (k-execute _ _ _ _ _) (λ q h. pure h))

  pub attempt-keeps : (c : Core) → I c → Good I (λ (x : Executed). Q x.request) (attempt g c)
  attempt-keeps c i = k-attempt.at c i
