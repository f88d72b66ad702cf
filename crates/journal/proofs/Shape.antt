-- An instruction comes to its one write, which is the one `aim` names, or leaves the cells.
use Rattle.definition.specs.declared.Op.TheVariants as O
use Rattle.definition.specs.declared.Executed.{Executed}
use Rattle.definition.specs.declared.Instruction.{Instruction}
use Rattle.definition.specs.declared.Op.{Op}
use Rattle.definition.specs.declared.Operand.{Operand}
use Rattle.definition.specs.declared.Operand.TheVariants.{Absent, Dir, Idx, Imm, Ind, Register}
use Rattle.definition.specs.declared.Reg.{Reg}
use Rattle.definition.specs.declared.Request.{Request}
use Rattle.definition.specs.declared.Request.TheVariants.{Nothing}
use mathlib.Core.Path.{◌≡◌, refl, ap, ◌∙◌, subst}
use mathlib.Core.List.{List}
use Prim.Native.Nat.{ℕ}
use lib.IntN.{ℤ, pos}
use Rattle.definition.specs.declared.Cell.{Cell}
use Rattle.definition.specs.declared.Error.{Error}
use Rattle.definition.specs.declared.Error.TheVariants.{CellError, InvalidMemoryAccess, InvalidInstruction}
use Rattle.definition.specs.Memory.{word}
use Rattle.definition.specs.Registers.{get_reg, with_sp}
use Rattle.definition.specs.Arguments.{resolve, resolved}
use Rattle.definition.specs.Exec.{Core, with_regs, Exec, Res, ok, err, and_then, ◌>>=◌, ◌>>◌, return, raise, ask, read, write, push, below, or_address}
use Rattle.definition.specs.Instructions.{cell_of, register_word, place_of, set_register, jump, call, push_op, st, fas, swap_back, swap, quiet, execute}
use Rattle.definition.specs.Runtime.{fetch, attempt}
use Rattle.journal.specs.Writes.{aim_push, aim_push_op, aim_st, aim_fas, aim_swap, nowhere, aim, aimed}
use Rattle.journal.specs.StepBack.{cells_of}
use Rattle.journal.proofs.Still.{Still, then-still, seq, pure, raises, s-set, s_read, s-cell, s-register, s-place, s-jump, s-jump_if, s-words, s-neg, s-not, s-rtn, s-pop_op, s-ld, s-rti, s-reset, s-quiet, s-in, s-out, s-fetch}

-- From the cells l: a is where the write would go, and e what comes of it where the step may write from an address on. Either it ends before,
-- whatever may be written, or it comes to that write and then leaves the cells.
pub data Shape {X : Type 0} (l : List ℤ) (a : Res ℕ) (e : ℕ → Res X) : Type 0 where
  before : (x : Error) (d : Core) → a ≡ err x d → (r : Res X) → cells_of r ≡ l → ((g : ℕ) → e g ≡ r) → Shape l a e
  comes : (n : ℕ) (d : Core) → a ≡ ok n d → (b : Core) → b.cells ≡ l → (v : Cell) (k : Exec X) → Still k → ((g : ℕ) → e g ≡ and_then (write g n v b) (λ u. k)) → Shape l a e

-- ---- the monad

then-assoc : {X Y Z : Type 0} (r : Res X) (k : X → Exec Y) (h : Y → Exec Z) → and_then (and_then r k) h ≡ and_then r (λ v c. and_then (k v c) h)
unfolding and_then
then-assoc (ok v c) k h = refl
then-assoc (err e c) k h = refl

then-unit : (r : Res (Unit {0})) → r ≡ and_then r (λ u. return tt)
unfolding and_then
then-unit (ok tt c) = refl
then-unit (err e c) = refl

-- something that leaves the cells, before
first : {X Y : Type 0} {l : List ℤ} (r : Res Y) → cells_of r ≡ l → (a : Y → Exec ℕ) (e : Y → ℕ → Exec X) → ((v : Y) (d : Core) → d.cells ≡ l → Shape l (a v d) (λ g. e v g d)) → Shape l (and_then r a) (λ g. and_then r (λ v. e v g))
unfolding and_then
first (ok v d) q a e h = h v d q
first (err x d) q a e h = before x d refl (err x d) q (λ g. refl)

-- and after
last : {X Y : Type 0} {l : List ℤ} {a : Res ℕ} {e : ℕ → Res X} → Shape l a e → (k : X → Exec Y) → ((v : X) → Still (k v)) → Shape l a (λ g. and_then (e g) k)
last (before x d p r q f) k s = before x d p (and_then r k) (then-still r k s ∙ q) (λ g. ap (λ (y : Res _). and_then y k) (f g))
last (comes n d p b q v h t f) k s =
    comes n d p b q v (λ c. and_then (h c) k) (seq t s) (λ g. ap (λ (y : Res _). and_then y k) (f g) ∙ then-assoc (write g n v b) (λ u. h) k)

-- ---- the writes

writes : {l : List ℤ} (n : ℕ) (v : Cell) (c : Core) → c.cells ≡ l → Shape l (ok n c) (λ g. write g n v c)
writes n v c q = comes n c refl c q v (return tt) pure (λ g. then-unit (write g n v c))

pushes : {l : List ℤ} (v : Cell) (c : Core) → c.cells ≡ l → Shape l (aim_push c) (λ g. push g v c)
unfolding push and_then aim_push
pushes v c q = comes (below c.regs.sp) c refl (with_regs (with_sp (below c.regs.sp) c.regs) c) q v (return tt) pure (λ g. then-unit (write g (below c.regs.sp) v (with_regs (with_sp (below c.regs.sp) c.regs) c)))

stores : {l : List ℤ} (x : Operand) (v : Cell) (c : Core) → c.cells ≡ l → Shape l (place_of x c) (λ g. and_then (place_of x c) (λ n. write g n v))
unfolding and_then
stores {l} x v c q = go (place_of x c) ((s-place x).at c ∙ q)
  where
    go : (r : Res ℕ) → cells_of r ≡ l → Shape l r (λ g. and_then r (λ n. write g n v))
    go (ok n d) p = writes n v d p
    go (err e d) p = before e d refl (err e d) p (λ g. refl)

-- ---- the five instructions

shape-call : (x : Operand) (c : Core) → Shape c.cells (aim_push c) (λ g. call g x c)
unfolding call and_then
shape-call x c = last (pushes (word (pos c.regs.pc)) c refl) (λ u. jump x) (λ u. s-jump x)

shape-push : (x : Operand) (c : Core) → Shape c.cells (aim_push_op x c) (λ g. push_op g x c)
unfolding push_op aim_push_op
shape-push x c = first (cell_of x c) ((s-cell x).at c) (λ v. aim_push) (λ v g. push g v) (λ v d q. pushes v d q)

shape-st : (r : Reg) (y : Operand) (c : Core) → Shape c.cells (aim_st r y c) (λ g. st g r y c)
unfolding st aim_st
shape-st r y c = first (register_word r c) ((s-register r).at c) (λ w. place_of y) (λ w g. place_of y >>= (λ (n : ℕ). write g n (word w))) (λ w d q. stores y (word w) d q)

shape-fas : (x : Operand) (r : Reg) (c : Core) → Shape c.cells (aim_fas x c) (λ g. fas g x r c)
unfolding fas aim_fas
shape-fas x r c =
    first
    (place_of x c)
    ((s-place x).at c)
    (λ n. read n InvalidMemoryAccess >>= (λ (v : Cell). return n))
    (λ n g. read n InvalidMemoryAccess >>= (λ (v : Cell). write g n (word (pos 1)) >> set_register r v))
    (λ n d q. first (read n InvalidMemoryAccess d) ((s_read n InvalidMemoryAccess).at d ∙ q) (λ v. return n) (λ v g. write g n (word (pos 1)) >> set_register r v) (λ v b p. last (writes n (word (pos 1)) b p) (λ u. set_register r v) (λ u. s-set r v)))

-- without an address nothing is written, whatever may be
no_place : {l : List ℤ} (x : Operand) (m : Exec (Unit {0})) (c d : Core) → c.cells ≡ l → place_of x c ≡ err CellError d → Still m → Shape l (place_of x c) (λ g. m c)
no_place x m c d q p s = before CellError d p (m c) (s.at c ∙ q) (λ g. refl)

shape-back : {l : List ℤ} (x : Operand) (v : Cell) (c : Core) → c.cells ≡ l → Shape l (place_of x c) (λ g. swap_back g x v c)
unfolding swap_back or_address resolve resolved
shape-back Absent v c q = no_place Absent (raise CellError) c c q refl raises
shape-back (Imm w) v c q = no_place (Imm w) (raise CellError) c c q refl raises
shape-back (Register r) v c q = no_place (Register r) (set_register r v) c c q refl (s-set r v)
shape-back (Dir w) v c q = stores (Dir w) v c q
shape-back (Ind r) v c q = stores (Ind r) v c q
shape-back (Idx r k) v c q = stores (Idx r k) v c q

shape-swap : (x : Operand) (r : Reg) (c : Core) → Shape c.cells (aim_swap x r c) (λ g. swap g x r c)
unfolding swap aim_swap and_then
shape-swap x r c =
    first
    (cell_of x c)
    ((s-cell x).at c)
    (λ v. set_register r v >> place_of x)
    (λ v g. ask (get_reg r) >>= (λ (old : Cell). set_register r v >> swap_back g x old))
    (λ v d q. first (set_register r v d) ((s-set r v).at d ∙ q) (λ u. place_of x) (λ u g. swap_back g x (get_reg r d.regs)) (λ u b p. shape-back x (get_reg r d.regs) b p))

-- ---- all 33

quietly : (a : Exec ℕ) (m : ℕ → Exec (Unit {0})) (c : Core) → Shape c.cells (a c) (λ g. m g c) → Shape c.cells (a c) (λ g. quiet (m g) c)
unfolding quiet
quietly a m c s = last s (λ u. return Nothing) (λ u. pure)

plain : (m : Exec Request) (c : Core) → Still m → Shape c.cells (nowhere c) (λ g. m c)
unfolding nowhere
plain m c s = before InvalidInstruction c refl (m c) (s.at c) (λ g. refl)

pub shape-execute : (o : Op) (x y : Operand) (r₁ r₂ : Reg) (c : Core) → Shape c.cells (aim o x y r₁ r₂ c) (λ g. execute g o x y r₁ r₂ c)
unfolding aim execute
shape-execute O.Add x y r₁ r₂ c = plain _ c (s-quiet (s-words x r₂ _))
shape-execute O.And x y r₁ r₂ c = plain _ c (s-quiet (s-words x r₂ _))
shape-execute O.Call x y r₁ r₂ c = quietly aim_push (λ g. call g x) c (shape-call x c)
shape-execute O.Cmp x y r₁ r₂ c = plain _ c (s-quiet (s-words x r₂ _))
shape-execute O.Div x y r₁ r₂ c = plain _ c (s-quiet (s-words x r₂ _))
shape-execute O.Fas x y r₁ r₂ c = quietly (aim_fas x) (λ g. fas g x r₂) c (shape-fas x r₂ c)
shape-execute O.In x y r₁ r₂ c = plain _ c (s-in x r₂)
shape-execute O.Jmp x y r₁ r₂ c = plain _ c (s-quiet (s-jump x))
shape-execute O.Jeq x y r₁ r₂ c = plain _ c (s-quiet (s-jump_if _ x))
shape-execute O.Jne x y r₁ r₂ c = plain _ c (s-quiet (s-jump_if _ x))
shape-execute O.Jle x y r₁ r₂ c = plain _ c (s-quiet (s-jump_if _ x))
shape-execute O.Jlt x y r₁ r₂ c = plain _ c (s-quiet (s-jump_if _ x))
shape-execute O.Jge x y r₁ r₂ c = plain _ c (s-quiet (s-jump_if _ x))
shape-execute O.Jgt x y r₁ r₂ c = plain _ c (s-quiet (s-jump_if _ x))
shape-execute O.Ld x y r₁ r₂ c = plain _ c (s-quiet (s-ld x r₂))
shape-execute O.Mul x y r₁ r₂ c = plain _ c (s-quiet (s-words x r₂ _))
shape-execute O.Neg x y r₁ r₂ c = plain _ c (s-quiet (s-neg r₁))
shape-execute O.Nop x y r₁ r₂ c = plain _ c (s-quiet pure)
shape-execute O.Not x y r₁ r₂ c = plain _ c (s-quiet (s-not r₁))
shape-execute O.Or x y r₁ r₂ c = plain _ c (s-quiet (s-words x r₂ _))
shape-execute O.Out x y r₁ r₂ c = plain _ c (s-out x y)
shape-execute O.Pop x y r₁ r₂ c = plain _ c (s-quiet (s-pop_op r₁))
shape-execute O.Push x y r₁ r₂ c = quietly (aim_push_op x) (λ g. push_op g x) c (shape-push x c)
shape-execute O.Reset x y r₁ r₂ c = plain _ c (s-quiet s-reset)
shape-execute O.Rti x y r₁ r₂ c = plain _ c (s-quiet s-rti)
shape-execute O.Rtn x y r₁ r₂ c = plain _ c (s-quiet s-rtn)
shape-execute O.Shl x y r₁ r₂ c = plain _ c (s-quiet (s-words x r₂ _))
shape-execute O.Shr x y r₁ r₂ c = plain _ c (s-quiet (s-words x r₂ _))
shape-execute O.St x y r₁ r₂ c = quietly (aim_st r₁ y) (λ g. st g r₁ y) c (shape-st r₁ y c)
shape-execute O.Sub x y r₁ r₂ c = plain _ c (s-quiet (s-words x r₂ _))
shape-execute O.Swap x y r₁ r₂ c = quietly (aim_swap x r₂) (λ g. swap g x r₂) c (shape-swap x r₂ c)
shape-execute O.Trap x y r₁ r₂ c = plain _ c (s-quiet raises)
shape-execute O.Xor x y r₁ r₂ c = plain _ c (s-quiet (s-words x r₂ _))

abbrev costs : Instruction → Request → Exec Executed
costs i q = return (record { cost = i.cycles; request = q })

pub shape-attempt : (c : Core) → Shape c.cells (aimed c) (λ g. attempt g c)
unfolding attempt aimed
shape-attempt c =
    first
    (fetch c)
    (s-fetch.at c)
    (λ i. aim i.op i.x i.y i.r1 i.r2)
    (λ i g. execute g i.op i.x i.y i.r1 i.r2 >>= costs i)
    (λ i d q. subst (λ (l : List ℤ). Shape {X = Executed} l (aim i.op i.x i.y i.r1 i.r2 d) (λ g. and_then (execute g i.op i.x i.y i.r1 i.r2 d) (costs i))) q (last (shape-execute i.op i.x i.y i.r1 i.r2 d) (costs i) (λ q. pure)))
