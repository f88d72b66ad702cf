-- That the pieces which the code puts make the line of Listing, and that a line is short. Assumes nothing.
use Rattle.std.proofs.Common.{◌≡◌, ℕ, zero, suc, ◌+◌, ◌-◌, ◌/◌, ◌%◌, ◌≤◌, ◌<◌, Bool, true, false, cond, ◌&&◌, eqb, ℤ, pos, negsuc, nat_abs, List, [], ◌∷◌, ◌++◌, length, map, get_or, refl, sym, ap, ap₂, ◌∙◌, true≢false, append_assoc, append-nil, arith, length-append}
use mir.Facts.{to_z-of_z}
use lib.Signed.{lt_z}
use lib.Dec.{leb}
use borrow.Author.Tests.{ltb-true, leb-true}
use Rattle.std.proofs.lemmas.List.{get_or-map}
use Rattle.definition.specs.declared.Cell.{Cell}
use Rattle.definition.specs.declared.Op.TheVariants.{Trap}
use Rattle.definition.specs.declared.Reg.TheVariants.{A}
use Rattle.definition.specs.Word.{eq_z}
use Rattle.definition.specs.Registers.{regs, reg_at}
use Rattle.definition.specs.Arguments as D
use Rattle.definition.specs.Encoding.{ops, op_at, op_number, mode₁, mode₂, reg₁, reg₂, legal, decode, sound_instruction, sound_at, sound}
use Rattle.printing.specs.Decimal.{numeral}
use Rattle.printing.proofs.Laws.{texts, decimal_short, numeral_short}
use Rattle.expression.proofs.Spans.{by_bool, clash}
use Rattle.expression.proofs.Sound.{both}
use Rattle.encoding.proofs.Sound.{Code, code, code-sound, far}
use Rattle.assembly.specs.Grammar.{mnemonics, registers}
use Rattle.listing.specs.Listing.{index_text, register_text, operand_text, operands_text, word_text, code_text, content_text}
use Rattle.listing.specs.Names.{mnemonic, register}
use Rattle.listing.specs.Pieces.{operand, is_absent, operands, instruction, cell_text}
use Rattle.listing.proofs.Readings.{is_zero}

-- ---- the names are the grammar's

mnemonic-at : (o : ℕ) → o < 33 → mnemonic (op_at o) ≡ get_or mnemonics o []
unfolding op_at
mnemonic-at o h = sym (get_or-map mnemonic ops o Trap [] h)

register-at : (r : ℕ) → r < 5 → register (reg_at r) ≡ get_or registers r []
unfolding reg_at
register-at r h = sym (get_or-map register regs r A [] h)

-- ---- an index

pub index_plus : (w : ℤ) → lt_z w (pos 0) ≡ false → index_text w ≡ 43 ∷ numeral w
unfolding index_text numeral
index_plus (pos n) h = refl
index_plus (negsuc n) h = absurd (true≢false h)

pub index_minus : (w : ℤ) → lt_z w (pos 0) ≡ true → index_text w ≡ numeral w
unfolding index_text
index_minus (pos n) h = let a : n < 0 = ltb-true n 0 h in absurd (omega arith)
index_minus (negsuc n) h = refl

pub ruleset indices = (texts, to_z-of_z, index_plus, index_minus)

-- ---- an instruction's text

operand-at : (m r : ℕ) (w : ℤ) → m < 6 → r < 5 → operand (D.operand m r w) ≡ operand_text m r w
unfolding D.operand operand_text
operand-at zero r w h i = refl
operand-at (suc zero) r w h i = refl
operand-at (suc (suc zero)) r w h i = rw (register-at r i)
operand-at (suc (suc (suc zero))) r w h i = refl
operand-at (suc (suc (suc (suc zero)))) r w h i = rw (register-at r i)
operand-at (suc (suc (suc (suc (suc zero))))) r w h i = rw (register-at r i) (ap (λ (t : List ℕ). 91 ∷ t) (append_assoc (register_text r) (index_text w) (93 ∷ [])))
operand-at (suc (suc (suc (suc (suc (suc m)))))) r w h i = absurd (omega arith)

is_none : ℕ → Bool
is_none zero = true
is_none (suc m) = false

absent-at : (m r : ℕ) (w : ℤ) → m < 6 → is_absent (D.operand m r w) ≡ is_none m
unfolding D.operand is_none
absent-at zero r w h = refl
absent-at (suc zero) r w h = refl
absent-at (suc (suc zero)) r w h = refl
absent-at (suc (suc (suc zero))) r w h = refl
absent-at (suc (suc (suc (suc zero)))) r w h = refl
absent-at (suc (suc (suc (suc (suc zero))))) r w h = refl
absent-at (suc (suc (suc (suc (suc (suc m)))))) r w h = absurd (omega arith)

by-modes : (m n : ℕ) (x y : List ℕ) → cond (is_none m) [] (32 ∷ (x ++ cond (is_none n) [] (44 ∷ 32 ∷ y))) ≡ operands_text m n x y
unfolding operands_text is_none
by-modes zero n x y = refl
by-modes (suc m) zero x y = ap (λ (t : List ℕ). 32 ∷ t) (append-nil x)
by-modes (suc m) (suc n) x y = refl

operands-at : (m n q r : ℕ) (f s : ℤ) → m < 6 → n < 6 → q < 5 → r < 5 → operands (D.operand m q f) (D.operand n r s) ≡ operands_text m n (operand_text m q f) (operand_text n r s)
operands-at m n q r f s h i j k = rw (absent-at m q f h, absent-at n r s i, operand-at m q f h j, operand-at n r s i k) (by-modes m n (operand_text m q f) (operand_text n r s))

instruction-at : (t : ℕ) (f s : ℤ) → t < 29700 → instruction (decode t f s) ≡ code_text t f s
unfolding decode code_text
instruction-at t f s h =
    ap₂ (λ (x y : List ℕ). x ++ y) (mnemonic-at (op_number t) (omega arith)) (operands-at (mode₁ t) (mode₂ t) (reg₁ t) (reg₂ t) f s (omega arith) (omega arith) (omega arith) (omega arith))

-- ---- a cell's text

as-code : (t f s : ℤ) → lt_z t (pos 2) ≡ false → content_text t f s ≡ code_text (nat_abs t - 2) f s
unfolding content_text
as-code (pos zero) f s k = absurd (true≢false k)
as-code (pos (suc zero)) f s k = absurd (true≢false k)
as-code (pos (suc (suc n))) f s k =
    let e : suc (suc n) - 2 ≡ n = omega arith in
    ap (λ (x : ℕ). code_text x f s) (sym e)
as-code (negsuc n) f s k = absurd (true≢false k)

-- the tag of a word or an empty cell
pub plain-text : (t f s : ℤ) → sound_at t f s ≡ true → lt_z t (pos 2) ≡ true → content_text t f s ≡ word_text f
unfolding content_text sound_at
plain-text (pos zero) f s h k = ap word_text (sym (is_zero f (both (eq_z f (pos 0)) (eq_z s (pos 0)) h).0))
plain-text (pos (suc zero)) f s h k = refl
plain-text (pos (suc (suc n))) f s h k = let l : suc (suc n) < 2 = ltb-true (suc (suc n)) 2 k in absurd (omega arith)
plain-text (negsuc n) f s h k = clash h refl

-- the tag of an instruction
module _ (v : Cell) (h : sound v ≡ true) (k : lt_z v.tag (pos 2) ≡ false) where
  pub code-tag : Code v.tag
  unfolding sound
  code-tag = by_bool (lt_z v.tag (pos 29702)) (λ e. code v.tag k e) (λ e. clash h (sym (far v.tag v.first v.second e)))

  pub code-legal : legal (op_number (nat_abs v.tag - 2)) (mode₁ (nat_abs v.tag - 2)) (mode₂ (nat_abs v.tag - 2)) ≡ true
  unfolding sound sound_instruction
  code-legal = (both _ _ (code-sound v.tag v.first v.second k ∙ h)).0

  pub code-text : instruction (decode (nat_abs v.tag - 2) v.first v.second) ≡ cell_text v
  code-text = instruction-at (nat_abs v.tag - 2) v.first v.second code-tag.most ∙ sym (as-code v.tag v.first v.second k)

-- ---- a line is short

all_short : ℕ → List (List ℕ) → Bool
all_short k [] = true
all_short k (x ∷ l) = leb (length x) k && all_short k l

name-short : (k : ℕ) (l : List (List ℕ)) (n : ℕ) → all_short k l ≡ true → length (get_or l n []) ≤ k
unfolding all_short
name-short k [] n h = omega arith
name-short k (x ∷ l) zero h = leb-true (length x) k (both (leb (length x) k) (all_short k l) h).0
name-short k (x ∷ l) (suc n) h = name-short k l n (both (leb (length x) k) (all_short k l) h).1

mnemonic-short : (o : ℕ) → length (get_or mnemonics o []) ≤ 5
unfolding all_short
mnemonic-short o = name-short 5 mnemonics o refl

register-short : (r : ℕ) → length (register_text r) ≤ 3
unfolding all_short
register-short r = let a = name-short 2 registers r refl in omega arith

index_short : (w : ℤ) → length (index_text w) ≤ 21
unfolding index_text
index_short (pos n) = let a = decimal_short n in omega arith
index_short (negsuc n) = numeral_short (negsuc n)

operand_short : (m r : ℕ) (w : ℤ) → length (operand_text m r w) ≤ 26
unfolding operand_text
operand_short zero r w = omega arith
operand_short (suc zero) r w = let a = numeral_short w in omega arith
operand_short (suc (suc zero)) r w = let a = register-short r in omega arith
operand_short (suc (suc (suc zero))) r w = let a = numeral_short w in simp length-append (omega arith)
operand_short (suc (suc (suc (suc zero)))) r w = let a = register-short r in simp length-append (omega arith)
operand_short (suc (suc (suc (suc (suc m))))) r w = let a = register-short r in let b = index_short w in simp length-append (omega arith)

operands_short : (m n : ℕ) (x y : List ℕ) → length x ≤ 26 → length y ≤ 26 → length (operands_text m n x y) ≤ 55
unfolding operands_text
operands_short zero n x y h k = omega arith
operands_short (suc m) zero x y h k = omega arith
operands_short (suc m) (suc n) x y h k = simp length-append (omega arith)

word-short : (w : ℤ) → length (word_text w) ≤ 79
word-short w = let a = numeral_short w in omega arith

code-short : (t : ℕ) (f s : ℤ) → length (code_text t f s) ≤ 79
unfolding code_text
code-short t f s =
    let a = mnemonic-short (op_number t) in
    let b = operands_short (mode₁ t) (mode₂ t) _ _ (operand_short (mode₁ t) (reg₁ t) f) (operand_short (mode₂ t) (reg₂ t) s) in
    simp length-append (omega arith)

pub content_short : (t f s : ℤ) → length (content_text t f s) ≤ 79
unfolding content_text
content_short (pos zero) f s = word-short (pos 0)
content_short (pos (suc zero)) f s = word-short f
content_short (pos (suc (suc t))) f s = code-short t f s
content_short (negsuc n) f s = omega arith

pub ruleset shorts = (texts, content_short)
