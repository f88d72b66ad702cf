-- A sound cell's line is a line of the grammar, and its reading makes that cell. Assumes nothing.
use mathlib.Core.Path.{◌≡◌, refl, sym, ap, ◌∙◌, subst}
use mathlib.Core.Bool.{true, false, not, ◌&&◌, ◌||◌}
use mathlib.Core.List.{List, [], ◌∷◌, ◌++◌, append-nil}
use mathlib.Core.Option.{Option, none}
use Prim.Native.Nat.{ℕ, zero, suc, ◌+◌, ◌*◌, ◌≤◌, ◌<◌, ◌/◌, ◌%◌, ◌^◌}
use native.Mathlib.Omega.{arith}
use native.Mathlib.Nat.{pow-suc}
use lib.IntN.{ℤ, pos, negsuc}
use lib.ListN.{length, get_or, length-append}
use lib.Dec.{eqb}
use borrow.Author.Tests.{ltb-true, eqb-true, lt-ltb}
use Rattle.definition.specs.declared.Cell.{Cell}
use Rattle.definition.specs.Word.{is_word, eq_z, address_of}
use Rattle.definition.specs.Encoding.{legal, signature, op_at, allows, op_number, mode₁, mode₂, reg₁, reg₂, tag_of, sound, sound_at, sound_instruction, register_fits, number_fits, is_address}
use Rattle.definition.proofs.Encoding.{tag-laws}
use Rattle.word.proofs.Laws.{ltb-elim}
use Rattle.printing.specs.Decimal.{decimal_in, decimal, numeral}
use Rattle.expression.specs.Grammar.{Expr, Number, Digits, sum, atom, Reads}
use Rattle.decimal.specs.Decimal as D
use Rattle.expression.specs.Grammar as EG
use Rattle.expression.specs.Values.{valued, number_value, eval}
use Rattle.expression.proofs.Spans.{by_bool, clash}
use Rattle.expression.proofs.Sound.{both}
use Rattle.assembly.specs.Grammar.{Arg, None, Imm, Reg, Dir, Ind, Idx, mode, Body, Word, Code, Line, line, mnemonics, registers, named, mark, Register, register, Index, Operand, Content, Row}
use Rattle.assembly.specs.Grammar as G
use Rattle.assembly.specs.Assemble.{arg_of, body_of, arg_misses, misses, arg_exceeds, exceeds, arg_register, arg_number, body_cell}
use Rattle.assembly.proofs.Names.{all, all-at, legal-below}
use Rattle.listing.specs.Listing.{index_text, register_text, operand_text, operands_text, code_text, content_text, line_text}
use Rattle.listing.specs.Theorems.{kept_at, LineOf}

-- ---- numbers

decimal-digits : (k n : ℕ) → n < 10 ^ suc k → Digits (decimal_in (suc k) n) n
unfolding decimal_in
decimal-digits zero n h = let l : n < 10 = h in rw (lt-ltb n 10 l) (D.one l)
decimal-digits (suc k) n h =
    let p = pow-suc 10 (suc k) in
    ltb-elim n 10
    (λ e l. rw e (D.one l))
    (λ e l. let i = decimal-digits k (n / 10) (omega arith) in
    let v : n / 10 * 10 + n % 10 ≡ n = omega arith in
    rw e (subst (Digits (decimal_in (suc k) (n / 10) ++ ((48 + n % 10) ∷ []))) v (D.more {d = n % 10} i (omega arith))))

digits-below : {s : List ℕ} {v : ℕ} → Digits s v → v < 10 ^ length s
digits-below (D.one {d} h) = h
digits-below (D.more {s} {v} {d} p h) =
    let b = digits-below p in
    let e : length (s ++ ((48 + d) ∷ [])) ≡ suc (length s) = length-append s ((48 + d) ∷ []) ∙ omega arith in
    let q = pow-suc 10 (length s) in
    rw e (omega arith)

digits-some : {s : List ℕ} {v : ℕ} → Digits s v → 1 ≤ length s
digits-some (D.one h) = omega arith
digits-some (D.more {s} {v} {d} p h) = simp length-append (omega arith)

decimal-within : (k j n : ℕ) → 1 ≤ j → n < 10 ^ j → length (decimal_in k n) ≤ j
unfolding decimal_in
decimal-within zero j n h l = omega arith
decimal-within (suc k) zero n h l = absurd (omega arith)
decimal-within (suc k) (suc zero) n h l = let m : n < 10 = l in rw (lt-ltb n 10 m) (omega arith)
decimal-within (suc k) (suc (suc j)) n h l =
    let p = pow-suc 10 (suc j) in
    ltb-elim n 10
    (λ e m. rw e (omega arith))
    (λ e m. let i = decimal-within k (suc j) (n / 10) (omega arith) (omega arith) in
    rw e (simp length-append (omega arith)))

pub shortest : (n : ℕ) (s : List ℕ) → Digits s n → length (decimal n) ≤ length s
shortest n s p = decimal-within 20 (length s) n (digits-some p) (digits-below p)

word-digits : (n : ℕ) → n ≤ 9223372036854775808 → Digits (decimal n) n
word-digits n h = decimal-digits 19 n (omega arith)

no_gap : (P : List ℕ → Type 0) (s : List ℕ) → P (s ++ []) → P s
no_gap P s h = subst P (append-nil s) h

natural : (n : ℕ) → is_word (pos n) ≡ true → n ≤ 9223372036854775808
unfolding is_word
natural n h = let a = ltb-true n (2 ^ 63) h in omega arith

negative : (n : ℕ) → is_word (negsuc n) ≡ true → suc n ≤ 9223372036854775808
unfolding is_word
negative n h = let a = ltb-true n (2 ^ 63) h in omega arith

-- ---- operands

-- the operand of mode m with register r and number w
unfoldable pub arg_at : ℕ → ℕ → ℤ → Arg Expr
arg_at zero r w = None
arg_at (suc zero) r w = Imm (Number w)
arg_at (suc (suc zero)) r w = Reg r
arg_at (suc (suc (suc zero))) r w = Dir (Number w)
arg_at (suc (suc (suc (suc zero)))) r w = Ind r
arg_at (suc (suc (suc (suc (suc m))))) r w = Idx r (Number w)

module _ (d : ℕ) where
  number-reads : (w : ℤ) → is_word w ≡ true → Reads sum d (numeral w) (Number w)
  unfolding numeral
  number-reads (pos n) h = EG.term (EG.factor (no_gap (λ s. Reads atom d s (Number (pos n))) (decimal n) (EG.number (word-digits n (natural n h)) EG.none)))
  number-reads (negsuc n) h = EG.term (EG.factor (no_gap (λ s. Reads atom d (45 ∷ s) (Number (negsuc n))) (decimal (suc n)) (EG.negative (word-digits (suc n) (negative n h)) EG.none)))

  index_reads : (w : ℤ) → is_word w ≡ true → Index (index_text w) (Number w)
  unfolding index_text numeral
  index_reads (pos n) h = no_gap (λ s. Index (43 ∷ s) (Number (pos n))) (decimal n) (G.plus (word-digits n (natural n h)) EG.none)
  index_reads (negsuc n) h = no_gap (λ s. Index (45 ∷ s) (Number (negsuc n))) (decimal (suc n)) (G.minus (word-digits (suc n) (negative n h)) EG.none)

  register-reads : (r : ℕ) → r < 5 → Register (register_text r) r
  register-reads r h = no_gap (λ s. Register (37 ∷ s) r) (get_or registers r []) (register (named h) EG.none)

  operand-reads : (m r : ℕ) (w : ℤ) → 0 < m → m < 6 → r < 5 → is_word w ≡ true → Operand d (operand_text m r w) (arg_at m r w)
  unfolding operand_text arg_at
  operand-reads zero r w h i j k = absurd (omega arith)
  operand-reads (suc zero) r w h i j k = G.imm (number-reads w k)
  operand-reads (suc (suc zero)) r w h i j k = G.reg (register-reads r j)
  operand-reads (suc (suc (suc zero))) r w h i j k = G.dir (mark EG.none) (number-reads w k) (mark EG.none)
  operand-reads (suc (suc (suc (suc zero)))) r w h i j k = G.ind (mark EG.none) (register-reads r j) (mark EG.none)
  operand-reads (suc (suc (suc (suc (suc zero))))) r w h i j k = G.idx (mark EG.none) (register-reads r j) (index_reads w k) (mark EG.none)
  operand-reads (suc (suc (suc (suc (suc (suc m)))))) r w h i j k = absurd (omega arith)

mode-at : (m r : ℕ) (w : ℤ) → m < 6 → mode (arg_at m r w) ≡ m
unfolding arg_at mode
mode-at zero r w h = refl
mode-at (suc zero) r w h = refl
mode-at (suc (suc zero)) r w h = refl
mode-at (suc (suc (suc zero))) r w h = refl
mode-at (suc (suc (suc (suc zero)))) r w h = refl
mode-at (suc (suc (suc (suc (suc zero))))) r w h = refl
mode-at (suc (suc (suc (suc (suc (suc m)))))) r w h = absurd (omega arith)

none-table : all 33 (λ a. all 6 (λ b. not (legal a 0 (suc b)))) ≡ true
unfolding all legal allows signature op_at
none-table = refl

-- an operation with no first operand has no second
none-second : (o n : ℕ) → n < 6 → legal o 0 n ≡ true → n ≡ 0
none-second o zero h l = refl
none-second o (suc n) h l = clash (rw l at (refused o n (legal-below o 0 (suc n) l) (omega arith))) refl
  where
    refused : (x y : ℕ) → x < 33 → y < 6 → not (legal x 0 (suc y)) ≡ true
    refused x y i j = all-at 6 (λ b. not (legal x 0 (suc b))) y (all-at 33 (λ a. all 6 (λ b. not (legal a 0 (suc b)))) x none-table i) j

-- ---- instructions

module _ (d : ℕ) where
  bare-reads : (o r q : ℕ) (f s : ℤ) → legal o 0 0 ≡ true → Content d (get_or mnemonics o [] ++ []) (Code o (arg_at 0 r f) (arg_at 0 q s))
  unfolding arg_at
  bare-reads o r q f s l = G.bare (named (legal-below o 0 0 l)) l EG.none

  one-reads : (o m r q : ℕ) (f s : ℤ) → 0 < m → legal o m 0 ≡ true → m < 6 → r < 5 → is_word f ≡ true → Content d (get_or mnemonics o [] ++ (32 ∷ operand_text m r f)) (Code o (arg_at m r f) (arg_at 0 q s))
  unfolding arg_at
  one-reads o m r q f s z l i a x =
      let e : legal o (mode (arg_at m r f)) 0 ≡ true = rw (mode-at m r f i) l in
      G.one (named (legal-below o m 0 l)) e (mark EG.none) (operand-reads d m r f z i a x)

  code_reads : (o m n r q : ℕ) (f s : ℤ) → legal o m n ≡ true → m < 6 → n < 6 → r < 5 → q < 5 → is_word f ≡ true → is_word s ≡ true → Content d (get_or mnemonics o [] ++ operands_text m n (operand_text m r f) (operand_text n q s)) (Code o (arg_at m r f) (arg_at n q s))
  unfolding operands_text
  code_reads o zero n r q f s l i j a b x y =
      let z = none-second o n j l in
      rw z (bare-reads o r q f s (rw z at l))
  code_reads o (suc m) zero r q f s l i j a b x y = one-reads o (suc m) r q f s (omega arith) l i a x
  code_reads o (suc m) (suc n) r q f s l i j a b x y =
      let e : legal o (mode (arg_at (suc m) r f)) (mode (arg_at (suc n) q s)) ≡ true = rw (mode-at (suc m) r f i, mode-at (suc n) q s j) l in
      G.two (named (legal-below o (suc m) (suc n) l)) e (mark EG.none) (operand-reads d (suc m) r f (omega arith) i a x) (mark (EG.space EG.none)) (operand-reads d (suc n) q s (omega arith) j b y)

-- ---- cells

zero_word : is_word (pos 0) ≡ true
unfolding is_word
zero_word = refl

-- the reading of a cell's line
unfoldable pub body_at : ℤ → ℤ → ℤ → Body Expr
body_at (pos zero) f s = Word (Number (pos 0))
body_at (pos (suc zero)) f s = Word (Number f)
body_at (pos (suc (suc t))) f s = Code (op_number t) (arg_at (mode₁ t) (reg₁ t) f) (arg_at (mode₂ t) (reg₂ t) s)
body_at (negsuc n) f s = Word (Number (pos 0))

abbrev pub line_of : Cell → Line Expr
line_of v = line none (body_at v.tag v.first v.second)

sound-legal : (t : ℕ) (f s : ℤ) → sound_instruction t f s ≡ true → legal (op_number t) (mode₁ t) (mode₂ t) ≡ true
unfolding sound_instruction
sound-legal t f s h = (both (legal (op_number t) (mode₁ t) (mode₂ t)) _ h).0

module _ (d : ℕ) where
  content-reads : (t f s : ℤ) → sound_at t f s ≡ true → is_word f ≡ true → is_word s ≡ true → Content d (content_text t f s) (body_at t f s)
  unfolding content_text code_text body_at sound_at
  content-reads (pos zero) f s h x y = G.word (mark EG.none) (number-reads d (pos 0) zero_word)
  content-reads (pos (suc zero)) f s h x y = G.word (mark EG.none) (number-reads d f x)
  content-reads (pos (suc (suc t))) f s h x y =
      code_reads d (op_number t) (mode₁ t) (mode₂ t) (reg₁ t) (reg₂ t) f s (sound-legal t f s h) (omega arith) (omega arith) (omega arith) (omega arith) x y
  content-reads (negsuc n) f s h x y = clash h refl

  pub line_reads : (v : Cell) → sound v ≡ true → is_word v.first ≡ true → is_word v.second ≡ true → Row d (line_text v) (line_of v)
  unfolding line_text sound
  line_reads v h x y = G.plain EG.none (content-reads v.tag v.first v.second h x y)

-- ---- what a reading makes

nothing-else : (r : ℕ) → (eqb r 0 || false) ≡ true → r ≡ 0
nothing-else r h = by_bool (eqb r 0) (λ e. eqb-true r 0 e) (λ e. clash (rw e at h) refl)

zero_number : (w : ℤ) → (eq_z w (pos 0) || false) ≡ true → w ≡ pos 0
zero_number (pos n) h = ap pos (nothing-else n h)
zero_number (negsuc n) h = clash h refl

pub is_zero : (w : ℤ) → eq_z w (pos 0) ≡ true → w ≡ pos 0
is_zero (pos n) h = ap pos (eqb-true n 0 h)
is_zero (negsuc n) h = clash h refl

direct : (w : ℤ) → (eq_z w (pos 0) || is_address (address_of w)) ≡ true → is_address (address_of w) ≡ true
unfolding is_address address_of
direct (pos n) h = by_bool (eqb n 0) (λ e. rw (eqb-true n 0 e)) (λ e. rw e at h)
direct (negsuc n) h = clash h refl

value-is : (w : ℤ) → is_word w ≡ true → number_value w ≡ valued false false w
unfolding number_value
value-is w h = rw h

module _ (p : List ℕ → Option ℕ) where
  -- what an operand of a sound cell gives back
  record Back (m r : ℕ) (w : ℤ) : Type 0 where
    register-is : arg_register (arg_of (eval p) (arg_at m r w)) ≡ r
    number_is : arg_number (arg_of (eval p) (arg_at m r w)) ≡ w
    mode-is : mode (arg_of (eval p) (arg_at m r w)) ≡ m
    found : arg_misses (arg_of (eval p) (arg_at m r w)) ≡ false
    fits : arg_exceeds (arg_of (eval p) (arg_at m r w)) ≡ false

  back : (m r : ℕ) (w : ℤ) → m < 6 → register_fits m r ≡ true → number_fits m w ≡ true → is_word w ≡ true → Back m r w
  unfolding arg_at arg_of eval arg_register arg_number mode arg_misses arg_exceeds register_fits number_fits
  back zero r w h i j k = record { register-is = sym (nothing-else r i); number_is = sym (zero_number w j); mode-is = refl; found = refl; fits = refl }
  back (suc zero) r w h i j k = record { register-is = sym (nothing-else r i); number_is = rw (value-is w k); mode-is = refl; found = rw (value-is w k); fits = rw (value-is w k) }
  back (suc (suc zero)) r w h i j k = record { register-is = refl; number_is = sym (zero_number w j); mode-is = refl; found = refl; fits = refl }
  back (suc (suc (suc zero))) r w h i j k = record { register-is = sym (nothing-else r i); number_is = rw (value-is w k); mode-is = refl; found = rw (value-is w k); fits = rw (value-is w k, direct w j) }
  back (suc (suc (suc (suc zero)))) r w h i j k = record { register-is = refl; number_is = sym (zero_number w j); mode-is = refl; found = refl; fits = refl }
  back (suc (suc (suc (suc (suc zero))))) r w h i j k = record { register-is = refl; number_is = rw (value-is w k); mode-is = refl; found = rw (value-is w k); fits = rw (value-is w k) }
  back (suc (suc (suc (suc (suc (suc m)))))) r w h i j k = absurd (omega arith)

  pub record Whole (t f s : ℤ) : Type 0 where
    pub is : body_cell (body_of (eval p) (body_at t f s)) ≡ kept_at t f s
    pub found : misses (body_of (eval p) (body_at t f s)) ≡ false
    pub fits : exceeds (body_of (eval p) (body_at t f s)) ≡ false

  tag_back : (t : ℕ) → tag_of (op_number t) (mode₁ t) (mode₂ t) (reg₁ t) (reg₂ t) ≡ suc (suc t)
  tag_back t = let a = tag-laws.back t in omega arith

  whole : (t f s : ℤ) → sound_at t f s ≡ true → is_word f ≡ true → is_word s ≡ true → Whole t f s
  unfolding body_at body_of body_cell misses exceeds kept_at sound_at sound_instruction eval
  whole (pos zero) f s h x y =
      let e = value-is (pos 0) zero_word in
      record { is = rw e; found = rw e; fits = rw e }
  whole (pos (suc zero)) f s h x y =
      let e = value-is f x in
      record { is = rw (e, is_zero s h); found = rw e; fits = rw e }
  whole (pos (suc (suc t))) f s h x y =
      let a = both (legal (op_number t) (mode₁ t) (mode₂ t)) _ h in
      let b = both (register_fits (mode₁ t) (reg₁ t) && register_fits (mode₂ t) (reg₂ t)) (number_fits (mode₁ t) f && number_fits (mode₂ t) s) a.1 in
      let g = both (register_fits (mode₁ t) (reg₁ t)) (register_fits (mode₂ t) (reg₂ t)) b.0 in
      let n = both (number_fits (mode₁ t) f) (number_fits (mode₂ t) s) b.1 in
      let u = back (mode₁ t) (reg₁ t) f (omega arith) g.0 n.0 x in
      let v = back (mode₂ t) (reg₂ t) s (omega arith) g.1 n.1 y in
      record { is = rw (u.mode-is, v.mode-is, u.register-is, v.register-is, u.number_is, v.number_is, tag_back t); found = rw (u.found, v.found); fits = rw (u.fits, v.fits) }
  whole (negsuc n) f s h x y = clash h refl

  pub whole_of : (v : Cell) → sound v ≡ true → is_word v.first ≡ true → is_word v.second ≡ true → Whole v.tag v.first v.second
  unfolding sound
  whole_of v h x y = whole v.tag v.first v.second h x y

pub line-of : (v : Cell) → sound v ≡ true → is_word v.first ≡ true → is_word v.second ≡ true → LineOf v
line-of v h x y = record { reading = line_of v; derived = line_reads 32 v h x y; makes = λ p. (whole_of p v h x y).is }
