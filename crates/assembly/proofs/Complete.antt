-- The reader accepts exactly the grammar's lines and texts, and each has one reading. Assumes nothing.
use mathlib.Core.Path.{◌≡◌, refl, sym, ◌∙◌}
use mathlib.Core.Bool.{Bool, true, false, ◌&&◌}
use mathlib.Core.List.{List, [], ◌∷◌, ◌++◌, append_assoc}
use Prim.Native.Nat.{ℕ, zero, suc, ◌+◌, ◌≤◌, ◌<◌}
use native.Mathlib.Omega.{arith}
use lib.IntN.{pos, neg_ℤ}
use lib.ListN.{length, get_or}
use lib.Dec.{leb, eqb}
use borrow.Author.Tests.{leb-true, lt-ltb, le-leb, eq-eqb, ne_eqb}
use Rattle.definition.specs.Encoding.{legal}
use Rattle.expression.specs.Grammar.{Expr, Number, Gap, Digits, Letters, Part, sum, Reads}
use Rattle.expression.specs.Grammar as EG
use Rattle.expression.specs.Reader.{same, gives, refused, then, head, tail, front, past, is_space, is_digit, is_letter, is_star, is_sign, skip, signed, trees, numbered}
use Rattle.expression.specs.Table.{is_labelled}
use Rattle.expression.proofs.Spans.{past-more, clash, every, front_of, past_of}
use Rattle.expression.proofs.Chain.{never}
use Rattle.expression.proofs.Sound.{both, digit-bounds}
use Rattle.expression.proofs.Complete.{Free, skip-gap, gap-digit, gap-letter, every-digit, decimal-digits, head-digits, every-letter, head-letters, letter-no-space, reads}
use Rattle.assembly.specs.Grammar.{Arg, None, Imm, Reg, Dir, Ind, Idx, mode, Body, Word, Code, Line, line, mnemonics, registers, dot_word, Named, named, Mark, mark, Register, register, Index, Operand, Content, Row, Rows}
use Rattle.assembly.specs.Grammar as G
use Rattle.assembly.specs.Reader.{number_from, number_of, expect, indexed, operand, coded, operands, word_after, content, ended, row, Text, lines, broken, onto, rows, rows_after}
use Rattle.assembly.specs.Reader as R
use Rattle.assembly.proofs.Names.{mnemonic-number, mnemonic-letters, mnemonic-some, register-number, register-letters, not-bare}
use Rattle.assembly.proofs.Sound.{lines-path}

-- a text that goes on with nothing that could belong to a value
pub record Stops (r : List ℕ) : Type 0 where
  pub free : Free r
  pub star : is_star (head r) ≡ false
  pub sign : is_sign (head r) ≡ false

stops-byte : (b : ℕ) (t : List ℕ) → is_space b ≡ false → is_digit b ≡ false → is_letter b ≡ false → is_star b ≡ false → is_sign b ≡ false → Stops (b ∷ t)
unfolding head
stops-byte b t h i j k l = record { free = record { space = h; digit = i; letter = j }; star = k; sign = l }

stops_end : (r : List ℕ) → head r ≡ 10 → Stops r
unfolding is_space is_digit is_letter is_star is_sign
stops_end r e = record { free = record { space = rw e; digit = rw e; letter = rw e }; star = rw e; sign = rw e }

stops-comma : {c : List ℕ} (r : List ℕ) → Mark 44 c → Stops (c ++ r)
unfolding is_space is_digit is_letter is_star is_sign
stops-comma r (mark {b} {g} k) = stops-byte 44 (g ++ r) refl refl refl refl refl

stops-close : {c : List ℕ} (r : List ℕ) → Mark 93 c → Stops (c ++ r)
unfolding is_space is_digit is_letter is_star is_sign
stops-close r (mark {b} {g} k) = stops-byte 93 (g ++ r) refl refl refl refl refl

-- ---- marks

mark-head : {b : ℕ} {s : List ℕ} (r : List ℕ) → Mark b s → head (s ++ r) ≡ b
unfolding head
mark-head r (mark k) = refl

mark-skip : {b : ℕ} {s : List ℕ} (r : List ℕ) → Mark b s → is_space (head r) ≡ false → skip (tail (s ++ r)) ≡ r
unfolding tail
mark-skip r (mark k) h = skip-gap r k h

mark-expected : {X : Type 0} {b : ℕ} {s : List ℕ} (x : X) (r : List ℕ) → Mark b s → is_space (head r) ≡ false → expect b x (s ++ r) ≡ gives x r
unfolding expect
mark-expected {X} {b} {s} x r k h = rw (eq-eqb (head (s ++ r)) b (mark-head r k), mark-skip r k h)

spaces-skip : {s : List ℕ} (r : List ℕ) → Mark 32 s → is_space (head r) ≡ false → skip (s ++ r) ≡ r
unfolding is_space head
spaces-skip {s} r k h =
    sym (past-more is_space (s ++ r) (eq-eqb (head (s ++ r)) 32 (mark-head r k))) ∙ mark-skip r k h

-- ---- the first byte of a value

below-digit : (n b : ℕ) → n < 48 → is_digit b ≡ true → eqb b n ≡ false
below-digit n b l h = let p = digit-bounds b h in ne_eqb b n (λ e. absurd (omega arith))

letter-bounds : (b : ℕ) → is_letter b ≡ true → (97 ≤ b) × (b ≤ 122)
unfolding is_letter
letter-bounds b h = let p = both (leb 97 b) (leb b 122) h in (leb-true 97 b p.0, leb-true b 122 p.1)

below-letter : (n b : ℕ) → n < 97 → is_letter b ≡ true → eqb b n ≡ false
below-letter n b l h = let p = letter-bounds b h in ne_eqb b n (λ e. absurd (omega arith))

above-digit : (n b : ℕ) → 57 < n → is_digit b ≡ true → eqb b n ≡ false
above-digit n b l h = let p = digit-bounds b h in ne_eqb b n (λ e. absurd (omega arith))

begins : (n : ℕ) {p : Part} {d : ℕ} {s : List ℕ} {e : Expr} (r : List ℕ) → ((b : ℕ) → is_digit b ≡ true → eqb b n ≡ false) → n < 97 → eqb 40 n ≡ false → eqb 45 n ≡ false → Reads p d s e → eqb (head (s ++ r)) n ≡ false
unfolding head
begins n r di le x y (EG.number {d} {v} {s} {g} q k) = rw append_assoc (di (head (s ++ (g ++ r))) (head-digits (g ++ r) q))
begins n r di le x y (EG.negative q k) = y
begins n r di le x y (EG.label {d} {s} {g} q l k) = rw append_assoc (below-letter n (head (s ++ (g ++ r))) le (head-letters (g ++ r) q))
begins n r di le x y (EG.brackets g q h) = x
begins n r di le x y (EG.factor q) = begins n r di le x y q
begins n r di le x y (EG.times {d} {s} {g} {u} q k o) = rw append_assoc (begins n ((42 ∷ (g ++ u)) ++ r) di le x y q)
begins n r di le x y (EG.term q) = begins n r di le x y q
begins n r di le x y (EG.plus {d} {s} {g} {u} q k o) = rw append_assoc (begins n ((43 ∷ (g ++ u)) ++ r) di le x y q)
begins n r di le x y (EG.minus {d} {s} {g} {u} q k o) = rw append_assoc (begins n ((45 ∷ (g ++ u)) ++ r) di le x y q)

value-percent : {d : ℕ} {s : List ℕ} {e : Expr} (r : List ℕ) → Reads sum d s e → eqb (head (s ++ r)) 37 ≡ false
value-percent r q = begins 37 r (λ b h. below-digit 37 b (omega arith) h) (omega arith) refl refl q

value-square : {d : ℕ} {s : List ℕ} {e : Expr} (r : List ℕ) → Reads sum d s e → eqb (head (s ++ r)) 91 ≡ false
value-square r q = begins 91 r (λ b h. above-digit 91 b (omega arith) h) (omega arith) refl refl q

value-space : {d : ℕ} {s : List ℕ} {e : Expr} (r : List ℕ) → Reads sum d s e → is_space (head (s ++ r)) ≡ false
unfolding is_space
value-space r q = begins 32 r (λ b h. below-digit 32 b (omega arith) h) (omega arith) refl refl q

-- ---- registers and indices

register-head : {n : ℕ} {s : List ℕ} (r : List ℕ) → Register s n → eqb (head (s ++ r)) 37 ≡ true
unfolding head
register-head r (register k g) = refl

register-facts : {n : ℕ} {m : List ℕ} → Named registers m n → (every is_letter m ≡ true) × (number_of registers m ≡ n) × (n < 5)
register-facts (named {n} h) = (register-letters n h, register-number n h, h)

register-reads : {n : ℕ} {s : List ℕ} (r : List ℕ) → Register s n → Free r → R.register (tail (s ++ r)) ≡ gives n r
unfolding R.register tail
register-reads t (register {r} {s} {g} q k) f =
    let l = gap-letter t k f.letter in
    let a = register-facts q in
    rw (append_assoc, front_of is_letter s (g ++ t) a.0 l, past_of is_letter s (g ++ t) a.0 l, a.1, lt-ltb r 5 a.2, skip-gap t k f.space)

digits-read : {s g : List ℕ} {v : ℕ} (m : Bool) (r : List ℕ) → Digits s v → Gap g → Free r → numbered trees m (s ++ (g ++ r)) ≡ gives (Number (signed m v)) r
unfolding numbered
digits-read {s} {g} {v} m r q k f =
    let n = gap-digit r k f.digit in
    rw (head-digits (g ++ r) q, front_of is_digit s (g ++ r) (every-digit q) n, past_of is_digit s (g ++ r) (every-digit q) n, decimal-digits q, skip-gap r k f.space)

word-letters : every is_letter (119 ∷ 111 ∷ 114 ∷ 100 ∷ []) ≡ true
unfolding every is_letter
word-letters = refl

first-letter : (m r : List ℕ) → is_letter (head m) ≡ true → is_letter (head (m ++ r)) ≡ true
unfolding head is_letter
first-letter [] r h = clash h refl
first-letter (b ∷ m) r h = h

gap-colon : {g : List ℕ} (r : List ℕ) → Gap g → head r ≡ 10 → eqb (head (g ++ r)) 58 ≡ false
unfolding head
gap-colon r EG.none h = rw h
gap-colon r (EG.space k) h = refl

colon-letter : {c : List ℕ} (r : List ℕ) → Mark 58 c → is_letter (head (c ++ r)) ≡ false
unfolding is_letter
colon-letter r k = rw (mark-head r k)

module _ (d : ℕ) where
  indexed-reads : (n : ℕ) {i : Expr} {u z : List ℕ} (r : List ℕ) → Index u i → Mark 93 z → Stops (z ++ r) → is_space (head r) ≡ false → indexed trees d n (u ++ (z ++ r)) ≡ gives (Idx n i) r
  unfolding indexed head tail then signed
  indexed-reads n {i} {u} {z} r (G.plus {v} {s} {g} q k) m f h =
      rw (append_assoc, digits-read false (z ++ r) q k f.free) (mark-expected (Idx n (Number (pos v))) r m h)
  indexed-reads n {i} {u} {z} r (G.minus {v} {s} {g} q k) m f h =
      rw (append_assoc, digits-read true (z ++ r) q k f.free) (mark-expected (Idx n (Number (neg_ℤ (pos v)))) r m h)

  closing-reads : (n : ℕ) {z : List ℕ} (r : List ℕ) → Mark 93 z → is_space (head r) ≡ false → indexed trees d n (z ++ r) ≡ gives (Ind n) r
  unfolding indexed
  closing-reads n {z} r m h = rw (mark-head r m) (mark-expected (Ind n) r m h)

  free-index : {i : Expr} {u : List ℕ} (r : List ℕ) → Index u i → Free (u ++ r)
  unfolding head is_space is_digit is_letter
  free-index r (G.plus q k) = record { space = refl; digit = refl; letter = refl }
  free-index r (G.minus q k) = record { space = refl; digit = refl; letter = refl }

  -- an operand has a mode from 1 to 5
  some-mode : {s : List ℕ} {x : Arg Expr} → Operand d s x → (0 < mode x) × (mode x < 6)
  unfolding mode
  some-mode (G.imm q) = (omega arith, omega arith)
  some-mode (G.reg q) = (omega arith, omega arith)
  some-mode (G.dir a q z) = (omega arith, omega arith)
  some-mode (G.ind a q z) = (omega arith, omega arith)
  some-mode (G.idx a q i z) = (omega arith, omega arith)

  operand-space : {s : List ℕ} {x : Arg Expr} (r : List ℕ) → Operand d s x → is_space (head (s ++ r)) ≡ false
  unfolding is_space head
  operand-space r (G.imm q) = value-space r q
  operand-space r (G.reg (register k g)) = refl
  operand-space r (G.dir (mark k) q z) = refl
  operand-space r (G.ind (mark k) q z) = refl
  operand-space r (G.idx (mark k) q i z) = refl

  register-space : {n : ℕ} {s : List ℕ} (r : List ℕ) → Register s n → is_space (head (s ++ r)) ≡ false
  unfolding is_space head
  register-space r (register k g) = refl

  pub operand-reads : {s : List ℕ} {x : Arg Expr} (r : List ℕ) → Operand d s x → Stops r → operand trees d (s ++ r) ≡ gives x r
  unfolding operand then
  operand-reads t (G.imm q) f = rw (value-percent t q, value-square t q, reads t q f.free f.star f.sign)
  operand-reads t (G.reg q) f = rw (register-head t q, register-reads t q f.free)
  operand-reads t (G.dir {a} {s} {z} {e} m q k) f =
      let n = stops-close t k in
      rw (append_assoc, append_assoc, mark-head (s ++ (z ++ t)) m, mark-skip (s ++ (z ++ t)) m (value-space (z ++ t) q), value-percent (z ++ t) q, reads (z ++ t) q n.free n.star n.sign) (mark-expected (Dir e) t k f.free.space)
  operand-reads t (G.ind {r} {a} {s} {z} m q k) f =
      let n = stops-close t k in
      rw (append_assoc, append_assoc, mark-head (s ++ (z ++ t)) m, mark-skip (s ++ (z ++ t)) m (register-space (z ++ t) q), register-head (z ++ t) q, register-reads (z ++ t) q n.free) (closing-reads r t k f.free.space)
  operand-reads t (G.idx {r} {i} {a} {s} {u} {z} m q w k) f =
      let n = stops-close t k in
      rw (append_assoc, append_assoc, append_assoc, mark-head (s ++ (u ++ (z ++ t))) m, mark-skip (s ++ (u ++ (z ++ t))) m (register-space (u ++ (z ++ t)) q), register-head (u ++ (z ++ t)) q, register-reads (u ++ (z ++ t)) q (free-index (z ++ t) w)) (indexed-reads r t w k n f.free.space)

  -- ---- what stands in a cell

  mnemonic-facts : {n : ℕ} {m : List ℕ} → Named mnemonics m n → (every is_letter m ≡ true) × (number_of mnemonics m ≡ n) × (n < 33) × ((r : List ℕ) → is_letter (head (m ++ r)) ≡ true)
  mnemonic-facts (named {n} h) = (mnemonic-letters n h, mnemonic-number n h, h, λ r. first-letter (get_or mnemonics n []) r (mnemonic-some n h))

  -- after a mnemonic
  after-mnemonic : {o : ℕ} {m : List ℕ} (t : List ℕ) → Named mnemonics m o → is_letter (head t) ≡ false → content trees d (m ++ t) ≡ operands trees d o t
  unfolding content
  after-mnemonic {o} {m} t q h =
      let a = mnemonic-facts q in
      rw (below-letter 46 (head (m ++ t)) (omega arith) (a.3 t), front_of is_letter m t a.0 h, past_of is_letter m t a.0 h, a.1, lt-ltb o 33 a.2)

  mark-letter : {s : List ℕ} (r : List ℕ) → Mark 32 s → is_letter (head (s ++ r)) ≡ false
  unfolding is_letter
  mark-letter r k = rw (mark-head r k)

  mark-space : {s : List ℕ} (r : List ℕ) → Mark 32 s → is_space (head (s ++ r)) ≡ true
  unfolding is_space
  mark-space r k = rw (mark-head r k)

  bare-reads : (o : ℕ) (g r : List ℕ) → legal o 0 0 ≡ true → Gap g → Stops r → operands trees d o (g ++ r) ≡ gives (Code o None None) r
  unfolding operands
  bare-reads o g r l k f = rw (l, skip-gap r k f.free.space)

  one-reads : (o : ℕ) (g s r : List ℕ) (x : Arg Expr) → legal o (mode x) 0 ≡ true → Mark 32 g → Operand d s x → Stops r → head r ≡ 10 → operands trees d o (g ++ (s ++ r)) ≡ gives (Code o x None) r
  unfolding operands then coded mode
  one-reads o g s r x l k p f h =
      let m = some-mode p in
      rw (not-bare o (mode x) 0 m.0 (omega arith) (omega arith) l, mark-space (s ++ r) k, spaces-skip (s ++ r) k (operand-space r p), operand-reads r p f, h, l)

  two-reads : (o : ℕ) (g s c u r : List ℕ) (x y : Arg Expr) → legal o (mode x) (mode y) ≡ true → Mark 32 g → Operand d s x → Mark 44 c → Operand d u y → Stops r → operands trees d o (g ++ (s ++ (c ++ (u ++ r)))) ≡ gives (Code o x y) r
  unfolding operands then coded
  two-reads o g s c u r x y l k p j i f =
      let m = some-mode p in
      let n = some-mode i in
      rw (not-bare o (mode x) (mode y) m.0 (omega arith) n.1 l, mark-space (s ++ (c ++ (u ++ r))) k, spaces-skip (s ++ (c ++ (u ++ r))) k (operand-space (c ++ (u ++ r)) p), operand-reads (c ++ (u ++ r)) p (stops-comma (u ++ r) j), mark-head (u ++ r) j, mark-skip (u ++ r) j (operand-space r i), operand-reads r i f, l)

  word-reads : {g s : List ℕ} (r : List ℕ) (e : Expr) → Mark 32 g → Reads sum d s e → Stops r → content trees d (dot_word ++ (g ++ (s ++ r))) ≡ gives (Word e) r
  unfolding content word_after then head tail same
  word-reads {g} {s} r e k q f =
      let t = g ++ (s ++ r) in
      let w : List ℕ = 119 ∷ 111 ∷ 114 ∷ 100 ∷ [] in
      rw (front_of is_letter w t (word-letters) (mark-letter (s ++ r) k), past_of is_letter w t (word-letters) (mark-letter (s ++ r) k), mark-space (s ++ r) k, spaces-skip (s ++ r) k (value-space r q), reads r q f.free f.star f.sign)

  pub content-reads : {s : List ℕ} {b : Body Expr} (r : List ℕ) → Content d s b → head r ≡ 10 → content trees d (s ++ r) ≡ gives b r
  unfolding then coded mode
  content-reads r (G.word {g} {s} {e} k q) h =
      let f = stops_end r h in
      rw (append_assoc, append_assoc) (word-reads r e k q f)
  content-reads r (G.bare {o} {m} {g} q l k) h =
      let f = stops_end r h in
      rw append_assoc (after-mnemonic (g ++ r) q (gap-letter r k f.free.letter) ∙ bare-reads o g r l k f)
  content-reads r (G.one {o} {m} {g} {s} {x} q l k p) h =
      let f = stops_end r h in
      rw (append_assoc, append_assoc) (after-mnemonic (g ++ (s ++ r)) q (mark-letter (s ++ r) k) ∙ one-reads o g s r x l k p f h)
  content-reads r (G.two {o} {m} {g} {s} {c} {u} {x} {y} q l k p j i) h =
      let f = stops_end r h in
      rw (append_assoc, append_assoc, append_assoc, append_assoc) (after-mnemonic (g ++ (s ++ (c ++ (u ++ r)))) q (mark-letter (s ++ (c ++ (u ++ r))) k) ∙ two-reads o g s c u r x y l k p j i f)

  -- ---- lines

  -- no content begins like a label and its colon
  no-colon : {s : List ℕ} {b : Body Expr} (r : List ℕ) → Content d s b → head r ≡ 10 → (is_letter (head (s ++ r)) && eqb (head (past is_letter (s ++ r))) 58) ≡ false
  unfolding head is_letter
  no-colon r (G.word k q) h = refl
  no-colon r (G.bare {o} {m} {g} q l k) h =
      let f = stops_end r h in
      let a = mnemonic-facts q in
      rw (append_assoc, past_of is_letter m (g ++ r) a.0 (gap-letter r k f.free.letter), a.3 (g ++ r)) (gap-colon r k h)
  no-colon r (G.one {o} {m} {g} {s} q l k p) h =
      let a = mnemonic-facts q in
      rw (append_assoc, append_assoc, past_of is_letter m (g ++ (s ++ r)) a.0 (mark-letter (s ++ r) k), a.3 (g ++ (s ++ r)), mark-head (s ++ r) k)
  no-colon r (G.two {o} {m} {g} {s} {c} {u} q l k p j i) h =
      let a = mnemonic-facts q in
      rw (append_assoc, append_assoc, append_assoc, append_assoc, past_of is_letter m (g ++ (s ++ (c ++ (u ++ r)))) a.0 (mark-letter (s ++ (c ++ (u ++ r))) k), a.3 (g ++ (s ++ (c ++ (u ++ r)))), mark-head (s ++ (c ++ (u ++ r))) k)

  content-space : {s : List ℕ} {b : Body Expr} (r : List ℕ) → Content d s b → is_space (head (s ++ r)) ≡ false
  unfolding head is_space
  content-space r (G.word k q) = refl
  content-space r (G.bare {o} {m} {g} q l k) = rw append_assoc (below-letter 32 (head (m ++ (g ++ r))) (omega arith) ((mnemonic-facts q).3 (g ++ r)))
  content-space r (G.one {o} {m} {g} {s} q l k p) = rw append_assoc (below-letter 32 (head (m ++ ((g ++ s) ++ r))) (omega arith) ((mnemonic-facts q).3 ((g ++ s) ++ r)))
  content-space r (G.two {o} {m} {g} {s} {c} {u} q l k p j i) = rw append_assoc (below-letter 32 (head (m ++ ((g ++ (s ++ (c ++ u))) ++ r))) (omega arith) ((mnemonic-facts q).3 ((g ++ (s ++ (c ++ u))) ++ r)))

  end-head : (r : List ℕ) → head (10 ∷ r) ≡ 10
  unfolding head
  end-head r = refl

  -- the line ends here, so what follows it is of no account
  pub row_reads : {s : List ℕ} {l : Line Expr} (r : List ℕ) → Row d s l → row trees d (s ++ r) ≡ gives l r
  unfolding row is_labelled ended then head tail
  row_reads r (G.plain {g} {s} {b} k q) =
      let e = end-head r in
      rw (append_assoc, append_assoc, skip-gap (s ++ (10 ∷ r)) k (content-space (10 ∷ r) q), no-colon (10 ∷ r) q e, content-reads (10 ∷ r) q e)
  row_reads r (G.labelled {g} {n} {c} {s} {b} k q l m p) =
      let e = end-head r in
      let u = c ++ (s ++ (10 ∷ r)) in
      rw (append_assoc, append_assoc, append_assoc, append_assoc, skip-gap (n ++ u) k (letter-no-space (head (n ++ u)) (head-letters u q)), head-letters u q, past_of is_letter n u (every-letter q) (colon-letter (s ++ (10 ∷ r)) m), mark-head (s ++ (10 ∷ r)) m, front_of is_letter n u (every-letter q) (colon-letter (s ++ (10 ∷ r)) m), le-leb (length n) 16 l, mark-skip (s ++ (10 ∷ r)) m (content-space (10 ∷ r) p), content-reads (10 ∷ r) p e)

  row-nil : row trees d [] ≡ refused
  unfolding row is_labelled content ended then head past front number_from same is_letter
  row-nil = refl

  rows_step : (k : ℕ) (t : List ℕ) (l : Line Expr) (u : List ℕ) → row trees d t ≡ gives l u → rows trees d (suc k) t ≡ onto l (rows trees d k u)
  unfolding rows rows_after
  rows_step k [] l u h = never (sym row-nil ∙ h)
  rows_step k (b ∷ t) l u h = rw h

  pub rows-complete : {t : List ℕ} {ls : List (Line Expr)} (k : ℕ) → Rows d t ls → length ls ≤ k → rows trees d k t ≡ lines ls
  unfolding rows onto
  rows-complete zero G.end h = refl
  rows-complete (suc k) G.end h = refl
  rows-complete zero (G.more q p) h = absurd (omega arith)
  rows-complete (suc k) (G.more {s} {t} {l} {ls} q p) h =
      rows_step k (s ++ t) l t (row_reads t q) ∙ rw (rows-complete k p (omega arith))

  -- "each text has one reading"
  pub one-reading : {t : List ℕ} {ls ms : List (Line Expr)} → Rows d t ls → Rows d t ms → ls ≡ ms
  one-reading {t} {ls} {ms} p q =
      lines-path (sym (rows-complete (length ls + length ms) p (omega arith)) ∙ rows-complete (length ls + length ms) q (omega arith))
