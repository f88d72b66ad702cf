-- The lines of a text of the grammar are those between its line ends, and a label is set where the search of the text finds it. Assumes nothing.
use mathlib.Core.Path.{◌≡◌, refl, sym, ap, ◌∙◌, fun_ext}
use mathlib.Core.Bool.{true, false, cond}
use mathlib.Core.List.{List, [], ◌∷◌, ◌++◌, append_assoc}
use mathlib.Core.Option.{Option, some, none}
use Prim.Native.Nat.{ℕ, zero, suc, ◌+◌, ◌<◌}
use native.Mathlib.Omega.{arith}
use lib.ListN.{length, get_or}
use lib.Dec.{leb, eqb}
use borrow.Author.Tests.{ne_eqb}
use Rattle.decimal.specs.Decimal as D
use Rattle.expression.specs.Grammar.{Expr, Gap, Digits, Letters, Part, Reads}
use Rattle.expression.specs.Grammar as EG
use Rattle.expression.specs.Reader.{Outcome, gives, refused, head, tail, front, past, is_letter, skip, trees}
use Rattle.expression.specs.Table.{is_labelled, sets, is_inner, next_line, setting}
use Rattle.expression.proofs.Spans.{by_bool, every, past_of}
use Rattle.expression.proofs.Chain.{middle, when, value_of}
use Rattle.expression.proofs.Complete.{every_append}
use Rattle.expression.proofs.Names.{setting-nil, setting-step}
use Rattle.assembly.specs.Grammar.{Arg, Body, Line, line, mnemonics, registers, Named, named, Mark, mark, Register, register, Index, Operand, Content, Row}
use Rattle.assembly.specs.Grammar as G
use Rattle.assembly.specs.Reader.{content, ended, row, lines, rows, rows_after}
use Rattle.assembly.specs.Assemble.{sets_label, place_in, labels_of}
use Rattle.assembly.proofs.Names.{all, all-at}
use Rattle.assembly.proofs.Sound.{row-sound, onto-lines, lines-path}

-- ---- a line end stands at the end of a line only

inner : (b : ℕ) → 10 < b → is_inner b ≡ true
unfolding is_inner
inner b h = rw (ne_eqb b 10 (λ e. absurd (omega arith)), ne_eqb b 0 (λ e. absurd (omega arith)))

-- a text without line ends
record Inside (s : List ℕ) : Type 0 where
  inside : every is_inner s ≡ true

inner-cons : (b : ℕ) (s : List ℕ) → 10 < b → Inside s → Inside (b ∷ s)
unfolding every
inner-cons b s h k = record { inside = rw (inner b h) k.inside }

inner-nil : Inside []
unfolding every
inner-nil = record { inside = refl }

inner-gap : {g : List ℕ} → Gap g → Inside g
inner-gap EG.none = inner-nil
inner-gap (EG.space {s} p) = inner-cons 32 s (omega arith) (inner-gap p)

joined : {s u : List ℕ} → Inside s → Inside u → Inside (s ++ u)
joined {s} {u} h k = record { inside = every_append is_inner s u h.inside k.inside }

inner-digits : {s : List ℕ} {v : ℕ} → Digits s v → Inside s
inner-digits (D.one {d} h) = inner-cons (48 + d) [] (omega arith) inner-nil
inner-digits (D.more {s} {v} {d} q h) = joined (inner-digits q) (inner-cons (48 + d) [] (omega arith) inner-nil)

inner-letters : {s : List ℕ} → Letters s → Inside s
inner-letters (EG.one {b} h i) = inner-cons b [] (omega arith) inner-nil
inner-letters (EG.more {b} {s} h i q) = inner-cons b s (omega arith) (inner-letters q)

-- after an operator or bracket b and spaces
marked : (b : ℕ) {g u : List ℕ} → 10 < b → Gap g → Inside u → Inside (b ∷ (g ++ u))
marked b {g} {u} h k q = inner-cons b (g ++ u) h (joined (inner-gap k) q)

inner-reads : {p : Part} {d : ℕ} {s : List ℕ} {e : Expr} → Reads p d s e → Inside s
inner-reads (EG.number q k) = joined (inner-digits q) (inner-gap k)
inner-reads (EG.negative {d} {v} {s} {g} q k) = inner-cons 45 (s ++ g) (omega arith) (joined (inner-digits q) (inner-gap k))
inner-reads (EG.label q l k) = joined (inner-letters q) (inner-gap k)
inner-reads (EG.brackets {d} {g} {s} {h} k q j) =
    marked 40 (omega arith) k (joined (inner-reads q) (inner-cons 41 h (omega arith) (inner-gap j)))
inner-reads (EG.factor q) = inner-reads q
inner-reads (EG.times q k p) = joined (inner-reads q) (marked 42 (omega arith) k (inner-reads p))
inner-reads (EG.term q) = inner-reads q
inner-reads (EG.plus q k p) = joined (inner-reads q) (marked 43 (omega arith) k (inner-reads p))
inner-reads (EG.minus q k p) = joined (inner-reads q) (marked 45 (omega arith) k (inner-reads p))

inner-mark : {b : ℕ} {s : List ℕ} → 10 < b → Mark b s → Inside s
inner-mark h (mark {b} {g} k) = inner-cons b g h (inner-gap k)

inner_name : {m : List ℕ} {n : ℕ} → Named registers m n → Inside m
unfolding all every is_inner
inner_name (named {n} h) = record { inside = all-at 5 (λ i. every is_inner (get_or registers i [])) n refl h }

inner-register : {s : List ℕ} {n : ℕ} → Register s n → Inside s
inner-register (register {r} {s} {g} q k) = inner-cons 37 (s ++ g) (omega arith) (joined (inner_name q) (inner-gap k))

inner-mnemonic : {m : List ℕ} {n : ℕ} → Named mnemonics m n → Inside m
unfolding all every is_inner
inner-mnemonic (named {n} h) = record { inside = all-at 33 (λ i. every is_inner (get_or mnemonics i [])) n refl h }

inner-index : {s : List ℕ} {e : Expr} → Index s e → Inside s
inner-index (G.plus {v} {s} {g} q k) = inner-cons 43 (s ++ g) (omega arith) (joined (inner-digits q) (inner-gap k))
inner-index (G.minus {v} {s} {g} q k) = inner-cons 45 (s ++ g) (omega arith) (joined (inner-digits q) (inner-gap k))

inner-operand : {d : ℕ} {s : List ℕ} {x : Arg Expr} → Operand d s x → Inside s
inner-operand (G.imm q) = inner-reads q
inner-operand (G.reg q) = inner-register q
inner-operand (G.dir a q z) = joined (inner-mark (omega arith) a) (joined (inner-reads q) (inner-mark (omega arith) z))
inner-operand (G.ind a q z) = joined (inner-mark (omega arith) a) (joined (inner-register q) (inner-mark (omega arith) z))
inner-operand (G.idx a q i z) =
    joined (inner-mark (omega arith) a) (joined (inner-register q) (joined (inner-index i) (inner-mark (omega arith) z)))

dot_word_lem : Inside G.dot_word
unfolding every is_inner
dot_word_lem = record { inside = refl }

inner-content : {d : ℕ} {s : List ℕ} {b : Body Expr} → Content d s b → Inside s
inner-content (G.word {d} {g} {s} k q) = joined dot_word_lem (joined (inner-mark (omega arith) k) (inner-reads q))
inner-content (G.bare q l k) = joined (inner-mnemonic q) (inner-gap k)
inner-content (G.one q l k p) = joined (inner-mnemonic q) (joined (inner-mark (omega arith) k) (inner-operand p))
inner-content (G.two q l k p j i) =
    joined (inner-mnemonic q) (joined (inner-mark (omega arith) k) (joined (inner-operand p) (joined (inner-mark (omega arith) j) (inner-operand i))))

stops-inner : (r : List ℕ) → is_inner (head (10 ∷ r)) ≡ false
unfolding is_inner head
stops-inner r = refl

line-end : (s r : List ℕ) → every is_inner s ≡ true → next_line (s ++ (10 ∷ r)) ≡ r
unfolding next_line tail
line-end s r h = rw (past_of is_inner s (10 ∷ r) h (stops-inner r))

row_next : {d : ℕ} {s : List ℕ} {l : Line Expr} (r : List ℕ) → Row d s l → next_line (s ++ r) ≡ r
row_next r (G.plain {d} {g} {s} k q) =
    ap next_line (regroup g s r) ∙ line-end (g ++ s) r (joined (inner-gap k) (inner-content q)).inside
  where
    regroup : (a b c : List ℕ) → (a ++ (b ++ (10 ∷ []))) ++ c ≡ (a ++ b) ++ (10 ∷ c)
    regroup a b c = simp append_assoc
row_next r (G.labelled {d} {g} {n} {c} {s} k q l m p) =
    ap next_line (regroup g n c s r) ∙ line-end (g ++ (n ++ (c ++ s))) r (joined (inner-gap k) (joined (inner-letters q) (joined (inner-mark (omega arith) m) (inner-content p)))).inside
  where
    regroup : (a b e f z : List ℕ) → (a ++ (b ++ (e ++ (f ++ (10 ∷ []))))) ++ z ≡ (a ++ (b ++ (e ++ f))) ++ (10 ∷ z)
    regroup a b e f z = simp append_assoc

-- ---- labels

module _ (d : ℕ) where
  ended-label : (n : Option (List ℕ)) (o : Outcome (Body Expr)) (l : Line Expr) (u : List ℕ) → ended trees d n o ≡ gives l u → l.label ≡ n
  unfolding ended
  ended-label n o l u h =
      let m = middle o (λ b v. cond (eqb (head v) 10) (gives (line n b) (tail v)) refused) l u h in
      let w = when (eqb (head m.text) 10) (gives (line n m.value) (tail m.text)) l u m.second in
      ap (λ (z : Line Expr). z.label) (sym (value_of w.1))

  row_label : (t : List ℕ) (l : Line Expr) (u n : List ℕ) → row trees d t ≡ gives l u → sets t n ≡ sets_label n l.label
  unfolding row sets sets_label
  row_label t l u n h =
      by_bool (is_labelled t)
      (λ e. let w = when (leb (length (front is_letter (skip t))) 16) (ended trees d (some (front is_letter (skip t))) (content trees d (skip (tail (past is_letter (skip t)))))) l u (rw e at h) in
      rw (e, ended-label (some (front is_letter (skip t))) (content trees d (skip (tail (past is_letter (skip t))))) l u w.1))
      (λ e. rw (e, ended-label none (content trees d (skip t)) l u (rw e at h)))

  row_line : (t : List ℕ) (l : Line Expr) (u : List ℕ) → row trees d t ≡ gives l u → next_line t ≡ u
  row_line t l u h = let c = row-sound d t l u h in ap next_line c.cut ∙ row_next u c.holds

  -- what the search of a text finds is what its lines set
  setting-rows : (k : ℕ) (t : List ℕ) (ls : List (Line Expr)) (j : ℕ) (n : List ℕ) → rows trees d k t ≡ lines ls → setting t j n ≡ place_in j (labels_of ls) n
  unfolding rows rows_after place_in
  setting-rows zero [] ls j n h = rw (sym (lines-path h)) (sym (setting-nil j n))
  setting-rows zero (b ∷ t) ls j n h = let z : ◌≡◌ {A = ℕ} 0 1 = cc in absurd (omega arith)
  setting-rows (suc k) [] ls j n h = rw (sym (lines-path h)) (sym (setting-nil j n))
  setting-rows (suc k) (b ∷ t) ls j n h = go (row trees d (b ∷ t)) refl h (setting-rows k)
    where
      go : (o : Outcome (Line Expr)) → row trees d (b ∷ t) ≡ o → rows_after (rows trees d k) o ≡ lines ls → ((u : List ℕ) (ms : List (Line Expr)) (i : ℕ) (m : List ℕ) → rows trees d k u ≡ lines ms → setting u i m ≡ place_in i (labels_of ms) m) → setting (b ∷ t) j n ≡ place_in j (labels_of ls) n
      go (gives l u) e g ih =
          let f = onto-lines d l (rows trees d k u) ls g in
          setting-step b t j n ∙ rw (f.2, row_label (b ∷ t) l u n e, row_line (b ∷ t) l u e, ih u f.0 (suc j) n f.1)
      go refused e g ih = let z : ◌≡◌ {A = ℕ} 0 1 = cc in absurd (omega arith)

  pub labels-placed : (k : ℕ) (t : List ℕ) (ls : List (Line Expr)) → rows trees d k t ≡ lines ls → setting t 0 ≡ place_in 0 (labels_of ls)
  labels-placed k t ls h = fun_ext (λ n. setting-rows k t ls 0 n h)
