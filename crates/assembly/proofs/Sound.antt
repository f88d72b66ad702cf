-- What the reader takes off a text is a line by the grammar. Assumes nothing.
use mathlib.Core.Path.{◌≡◌, refl, sym, ap, ◌∙◌, subst}
use mathlib.Core.Bool.{true, false, cond, ◌&&◌}
use mathlib.Core.List.{List, [], ◌∷◌, ◌++◌, append_assoc}
use mathlib.Core.Option.{Option, some, none}
use Prim.Native.Nat.{ℕ, zero, suc, ◌≤◌, ◌<◌}
use native.Mathlib.Omega.{arith}
use lib.IntN.{pos, neg_ℤ}
use lib.ListN.{length}
use lib.Dec.{leb, ltb, eqb}
use borrow.Author.Tests.{leb-true, ltb-true}
use Rattle.definition.specs.Encoding.{legal}
use Rattle.expression.specs.Grammar.{Expr, Number, Gap, Letters, sum, Reads}
use Rattle.expression.specs.Reader.{same, Outcome, gives, refused, then, head, tail, front, past, is_space, is_digit, is_letter, skip, decimal, signed, trees, numbered, read_sum}
use Rattle.expression.specs.Table.{is_labelled}
use Rattle.expression.proofs.Spans.{past-more, by_bool, front-past, front-every}
use Rattle.expression.proofs.Chain.{middle, when, rest_of, value_of}
use Rattle.expression.proofs.Sound.{both, gap_of, digits, letters, front-head, token, equal-ends, skipped}
use Rattle.expression.proofs.Sound as E
use Rattle.assembly.specs.Grammar.{Arg, None, Imm, Reg, Dir, Ind, Idx, mode, Body, Word, Code, Line, line, mnemonics, registers, dot_word, Named, Mark, mark, Register, register, Index, Operand, Content, Row, Rows}
use Rattle.assembly.specs.Grammar as G
use Rattle.assembly.specs.Reader.{number_of, expect, indexed, operand, coded, operands, word_after, content, ended, row, Text, lines, broken, onto, rows, rows_after}
use Rattle.assembly.specs.Reader as R
use Rattle.assembly.proofs.Names.{name-sound, same_true}

-- the text t is something that reads as x, and r
pub record Cut {X : Type 0} (P : List ℕ → X → Type 0) (t : List ℕ) (x : X) (r : List ℕ) : Type 0 where
  pub s : List ℕ
  pub cut : t ≡ s ++ r
  pub holds : P s x

recast : {X : Type 0} {P : List ℕ → X → Type 0} {t : List ℕ} {a e : X} {u r : List ℕ} → gives a u ≡ gives e r → Cut P t a u → Cut P t e r
recast {X} {P} {t} {a} {e} {u} {r} q c =
    subst (λ (x : X). Cut P t x r) (value_of q) (subst (λ (v : List ℕ). Cut P t a v) (rest_of q) c)

-- one after the other
joined : {X Y : Type 0} {P : List ℕ → X → Type 0} {Q R : List ℕ → Y → Type 0} {t u r : List ℕ} {x : X} {y : Y} → Cut P t x u → Cut Q u y r → ((s v : List ℕ) → P s x → Q v y → R (s ++ v) y) → Cut R t y r
joined {X} {Y} {P} {Q} {R} {t} {u} {r} {x} {y} c k f =
    record { s = c.s ++ k.s; cut = c.cut ∙ (ap (λ (l : List ℕ). c.s ++ l) k.cut ∙ sym (append_assoc c.s k.s r)); holds = f c.s k.s c.holds k.holds }

mapped : {X Y : Type 0} {P : List ℕ → X → Type 0} {Q : List ℕ → Y → Type 0} {t r : List ℕ} {x : X} {y : Y} → Cut P t x r → ((s : List ℕ) → P s x → Q s y) → Cut Q t y r
mapped c f = record { s = c.s; cut = c.cut; holds = f c.s c.holds }

abbrev Sound : {X : Type 0} → (List ℕ → X → Type 0) → (List ℕ → Outcome X) → Type 0
Sound {X} P f = (t : List ℕ) (x : X) (r : List ℕ) → f t ≡ gives x r → Cut P t x r

-- a mark and the spaces after it
mark-cut : {Y : Type 0} (b : ℕ) (y : Y) (t : List ℕ) → eqb 0 b ≡ false → eqb (head t) b ≡ true → Cut (λ s z. Mark b s) t y (skip (tail t))
mark-cut b y t z h =
    record { s = b ∷ front is_space (tail t); cut = equal-ends b t z h ∙ ap (λ (l : List ℕ). b ∷ l) (skipped (tail t)); holds = mark (gap_of (tail t)) }

-- a mark ends what P began
expected : {X Y : Type 0} {P : List ℕ → X → Type 0} {R : List ℕ → Y → Type 0} {t u r : List ℕ} {x : X} {y : Y} (b : ℕ) (w : Y) → eqb 0 b ≡ false → Cut P t x u → expect b w u ≡ gives y r → ((s v : List ℕ) → P s x → Mark b v → R (s ++ v) w) → Cut R t y r
unfolding expect
expected {X} {Y} {P} {R} {t} {u} {r} {x} {y} b w z c h f =
    let k = when (eqb (head u) b) (gives w (skip (tail u))) y r h in
    recast k.1 (joined c (mark-cut b w u z k.0) f)

sum-cut : (d : ℕ) → Sound (Reads sum d) (read_sum trees d)
sum-cut d t e r h = let c = E.sound d t e r h in record { s = c.s; cut = c.cut; holds = c.holds }

named-cut : (ns : List (List ℕ)) (t : List ℕ) → number_of ns (front is_letter t) < length ns → Cut (Named ns) t (number_of ns (front is_letter t)) (past is_letter t)
named-cut ns t h = record { s = front is_letter t; cut = front-past is_letter t; holds = name-sound ns (front is_letter t) h }

register-cut : (t : List ℕ) (n : ℕ) (r : List ℕ) → eqb (head t) 37 ≡ true → R.register (tail t) ≡ gives n r → Cut Register t n r
unfolding R.register
register-cut t n r p h =
    let u = tail t in
    let w = when (ltb (number_of registers (front is_letter u)) 5) (gives (number_of registers (front is_letter u)) (skip (past is_letter u))) n r h in
    recast w.1
    (record { s = 37 ∷ (front is_letter u ++ front is_space (past is_letter u)); cut = equal-ends 37 t refl p ∙ ap (λ (l : List ℕ). 37 ∷ l) (token is_letter u); holds = register (name-sound registers (front is_letter u) (ltb-true (number_of registers (front is_letter u)) 5 w.0)) (gap_of (past is_letter u)) })

index_plus : (t : List ℕ) (i : Expr) (r : List ℕ) → eqb (head t) 43 ≡ true → numbered trees false (tail t) ≡ gives i r → Cut Index t i r
unfolding numbered signed
index_plus t i r p h =
    let u = tail t in
    let w = when (is_digit (head u)) (gives (Number (pos (decimal 0 (front is_digit u)))) (skip (past is_digit u))) i r h in
    recast w.1
    (record { s = 43 ∷ (front is_digit u ++ front is_space (past is_digit u)); cut = equal-ends 43 t refl p ∙ ap (λ (l : List ℕ). 43 ∷ l) (token is_digit u); holds = G.plus (digits (front is_digit u) (front-every is_digit u) (front-head is_digit u w.0)) (gap_of (past is_digit u)) })

index-minus : (t : List ℕ) (i : Expr) (r : List ℕ) → eqb (head t) 45 ≡ true → numbered trees true (tail t) ≡ gives i r → Cut Index t i r
unfolding numbered signed
index-minus t i r p h =
    let u = tail t in
    let w = when (is_digit (head u)) (gives (Number (neg_ℤ (pos (decimal 0 (front is_digit u))))) (skip (past is_digit u))) i r h in
    recast w.1
    (record { s = 45 ∷ (front is_digit u ++ front is_space (past is_digit u)); cut = equal-ends 45 t refl p ∙ ap (λ (l : List ℕ). 45 ∷ l) (token is_digit u); holds = G.minus (digits (front is_digit u) (front-every is_digit u) (front-head is_digit u w.0)) (gap_of (past is_digit u)) })

regroup : (g n c s r : List ℕ) → g ++ (n ++ (c ++ (s ++ r))) ≡ (g ++ (n ++ (c ++ s))) ++ r
regroup g n c s r = simp append_assoc

pub lines-path : {ls ms : List (Line Expr)} → lines ls ≡ lines ms → ls ≡ ms
lines-path e = cc

module _ (d : ℕ) where
  -- what follows an opening square bracket
  abbrev Rest : List ℕ → Arg Expr → Type 0
  Rest v x = (a : List ℕ) → Mark 91 a → Operand d (a ++ v) x

  indexed-sound : (t u : List ℕ) (n : ℕ) (x : Arg Expr) (r : List ℕ) → Cut Register t n u → indexed trees d n u ≡ gives x r → Cut Rest t x r
  unfolding indexed
  indexed-sound t u n x r c h =
      by_bool (eqb (head u) 43)
      (λ p. let m = middle (numbered trees false (tail u)) (λ i v. expect 93 (Idx n i) v) x r (rw p at h) in
      joined c (expected {R = λ v y. (s a : List ℕ) → Register s n → Mark 91 a → Operand d (a ++ (s ++ v)) y} 93 (Idx n m.value) refl (index_plus u m.value m.text p m.first) m.second (λ i z q k s a g b. G.idx b g q k)) (λ s v g f a b. f s a g b))
      (λ p. by_bool (eqb (head u) 45)
      (λ q. let m = middle (numbered trees true (tail u)) (λ i v. expect 93 (Idx n i) v) x r (rw (p, q) at h) in
      joined c (expected {R = λ v y. (s a : List ℕ) → Register s n → Mark 91 a → Operand d (a ++ (s ++ v)) y} 93 (Idx n m.value) refl (index-minus u m.value m.text q m.first) m.second (λ i z q k s a g b. G.idx b g q k)) (λ s v g f a b. f s a g b))
      (λ q. expected 93 (Ind n) refl c (rw (p, q) at h) (λ s z g k a b. G.ind b g k)))

  operand_sound : Sound (Operand d) (operand trees d)
  unfolding operand
  operand_sound t x r h =
      by_bool (eqb (head t) 37)
      (λ p. let m = middle (R.register (tail t)) (λ n u. gives (Reg n) u) x r (rw p at h) in
      recast m.second (mapped (register-cut t m.value m.text p m.first) (λ s g. G.reg g)))
      (λ p. by_bool (eqb (head t) 91)
      (λ q. by_bool (eqb (head (skip (tail t))) 37)
      (λ g. let m = middle (R.register (tail (skip (tail t)))) (indexed trees d) x r (rw (p, q, g) at h) in
      joined (mark-cut 91 x t refl q) (indexed-sound (skip (tail t)) m.text m.value x r (register-cut (skip (tail t)) m.value m.text g m.first) m.second) (λ a v k f. f a k))
      (λ g. let m = middle (read_sum trees d (skip (tail t))) (λ e u. expect 93 (Dir e) u) x r (rw (p, q, g) at h) in
      joined {Q = Rest} (mark-cut 91 x t refl q) (expected {R = Rest} 93 (Dir m.value) refl (sum-cut d (skip (tail t)) m.value m.text m.first) m.second (λ s z k w a b. G.dir b k w)) (λ a v k f. f a k)))
      (λ q. let m = middle (read_sum trees d t) (λ e u. gives (Imm e) u) x r (rw (p, q) at h) in
      recast m.second (mapped (sum-cut d t m.value m.text m.first) (λ s k. G.imm k))))

  space-cut : (t : List ℕ) {Y : Type 0} (y : Y) → is_space (head t) ≡ true → Cut (λ s z. Mark 32 s) t y (skip t)
  unfolding is_space
  space-cut t y h = rw (sym (past-more is_space t h)) (mark-cut 32 y t refl h)

  operands-sound : (o : ℕ) (m t : List ℕ) (b : Body Expr) (r : List ℕ) → Named mnemonics m o → operands trees d o t ≡ gives b r → Cut (λ s x. Content d (m ++ s) x) t b r
  unfolding operands coded mode
  operands-sound o m t b r n h =
      by_bool (legal o 0 0)
      (λ l. recast (rw l at h) (record { s = front is_space t; cut = skipped t; holds = G.bare n l (gap_of t) }))
      (λ l. let w = when (is_space (head t)) (then (operand trees d (skip t)) (λ x u. cond (eqb (head u) 44) (then (operand trees d (skip (tail u))) (λ y v. coded trees d o x y v)) (coded trees d o x None u))) b r (rw l at h) in
      let k = middle (operand trees d (skip t)) (λ x u. cond (eqb (head u) 44) (then (operand trees d (skip (tail u))) (λ y v. coded trees d o x y v)) (coded trees d o x None u)) b r w.1 in
      let u = k.text in
      let x = k.value in
      let c = operand_sound (skip t) x u k.first in
      let g = space-cut t b w.0 in
      by_bool (eqb (head u) 44)
      (λ e. let i = middle (operand trees d (skip (tail u))) (λ y v. coded trees d o x y v) b r (rw e at k.second) in
      let y = i.value in
      let j = when (legal o (mode x) (mode y)) (gives (Code o x y) i.text) b r i.second in
      let q = operand_sound (skip (tail u)) y i.text i.first in
      recast j.1
      (joined {Q = λ v z. (a : List ℕ) → Mark 32 a → Content d (m ++ (a ++ v)) z} (space-cut t (Code o x y) w.0)
      (joined {Q = λ v z. (a s : List ℕ) → Mark 32 a → Operand d s x → Content d (m ++ (a ++ (s ++ v))) z} c
      (joined {Q = λ v z. Operand d v y} (mark-cut 44 (Code o x y) u refl e) (mapped {y = Code o x y} q (λ s p. p)) (λ c' v k' p a s a' p'. G.two n j.0 a' p' k' p))
      (λ s v p f a a'. f a s a' p))
      (λ a v a' f. f a a')))
      (λ e. let j = when (legal o (mode x) 0) (gives (Code o x None) u) b r (rw e at k.second) in
      recast j.1
      (joined {Q = λ v z. Operand d v x} (space-cut t (Code o x None) w.0) (mapped {y = Code o x None} c (λ s p. p)) (λ a v a' p. G.one n j.0 a' p))))

  content-sound : Sound (Content d) (content trees d)
  unfolding content word_after
  content-sound t b r h =
      by_bool (eqb (head t) 46)
      (λ p. let u = past is_letter (tail t) in
      let w = when (same dot_word (46 ∷ front is_letter (tail t))) (word_after trees d u) b r (rw p at h) in
      let v = when (is_space (head u)) (then (read_sum trees d (skip u)) (λ x z. gives (Word x) z)) b r w.1 in
      let m = middle (read_sum trees d (skip u)) (λ x z. gives (Word x) z) b r v.1 in
      let k = joined {R = λ z y. Content d (dot_word ++ z) y} (space-cut u (Word m.value) v.0) (mapped {Q = λ z y. Reads sum d z m.value} {y = Word m.value} (sum-cut d (skip u) m.value m.text m.first) (λ s q. q)) (λ a z a' q. G.word a' q) in
      let e = sym (same_true dot_word (46 ∷ front is_letter (tail t)) w.0) in
      recast m.second
      (record { s = dot_word ++ k.s; cut = equal-ends 46 t refl p ∙ (ap (λ (l : List ℕ). 46 ∷ l) (front-past is_letter (tail t)) ∙ (ap (λ (l : List ℕ). l ++ u) e ∙ (ap (λ (l : List ℕ). dot_word ++ l) k.cut ∙ sym (append_assoc dot_word k.s m.text)))); holds = k.holds }))
      (λ p. let o = number_of mnemonics (front is_letter t) in
      let w = when (ltb o 33) (operands trees d o (past is_letter t)) b r (rw p at h) in
      let n = name-sound mnemonics (front is_letter t) (ltb-true o 33 w.0) in
      let c = operands-sound o (front is_letter t) (past is_letter t) b r n w.1 in
      record { s = front is_letter t ++ c.s; cut = front-past is_letter t ∙ (ap (λ (l : List ℕ). front is_letter t ++ l) c.cut ∙ sym (append_assoc (front is_letter t) c.s r)); holds = c.holds })

  ended-sound : (n : Option (List ℕ)) (t : List ℕ) (l : Line Expr) (r : List ℕ) → ended trees d n (content trees d t) ≡ gives l r → Cut (λ v z. (b : Body Expr) × (s : List ℕ) × (v ≡ s ++ (10 ∷ [])) × Content d s b × (z ≡ line n b)) t l r
  unfolding ended
  ended-sound n t l r h =
      let m = middle (content trees d t) (λ b u. cond (eqb (head u) 10) (gives (line n b) (tail u)) refused) l r h in
      let c = content-sound t m.value m.text m.first in
      let w = when (eqb (head m.text) 10) (gives (line n m.value) (tail m.text)) l r m.second in
      recast w.1
      (record { s = c.s ++ (10 ∷ []); cut = c.cut ∙ (ap (λ (z : List ℕ). c.s ++ z) (equal-ends 10 m.text refl w.0) ∙ sym (append_assoc c.s (10 ∷ []) (tail m.text))); holds = (m.value, c.s, refl, c.holds, refl) })

  plain_row : {g s : List ℕ} {b : Body Expr} {z : Line Expr} → Gap g → Content d s b → z ≡ line none b → Row d (g ++ (s ++ (10 ∷ []))) z
  plain_row g c e = rw e (G.plain g c)

  labelled-row : {g n c s : List ℕ} {b : Body Expr} {z : Line Expr} → Gap g → Letters n → length n ≤ 16 → Mark 58 c → Content d s b → z ≡ line (some n) b → Row d (g ++ (n ++ (c ++ (s ++ (10 ∷ []))))) z
  labelled-row g n l c k e = rw e (G.labelled g n l c k)

  pub row-sound : Sound (Row d) (row trees d)
  unfolding row is_labelled
  row-sound t l r h =
      by_bool (is_letter (head (skip t)) && eqb (head (past is_letter (skip t))) 58)
      (λ p. let q = both (is_letter (head (skip t))) (eqb (head (past is_letter (skip t))) 58) p in
      let n = front is_letter (skip t) in
      let u = past is_letter (skip t) in
      let w = when (leb (length n) 16) (ended trees d (some n) (content trees d (skip (tail u)))) l r (rw p at h) in
      let c = ended-sound (some n) (skip (tail u)) l r w.1 in
      let f = c.holds in
      let k = mark-cut 58 l u refl q.1 in
      record {
        s = front is_space t ++ (n ++ (k.s ++ (f.1 ++ (10 ∷ []))));
        cut = skipped t ∙ (ap (λ (z : List ℕ). front is_space t ++ z) (front-past is_letter (skip t) ∙ ap (λ (z : List ℕ). n ++ z) (k.cut ∙ ap (λ (z : List ℕ). k.s ++ z) (c.cut ∙ ap (λ (z : List ℕ). z ++ r) f.2))) ∙ regroup (front is_space t) n k.s (f.1 ++ (10 ∷ [])) r);
        holds = labelled-row (gap_of t) (letters n (front-every is_letter (skip t)) (front-head is_letter (skip t) q.0)) (leb-true (length n) 16 w.0) k.holds f.3 f.4;
      })
      (λ p. let c = ended-sound none (skip t) l r (rw p at h) in
      let f = c.holds in
      record {
        s = front is_space t ++ (f.1 ++ (10 ∷ []));
        cut = skipped t ∙ (ap (λ (z : List ℕ). front is_space t ++ z) (c.cut ∙ ap (λ (z : List ℕ). z ++ r) f.2) ∙ sym (append_assoc (front is_space t) (f.1 ++ (10 ∷ [])) r));
        holds = plain_row (gap_of t) f.3 f.4;
      })

  pub onto-lines : (l : Line Expr) (x : Text Expr) (ls : List (Line Expr)) → onto l x ≡ lines ls → (ms : List (Line Expr)) × (x ≡ lines ms) × (ls ≡ l ∷ ms)
  unfolding onto
  onto-lines l (lines ms) ls h = (ms, refl, lines-path (sym h))
  onto-lines l (broken k) ls h = let z : ◌≡◌ {A = ℕ} 0 1 = cc in absurd (omega arith)

  -- what is read as lines is a text of the grammar
  pub rows-sound : (k : ℕ) (t : List ℕ) (ls : List (Line Expr)) → rows trees d k t ≡ lines ls → Rows d t ls × (length ls ≤ k)
  unfolding rows rows_after
  rows-sound zero [] ls h = rw (sym (lines-path h)) (G.end, omega arith)
  rows-sound zero (b ∷ t) ls h = let z : ◌≡◌ {A = ℕ} 0 1 = cc in absurd (omega arith)
  rows-sound (suc k) [] ls h = rw (sym (lines-path h)) (G.end, omega arith)
  rows-sound (suc k) (b ∷ t) ls h = go (row trees d (b ∷ t)) refl h (rows-sound k)
    where
      go : (o : Outcome (Line Expr)) → row trees d (b ∷ t) ≡ o → rows_after (rows trees d k) o ≡ lines ls → ((u : List ℕ) (ms : List (Line Expr)) → rows trees d k u ≡ lines ms → Rows d u ms × (length ms ≤ k)) → Rows d (b ∷ t) ls × (length ls ≤ suc k)
      go (gives l u) e g ih =
          let f = onto-lines l (rows trees d k u) ls g in
          let i = ih u f.0 f.1 in
          let c = row-sound (b ∷ t) l u e in
          let j = i.1 in
          rw (c.cut, f.2) (G.more c.holds i.0, omega arith)
      go refused e g ih = let z : ◌≡◌ {A = ℕ} 0 1 = cc in absurd (omega arith)
