-- What the reader takes off a text is a part of an expression by the grammar. Assumes nothing.
use mathlib.Core.Path.{◌≡◌, refl, sym, ap, ◌∙◌, subst}
use mathlib.Core.Bool.{Bool, true, false, cond, ◌&&◌}
use mathlib.Core.List.{List, [], ◌∷◌, ◌++◌, append_assoc, append-nil}
use Prim.Native.Nat.{ℕ, zero, suc, ◌+◌, ◌*◌, ◌-◌, ◌≤◌}
use native.Mathlib.Omega.{arith}
use lib.IntN.{pos, neg_ℤ}
use lib.ListN.{length}
use lib.Dec.{leb, eqb}
use borrow.Author.Tests.{leb-true, eqb-true}
use Rattle.decimal.specs.Decimal as D
use Rattle.expression.specs.Grammar.{Expr, Number, Label, Plus, Minus, Times, Gap, Digits, Letters, sum, product, atom, Reads}
use Rattle.expression.specs.Grammar as G
use Rattle.expression.specs.Reader.{Outcome, gives, head, tail, front, past, is_space, is_digit, is_letter, skip, decimal, signed, trees, Level, is_star, is_sign, product_level, sum_level, chain, chained, links, numbered, labelled, closed, atom_with, product_with, sum_with, within, read_sum}
use Rattle.expression.proofs.Spans.{by_bool, clash, every, every-head, every-tail, front-past, front-every, cons_of}
use Rattle.expression.proofs.Chain.{middle, when, rest_of, value_of, never, star-ends, sign-ends}

pub both : (a b : Bool) → (a && b) ≡ true → (a ≡ true) × (b ≡ true)
both true b h = (refl, h)
both false b h = clash h refl

-- the text t is a part of tree e, and r
pub record Cut (P : List ℕ → Expr → Type 0) (t : List ℕ) (e : Expr) (r : List ℕ) : Type 0 where
  pub s : List ℕ
  pub cut : t ≡ s ++ r
  pub holds : P s e

recast : {P : List ℕ → Expr → Type 0} {t : List ℕ} {a e : Expr} {u r : List ℕ} → gives a u ≡ gives e r → Cut P t a u → Cut P t e r
recast {P} {t} {a} {e} {u} {r} q c =
    subst (λ (x : Expr). Cut P t x r) (value_of q) (subst (λ (v : List ℕ). Cut P t a v) (rest_of q) c)

from : {P : List ℕ → Expr → Type 0} {t u : List ℕ} {e : Expr} {r : List ℕ} → t ≡ u → Cut P u e r → Cut P t e r
from q c = record { s = c.s; cut = q ∙ c.cut; holds = c.holds }

gap : (s : List ℕ) → every is_space s ≡ true → Gap s
unfolding is_space
gap [] h = G.none
gap (b ∷ s) h =
    subst (λ (x : ℕ). Gap (x ∷ s)) (sym (eqb-true b 32 (every-head is_space b s h))) (G.space (gap s (every-tail is_space b s h)))

pub gap_of : (t : List ℕ) → Gap (front is_space t)
gap_of t = gap (front is_space t) (front-every is_space t)

pub digit-bounds : (b : ℕ) → is_digit b ≡ true → (48 ≤ b) × (b ≤ 57)
unfolding is_digit
digit-bounds b h = let p = both (leb 48 b) (leb b 57) h in (leb-true 48 b p.0, leb-true b 57 p.1)

letter-bounds : (b : ℕ) → is_letter b ≡ true → (97 ≤ b) × (b ≤ 122)
unfolding is_letter
letter-bounds b h = let p = both (leb 97 b) (leb b 122) h in (leb-true 97 b p.0, leb-true b 122 p.1)

more-digits : (s : List ℕ) {u : List ℕ} {w : ℕ} → Digits u w → every is_digit s ≡ true → Digits (u ++ s) (decimal w s)
unfolding decimal
more-digits [] {u} r h = rw append-nil r
more-digits (b ∷ s) {u} {w} r h =
    let p = digit-bounds b (every-head is_digit b s h) in
    let e : 48 + (b - 48) ≡ b = omega arith in
    let n : Digits (u ++ (b ∷ [])) (w * 10 + (b - 48)) = subst (λ (d : ℕ). Digits (u ++ (d ∷ [])) (w * 10 + (b - 48))) e (D.more {d = b - 48} r (omega arith)) in
    rw append_assoc at (more-digits s n (every-tail is_digit b s h))

pub digits : (s : List ℕ) → every is_digit s ≡ true → is_digit (head s) ≡ true → Digits s (decimal 0 s)
unfolding decimal head is_digit
digits [] h i = clash i refl
digits (b ∷ s) h i =
    let p = digit-bounds b i in
    let e : 48 + (b - 48) ≡ b = omega arith in
    let z : 0 * 10 + (b - 48) ≡ b - 48 = omega arith in
    let n : Digits (b ∷ []) (0 * 10 + (b - 48)) = rw z (subst (λ (d : ℕ). Digits (d ∷ []) (b - 48)) e (D.one {d = b - 48} (omega arith))) in
    more-digits s n (every-tail is_digit b s h)

pub letters : (s : List ℕ) → every is_letter s ≡ true → is_letter (head s) ≡ true → Letters s
unfolding head is_letter
letters [] h i = clash i refl
letters (b ∷ []) h i = let p = letter-bounds b i in G.one p.0 p.1
letters (b ∷ c ∷ s) h i =
    let p = letter-bounds b i in
    let t = every-tail is_letter b (c ∷ s) h in
    G.more p.0 p.1 (letters (c ∷ s) t (every-head is_letter c s t))

pub front-head : (p : ℕ → Bool) (t : List ℕ) → p (head t) ≡ true → p (head (front p t)) ≡ true
unfolding front head
front-head p [] h = h
front-head p (b ∷ t) h = rw h h

-- a token and the spaces after it
pub token : (p : ℕ → Bool) (t : List ℕ) → t ≡ (front p t ++ front is_space (past p t)) ++ skip (past p t)
token p t =
    front-past p t ∙ (ap (λ (l : List ℕ). front p t ++ l) (front-past is_space (past p t)) ∙ sym (append_assoc (front p t) (front is_space (past p t)) (skip (past p t))))

numbered-sound : (d : ℕ) (t : List ℕ) (e : Expr) (r : List ℕ) → numbered trees false t ≡ gives e r → Cut (Reads atom d) t e r
unfolding numbered signed
numbered-sound d t e r h =
    let w = when (is_digit (head t)) (gives (Number (pos (decimal 0 (front is_digit t)))) (skip (past is_digit t))) e r h in
    recast w.1
    (record { s = front is_digit t ++ front is_space (past is_digit t); cut = token is_digit t; holds = G.number (digits (front is_digit t) (front-every is_digit t) (front-head is_digit t w.0)) (gap_of (past is_digit t)) })

negative-sound : (d : ℕ) (t : List ℕ) (e : Expr) (r : List ℕ) → numbered trees true t ≡ gives e r → Cut (Reads atom d) (45 ∷ t) e r
unfolding numbered signed
negative-sound d t e r h =
    let w = when (is_digit (head t)) (gives (Number (neg_ℤ (pos (decimal 0 (front is_digit t))))) (skip (past is_digit t))) e r h in
    recast w.1
    (record { s = 45 ∷ (front is_digit t ++ front is_space (past is_digit t)); cut = ap (λ (l : List ℕ). 45 ∷ l) (token is_digit t); holds = G.negative (digits (front is_digit t) (front-every is_digit t) (front-head is_digit t w.0)) (gap_of (past is_digit t)) })

labelled-sound : (d : ℕ) (t : List ℕ) (e : Expr) (r : List ℕ) → is_letter (head t) ≡ true → labelled trees t ≡ gives e r → Cut (Reads atom d) t e r
unfolding labelled
labelled-sound d t e r i h =
    let w = when (leb (length (front is_letter t)) 16) (gives (Label (front is_letter t)) (skip (past is_letter t))) e r h in
    recast w.1
    (record { s = front is_letter t ++ front is_space (past is_letter t); cut = token is_letter t; holds = G.label (letters (front is_letter t) (front-every is_letter t) (front-head is_letter t i)) (leb-true (length (front is_letter t)) 16 w.0) (gap_of (past is_letter t)) })

-- what round brackets make of it is an atom
abbrev Inner : ℕ → List ℕ → Expr → Type 0
Inner d s e = (g h : List ℕ) → Gap g → Gap h → Reads atom d (40 ∷ (g ++ (s ++ (41 ∷ h)))) e

abbrev SoundAt : (List ℕ → Expr → Type 0) → (List ℕ → Outcome Expr) → Type 0
SoundAt P f = (t : List ℕ) (e : Expr) (r : List ℕ) → f t ≡ gives e r → Cut P t e r

pub equal-ends : (n : ℕ) (t : List ℕ) → (eqb 0 n ≡ false) → eqb (head t) n ≡ true → t ≡ n ∷ tail t
equal-ends n t z h =
    cons_of (λ b. eqb b n) t z h ∙ ap (λ (b : ℕ). b ∷ tail t) (eqb-true (head t) n h)

pub skipped : (t : List ℕ) → t ≡ front is_space t ++ skip t
skipped t = front-past is_space t

regroup : (g s h r : List ℕ) → g ++ (s ++ (41 ∷ (h ++ r))) ≡ (g ++ (s ++ (41 ∷ h))) ++ r
regroup g s h r = simp append_assoc

atom-sound : (d : ℕ) → SoundAt (Inner d) (within trees d) → SoundAt (Reads atom d) (atom_with trees (within trees d))
unfolding atom_with closed
atom-sound d inner t e r h =
    by_bool (is_digit (head t)) (λ b. numbered-sound d t e r (rw b at h)) (λ b.
    by_bool (is_letter (head t)) (λ l. labelled-sound d t e r l (rw (b, l) at h)) (λ l.
    by_bool (eqb (head t) 40)
    (λ o. let m = middle (within trees d (skip (tail t))) (closed trees) e r (rw (b, l, o) at h) in
    let c = inner (skip (tail t)) m.value m.text m.first in
    let w = when (eqb (head m.text) 41) (gives m.value (skip (tail m.text))) e r m.second in
    let g = front is_space (tail t) in
    let k = front is_space (tail m.text) in
    recast w.1
    (record {
      s = 40 ∷ (g ++ (c.s ++ (41 ∷ k)));
      cut = equal-ends 40 t refl o ∙ ap (λ (x : List ℕ). 40 ∷ x) (skipped (tail t) ∙ (ap (λ (x : List ℕ). g ++ x) (c.cut ∙ ap (λ (x : List ℕ). c.s ++ x) (equal-ends 41 m.text refl w.0 ∙ ap (λ (x : List ℕ). 41 ∷ x) (skipped (tail m.text)))) ∙ regroup g c.s k (skip (tail m.text))));
      holds = c.holds g k (gap_of (tail t)) (gap_of (tail m.text));
    }))
    (λ o. let w = when (eqb (head t) 45) (numbered trees true (tail t)) e r (rw (b, l, o) at h) in
    from (equal-ends 45 t refl w.0) (negative-sound d (tail t) e r w.1))))

module _ (L : Level Expr) (f : List ℕ → Outcome Expr) (P R : List ℕ → Expr → Type 0) (ends : L.joins 0 ≡ false) (sound : SoundAt R f) (first : (s : List ℕ) (e : Expr) → R s e → P s e) (joined : (c : ℕ) (s g u : List ℕ) (a b : Expr) → L.joins c ≡ true → P s a → Gap g → R u b → P (s ++ (c ∷ (g ++ u))) (L.join c a b)) where
  chain-sound : (k : ℕ) (x : Expr) (s t : List ℕ) (y : Expr) (r : List ℕ) → P s x → chain k L f x t ≡ gives y r → Cut P (s ++ t) y r
  unfolding chain
  chain-sound zero x s t y r p h = recast h (record { s = s; cut = refl; holds = p })
  chain-sound (suc k) x s t y r p h =
      by_bool (L.joins (head t))
      (λ j. let m = middle (f (skip (tail t))) (λ z u. chain k L f (L.join (head t) x z) u) y r (rw j at h) in
      let c = sound (skip (tail t)) m.value m.text m.first in
      let g = front is_space (tail t) in
      from
      (ap (λ (l : List ℕ). s ++ l) (cons_of L.joins t ends j ∙ ap (λ (l : List ℕ). head t ∷ l) (skipped (tail t) ∙ (ap (λ (l : List ℕ). g ++ l) c.cut ∙ sym (append_assoc g c.s m.text)))) ∙ sym (append_assoc s (head t ∷ (g ++ c.s)) m.text))
      (chain-sound k (L.join (head t) x m.value) (s ++ (head t ∷ (g ++ c.s))) m.text y r (joined (head t) s g c.s x m.value j p (gap_of (tail t)) c.holds) m.second))
      (λ j. recast (rw j at h) (record { s = s; cut = refl; holds = p }))

  links-sound : SoundAt P (links L f)
  unfolding links chained
  links-sound t e r h =
      let m = middle (f t) (λ x u. chain (length u) L f x u) e r h in
      let c = sound t m.value m.text m.first in
      from c.cut (chain-sound (length m.text) m.value c.s m.text e r (first c.s m.value c.holds) m.second)

star-joined : (d c : ℕ) (s g u : List ℕ) (a b : Expr) → is_star c ≡ true → Reads product d s a → Gap g → Reads atom d u b → Reads product d (s ++ (c ∷ (g ++ u))) (Times a b)
unfolding is_star
star-joined d c s g u a b j p q r =
    subst (λ (x : ℕ). Reads product d (s ++ (x ∷ (g ++ u))) (Times a b)) (sym (eqb-true c 42 j)) (G.times p q r)

sign-joined : (d c : ℕ) (s g u : List ℕ) (a b : Expr) → is_sign c ≡ true → Reads sum d s a → Gap g → Reads product d u b → Reads sum d (s ++ (c ∷ (g ++ u))) (cond (eqb c 43) (Plus a b) (Minus a b))
unfolding is_sign
sign-joined d c s g u a b j p q r =
    by_bool (eqb c 43)
    (λ h. rw h (subst (λ (x : ℕ). Reads sum d (s ++ (x ∷ (g ++ u))) (Plus a b)) (sym (eqb-true c 43 h)) (G.plus p q r)))
    (λ h. rw h (subst (λ (x : ℕ). Reads sum d (s ++ (x ∷ (g ++ u))) (Minus a b)) (sym (eqb-true c 45 (rw h at j))) (G.minus p q r)))

sum-sound : (d : ℕ) → SoundAt (Inner d) (within trees d) → SoundAt (Reads sum d) (sum_with trees (within trees d))
unfolding sum_with product_with
sum-sound d inner t e r h =
    links-sound (sum_level trees) (product_with trees (within trees d)) (Reads sum d) (Reads product d) sign-ends
    (λ t' e' r' h'. links-sound (product_level trees) (atom_with trees (within trees d)) (Reads product d) (Reads atom d) star-ends (atom-sound d inner) (λ s a p. G.factor p) (star-joined d) t' e' r' h')
    (λ s a p. G.term p) (sign-joined d) t e r h

inner-sound : (d : ℕ) → SoundAt (Inner d) (within trees d)
unfolding within
inner-sound zero t e r h = never h
inner-sound (suc d) t e r h =
    let c = sum-sound d (inner-sound d) t e r h in
    record { s = c.s; cut = c.cut; holds = λ g k p q. G.brackets p c.holds q }

pub sound : (d : ℕ) (t : List ℕ) (e : Expr) (r : List ℕ) → read_sum trees d t ≡ gives e r → Cut (Reads sum d) t e r
unfolding read_sum
sound d t e r h = sum-sound d (inner-sound d) t e r h
