-- One pass finds the lowest line for 14 and, failing one, for 15. Assumes nothing.
use mathlib.Core.Path.{◌≡◌, refl, ap, ◌∙◌}
use mathlib.Core.Bool.{Bool, true, false, cond, not, ◌||◌}
use mathlib.Core.List.{List, [], ◌∷◌, map}
use mathlib.Core.Option.{Option, some, none}
use Prim.Native.Nat.{ℕ, suc, ◌+◌, ◌≤◌, ◌<◌}
use native.Mathlib.Omega.{arith}
use native.Mathlib.Numerals.{add-one}
use lib.Dec.{ltb, leb, eqb}
use borrow.Author.Tests.{eq-eqb, ne_eqb, lt-ltb, ltb-true, le-leb, lt-leb}
use mir.Val.{bool_byte}
use Rattle.std.specs.Prelude.{Ok, Err, Some, None, is_some}
use Rattle.std.specs.Prelude as P
use Rattle.std.specs.Borrow.{Bor}
use Rattle.definition.specs.Answers.{number_of, place_of}
use Rattle.definition.specs.declared.answers.Refusal.{Refusal}
use Rattle.definition.specs.declared.answers.Refusal.TheVariants as R
use Rattle.definition.specs.declared.Cell.{Cell}
use Rattle.expression.specs.declared.Value.{Value}
use Rattle.expression.specs.Reader.{same}
use Rattle.expression.proofs.Spans.{by_bool, clash}
use Rattle.assembly.specs.Grammar.{Line}
use Rattle.assembly.specs.Assemble.{sets_label, place_in, misses, count_set, any_sets, label_wrong, exceeds, lowest, wrong_labels, wrong_values, line_cell, Assembled, cells, refuses, otherwise, judged, labels_of}
use Rattle.line.specs.Code.{label_told}
use Rattle.assembler.specs.Meaning.{is_at, label_fails, line_fails, label_count, Verdict, ruled, judge}

pub same_refl : (s : List ℕ) → same s s ≡ true
unfolding same
same_refl [] = refl
same_refl (b ∷ s) = rw (eq-eqb b b refl) (same_refl s)

unfoldable below : ℕ → Option ℕ → Bool
below k none = false
below k (some j) = ltb j k

-- a label of the lines before k means one of them, and another one what the lines from k on set
record Placed (p : List ℕ → Option ℕ) (before : List (Option (List ℕ))) (k : ℕ) (ls : List (Line Value)) : Type 0 where
  earlier : (n : List ℕ) → any_sets n before ≡ true → below k (p n) ≡ true
  later : (n : List ℕ) → any_sets n before ≡ false → p n ≡ place_in k (labels_of ls) n

below_more : (k : ℕ) (o : Option ℕ) → below k o ≡ true → below (suc k) o ≡ true
unfolding below
below_more k none h = h
below_more k (some j) h = let i = ltb-true j k h in lt-ltb j (suc k) (omega arith)

below-not-at : (k : ℕ) (o : Option ℕ) → below k o ≡ true → is_at k o ≡ false
unfolding below is_at
below-not-at k none h = refl
below-not-at k (some j) h = let i = ltb-true j k h in ne_eqb j k (λ e. absurd (omega arith))

either : (a b : Bool) → (a || b) ≡ false → (a ≡ false) × (b ≡ false)
either true b h = clash refl h
either false b h = (refl, h)

or-true : (b : Bool) → (b || true) ≡ true
or-true true = refl
or-true false = refl

or-false : (b : Bool) → (b || false) ≡ b
or-false true = refl
or-false false = refl

here : (k : ℕ) → below (suc k) (some k) ≡ true
unfolding below
here k = lt-ltb k (suc k) (omega arith)

module _ (p : List ℕ → Option ℕ) where
  start : (ls : List (Line Value)) → p ≡ place_in 0 (labels_of ls) → Placed p [] 0 ls
  unfolding any_sets
  start ls e = record { earlier = λ n h. clash h refl; later = λ n h. ap (λ (f : List ℕ → Option ℕ). f n) e }

  go_on : (before : List (Option (List ℕ))) (k : ℕ) (l : Line Value) (ls : List (Line Value)) → Placed p before k (l ∷ ls) → Placed p (l.label ∷ before) (suc k) ls
  unfolding any_sets place_in
  go_on before k l ls h =
      record {
        earlier = λ n e. by_bool (any_sets n before)
            (λ f. below_more k (p n) (h.earlier n f))
            (λ f. by_bool (sets_label n l.label)
            (λ g. rw (h.later n f, g) (here k))
            (λ g. clash (rw (f, g) at e) refl));
        later = λ n e. let d = either (sets_label n l.label) (any_sets n before) e in h.later n d.1 ∙ rw d.0;
      }

  -- the test of a line's own label
  own : (before : List (Option (List ℕ))) (k : ℕ) (l : Line Value) (ls : List (Line Value)) (lab : Option (List ℕ)) → l.label ≡ lab → Placed p before k (l ∷ ls) → label_fails p k (count_set before) lab ≡ label_wrong before lab
  unfolding label_fails label_wrong place_in sets_label is_at
  own before k l ls none e h = refl
  own before k l ls (some n) e h =
      by_bool (any_sets n before)
      (λ f. rw (f, below-not-at k (p n) (h.earlier n f)) (or-true (leb 256 (count_set before))))
      (λ f. rw (f, h.later n f, e, same_refl n, eq-eqb k k refl) (or-false (leb 256 (count_set before))))

-- the answer of the pass, from line k on, with the verdict v on the values before it
unfoldable answer : Option ℕ → Verdict → Option ℕ → Verdict
answer (some k) v o = Err (R.Label (suc k))
answer none (Err e) o = Err e
answer none (Ok u) (some j) = Err (R.Value (suc j))
answer none (Ok u) none = Ok u

answer-here : (b : Bool) (k : ℕ) (v : Verdict) (x y : Option ℕ) → answer x (ruled v b k) y ≡ answer x v (cond b (some k) y)
unfolding answer ruled
answer-here b k v (some j) y = refl
answer-here true k (Ok u) none y = refl
answer-here false k (Ok u) none y = refl
answer-here b k (Err e) none y = refl

answer-end : (v : Verdict) → v ≡ answer none v none
unfolding answer
answer-end (Ok u) = refl
answer-end (Err e) = refl

answer-fails : (k : ℕ) (v : Verdict) (o : Option ℕ) → Err (R.Label (suc k)) ≡ answer (some k) v o
unfolding answer
answer-fails k v o = refl

count-more : (lab : Option (List ℕ)) (before : List (Option (List ℕ))) → count_set before + label_count lab ≡ count_set (lab ∷ before)
unfolding count_set label_count
count-more none before = omega arith
count-more (some n) before = omega arith

judged-from : (p : List ℕ → Option ℕ) (before : List (Option (List ℕ))) (k : ℕ) (v : Verdict) (ls : List (Line Value)) → Placed p before k ls → judge p k (count_set before) v ls ≡ answer (lowest wrong_labels k before ls) v (lowest wrong_values k before ls)
unfolding judge lowest
judged-from p before k v [] h = answer-end v
judged-from p before k v (l ∷ ls) h =
    by_bool (wrong_labels before l)
    (λ f. let g : line_fails p k (count_set before) l ≡ true = ap (λ (b : Bool). b || misses l.body) (own p before k l ls l.label refl h) ∙ f in
    rw (f, g) (answer-fails k v _))
    (λ f. let g : line_fails p k (count_set before) l ≡ false = ap (λ (b : Bool). b || misses l.body) (own p before k l ls l.label refl h) ∙ f in
    rw (f, g, count-more l.label before)
    (judged-from p (l.label ∷ before) (suc k) (ruled v (exceeds l.body) k) ls (go_on p before k l ls h) ∙ answer-here (exceeds l.body) k v _ _))

-- what a verdict says of the cells
abbrev pub said : Verdict → List Cell → Assembled
said (Ok u) vs = cells vs
said (Err e) vs = refuses (number_of e) (place_of e)

answer-said : (x y : Option ℕ) (vs : List Cell) → said (answer x (Ok tt) y) vs ≡ otherwise 14 x (otherwise 15 y (cells vs))
unfolding answer otherwise
answer-said none none vs = refl
answer-said none (some j) vs = refl
answer-said (some k) y vs = refl

pub judged-is : (p : List ℕ → Option ℕ) (ls : List (Line Value)) → p ≡ place_in 0 (labels_of ls) → said (judge p 0 0 (Ok tt) ls) (map line_cell ls) ≡ judged ls
unfolding judged count_set
judged-is p ls e =
    ap (λ (v : Verdict). said v (map line_cell ls)) (judged-from p [] 0 (Ok tt) ls (start p ls e)) ∙ answer-said (lowest wrong_labels 0 [] ls) (lowest wrong_values 0 [] ls) (map line_cell ls)

-- ---- one line of the pass

module _ (p : List ℕ → Option ℕ) (k c : ℕ) (v : Verdict) (ls ms : List (Line Value)) (l : Line Value) (e : ls ≡ l ∷ ms) where
  pub pass-fails : line_fails p k c l ≡ true → Err (R.Label (k + 1)) ≡ judge p k c v ls
  unfolding judge
  pass-fails f = rw (e, f, add-one)

  pub pass-next : (c' : ℕ) (v' : Verdict) → line_fails p k c l ≡ false → c' ≡ c + label_count l.label → v' ≡ ruled v (exceeds l.body) k → judge p (k + 1) c' v' ms ≡ judge p k c v ls
  unfolding judge
  pass-next c' v' f g h = rw (e, f, g, h, add-one)

pub pass-end : (p : List ℕ → Option ℕ) (k c : ℕ) (v : Verdict) (ls : List (Line Value)) → ls ≡ [] → v ≡ judge p k c v ls
unfolding judge
pass-end p k c v ls e = rw e

pub count-told : (o : P.Option (Bor (List ℕ))) → bool_byte (is_some o) ≡ label_count (label_told o)
unfolding label_count
count-told (Some n) = refl
count-told None = refl

pub one-or-none : (b : Bool) → bool_byte b ≤ 1
one-or-none true = omega arith
one-or-none false = omega arith

-- ---- its leaves

module _ (p : List ℕ → Option ℕ) (k c : ℕ) (n : List ℕ) where
  pub fails-beyond : 256 ≤ c → true ≡ label_fails p k c (some n)
  unfolding label_fails
  fails-beyond h = rw (le-leb 256 c h)

  pub fails-again : (j : ℕ) (b : Bool) → c < 256 → some j ≡ p n → b ≡ not (eqb j k) → b ≡ label_fails p k c (some n)
  unfolding label_fails is_at
  fails-again j b h e f = rw (lt-leb 256 c h, ← e) f

  pub fails-nowhere : c < 256 → none ≡ p n → true ≡ label_fails p k c (some n)
  unfolding label_fails is_at
  fails-nowhere h e = rw (lt-leb 256 c h, ← e)

pub fails-none : (p : List ℕ → Option ℕ) (k c : ℕ) → false ≡ label_fails p k c none
unfolding label_fails
fails-none p k c = refl

pub checked-ruled : (b : Bool) (k : ℕ) → cond (not b) (Ok tt) (Err (R.Value (k + 1))) ≡ ruled (Ok tt) b k
unfolding ruled
checked-ruled true k = rw add-one refl
checked-ruled false k = refl

pub ruled-error : (e : Refusal) (b : Bool) (k : ℕ) → Err e ≡ ruled (Err e) b k
unfolding ruled
ruled-error e b k = refl
