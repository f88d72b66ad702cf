-- What each function's tests and callees make of the reader's answer. Assumes nothing.
use mathlib.Core.Path.{◌≡◌, refl, sym, ◌∙◌}
use mathlib.Core.Bool.{true, false, cond}
use mathlib.Core.List.{List, [], ◌∷◌}
use mathlib.Core.Option.{Option, some, none}
use Prim.Native.Nat.{ℕ, ◌≤◌, ◌<◌}
use native.Mathlib.Omega.{arith}
use lib.ListN.{length, get_or}
use lib.Dec.{ltb, eqb}
use borrow.Author.Tests.{le-leb, lt-leb, eq-eqb, ne_eqb, eqb-true, ltb-true}
use Rattle.std.specs.Prelude.{Some, None}
use Rattle.definition.specs.Encoding.{legal}
use Rattle.expression.specs.declared.Value.{Value}
use Rattle.expression.specs.Reader.{same, Outcome, gives, refused, then, head, tail, front, past, skip, is_space, is_letter, numbered, read_sum}
use Rattle.expression.specs.Values.{values, no_labels}
use Rattle.expression.specs.Table.{is_labelled, label_at}
use Rattle.expression.specs.Code.{after}
use Rattle.expression.proofs.Spans.{by_bool, clash, first-is, empty-first, past_head, past-none}
use Rattle.expression.proofs.Chain.{never, rest_of, value_of}
use Rattle.expression.proofs.Laws.{opens, shuts}
use Rattle.assembly.specs.Grammar as G
use Rattle.assembly.specs.Grammar.{mode, mnemonics, registers, dot_word}
use Rattle.assembly.specs.Reader.{number_of, register, expect, indexed, operand, coded, operands, word_after, content, ended, row}
use Rattle.line.specs.Names.{named_at, word_letters}
use Rattle.line.specs.Code.{index_of, inside_square}

pub then-none : {X Y : Type 0} (o : Outcome X) (k : X → List ℕ → Outcome Y) → refused ≡ o → refused ≡ then o k
unfolding then
then-none o k e = rw (← e)

pub then-some : {X Y : Type 0} (o : Outcome X) (k : X → List ℕ → Outcome Y) (x : X) (t : List ℕ) → gives x t ≡ o → k x t ≡ then o k
unfolding then
then-some o k x t e = rw (← e)

then-then : {X Y Z : Type 0} (o : Outcome X) (k : X → List ℕ → Outcome Y) (l : Y → List ℕ → Outcome Z) → then (then o k) l ≡ then o (λ x u. then (k x u) l)
unfolding then
then-then (gives x t) k l = refl
then-then refused k l = refl

then_same : {X Y : Type 0} (o : Outcome X) (k l : X → List ℕ → Outcome Y) → ((x : X) (r : List ℕ) → k x r ≡ l x r) → then o k ≡ then o l
unfolding then
then_same (gives x t) k l h = h x t
then_same refused k l h = refl

-- ---- the first byte, by what a pattern tests

pub begins : (b : ℕ) (t : List ℕ) → get_or t 0 0 ≡ b → eqb (head t) b ≡ true
begins b t e = eq-eqb (head t) b (sym (first-is t) ∙ e)

pub begins_other : (b : ℕ) (t : List ℕ) → (get_or t 0 0 ≡ b → ⊥) → eqb (head t) b ≡ false
begins_other b t e = ne_eqb (head t) b (λ z. e (first-is t ∙ z))

pub begins-not : (b : ℕ) (t : List ℕ) → 0 < b → length t < 1 → eqb (head t) b ≡ false
begins-not b t z l = begins_other b t (λ e. let w = empty-first t l in absurd (omega arith))

-- one byte is no other
apart : (a b : ℕ) (t : List ℕ) → eqb (head t) a ≡ true → eqb a b ≡ false → eqb (head t) b ≡ false
apart a b t e f = rw (eqb-true (head t) a e) f

-- ---- registers and operands

pub register-step : (t : List ℕ) → then (named_at registers t) (λ r u. gives r (skip u)) ≡ register t
unfolding register named_at then
register-step t = by_bool (ltb (number_of registers (front is_letter t)) 5) (λ e. rw e) (λ e. rw e)

module _ (r : ℕ) (t : List ℕ) where
  pub index-plus : eqb (head t) 43 ≡ true → then (numbered (values no_labels) false (tail t)) (λ i u. gives (G.Idx r i) u) ≡ index_of r t
  unfolding index_of
  index-plus e = rw e

  pub index-minus : eqb (head t) 45 ≡ true → then (numbered (values no_labels) true (tail t)) (λ i u. gives (G.Idx r i) u) ≡ index_of r t
  unfolding index_of
  index-minus e = rw (apart 45 43 t e refl, e)

  pub index-none : eqb (head t) 43 ≡ false → eqb (head t) 45 ≡ false → gives (G.Ind r) t ≡ index_of r t
  unfolding index_of
  index-none e f = rw (e, f)

pub expect-some : {X : Type 0} (b : ℕ) (x : X) (t u : List ℕ) → Some u ≡ after b t → gives x u ≡ expect b x t
unfolding expect
expect-some b x t u e = let o = opens b t u e in rw (o.0, o.1)

pub expect-none : {X : Type 0} (b : ℕ) (x : X) (t : List ℕ) → eqb 0 b ≡ false → None ≡ after b t → refused ≡ expect b x t
unfolding expect
expect-none b x t z e = rw (shuts b t z e)

module _ (p : List ℕ → Option ℕ) where
  indexed_of : (r : ℕ) (t : List ℕ) → then (index_of r t) (expect 93) ≡ indexed (values p) 32 r t
  unfolding index_of indexed expect then numbered
  indexed_of r t =
      by_bool (eqb (head t) 43)
      (λ e. rw e (then-then (numbered (values no_labels) false (tail t)) (λ i u. gives (G.Idx r i) u) (expect 93)))
      (λ e. rw e (by_bool (eqb (head t) 45)
      (λ f. rw f (then-then (numbered (values no_labels) true (tail t)) (λ i u. gives (G.Idx r i) u) (expect 93)))
      (λ f. rw f)))

  module _ (t : List ℕ) where
    pub square-register : eqb (head t) 37 ≡ true → then (register (tail t)) index_of ≡ inside_square p t
    unfolding inside_square
    square-register e = rw e

    pub square-value : eqb (head t) 37 ≡ false → then (read_sum (values p) 32 t) (λ x u. gives (G.Dir x) u) ≡ inside_square p t
    unfolding inside_square
    square-value e = rw e

    square-closed : then (inside_square p t) (expect 93) ≡ cond (eqb (head t) 37) (then (register (tail t)) (indexed (values p) 32)) (then (read_sum (values p) 32 t) (λ x u. expect 93 (G.Dir x) u))
    unfolding inside_square then
    square-closed =
        by_bool (eqb (head t) 37)
        (λ e. rw e (then-then (register (tail t)) index_of (expect 93) ∙ then_same (register (tail t)) (λ x u. then (index_of x u) (expect 93)) (indexed (values p) 32) indexed_of))
        (λ e. rw e (then-then (read_sum (values p) 32 t) (λ x u. gives (G.Dir x) u) (expect 93)))

    pub operand-register : eqb (head t) 37 ≡ true → then (register (tail t)) (λ r u. gives (G.Reg r) u) ≡ operand (values p) 32 t
    unfolding operand
    operand-register e = rw e

    pub operand-value : eqb (head t) 37 ≡ false → None ≡ after 91 t → then (read_sum (values p) 32 t) (λ x u. gives (G.Imm x) u) ≡ operand (values p) 32 t
    unfolding operand
    operand-value e f = rw (e, shuts 91 t refl f)

  pub operand-square : (t u : List ℕ) → Some u ≡ after 91 t → then (inside_square p u) (expect 93) ≡ operand (values p) 32 t
  unfolding operand
  operand-square t u f =
      let o = opens 91 t u f in
      rw (apart 91 37 t o.0 refl, o.0) (square-closed u ∙ rw o.1 refl)

-- ---- what stands in a cell

pub coded-some : (o : ℕ) (x y : G.Arg Value) (t : List ℕ) → legal o (mode x) (mode y) ≡ true → gives (G.Code o x y) t ≡ coded (values no_labels) 32 o x y t
unfolding coded
coded-some o x y t e = rw e

pub coded-none : (o : ℕ) (x y : G.Arg Value) (t : List ℕ) → legal o (mode x) (mode y) ≡ false → refused ≡ coded (values no_labels) 32 o x y t
unfolding coded
coded-none o x y t e = rw e

pub coded-any : (p : List ℕ → Option ℕ) (o : ℕ) (x y : G.Arg Value) (t : List ℕ) → coded (values no_labels) 32 o x y t ≡ coded (values p) 32 o x y t
unfolding coded
coded-any p o x y t = refl

-- one space or more
spaced : (t u : List ℕ) → Some u ≡ after 32 t → (is_space (head t) ≡ true) × (u ≡ skip t)
unfolding after is_space head tail past
spaced [] u e = let o = opens 32 [] u e in clash o.0 refl
spaced (b ∷ t) u e = let o = opens 32 (b ∷ t) u e in (o.0, rw o.0 o.1)

bare : (t : List ℕ) → None ≡ after 32 t → is_space (head t) ≡ false
unfolding is_space
bare t e = shuts 32 t refl e

module _ (p : List ℕ → Option ℕ) (o : ℕ) where
  -- after the first operand
  abbrev pub second : G.Arg Value → List ℕ → Outcome (G.Body Value)
  second x u = cond (eqb (head u) 44) (then (operand (values p) 32 (skip (tail u))) (λ y v. coded (values p) 32 o x y v)) (coded (values p) 32 o x G.None u)

  pub second-comma : (x : G.Arg Value) (u v : List ℕ) → Some v ≡ after 44 u → then (operand (values p) 32 v) (λ y w. coded (values p) 32 o x y w) ≡ second x u
  second-comma x u v e = let k = opens 44 u v e in rw (k.0, k.1)

  pub second-none : (x : G.Arg Value) (u : List ℕ) → None ≡ after 44 u → coded (values p) 32 o x G.None u ≡ second x u
  second-none x u e = rw (shuts 44 u refl e)

  module _ (t : List ℕ) where
    pub operands-absent : legal o 0 0 ≡ true → gives (G.Code o G.None G.None) (skip t) ≡ operands (values p) 32 o t
    unfolding operands
    operands-absent e = rw e

    pub operands-unspaced : legal o 0 0 ≡ false → None ≡ after 32 t → refused ≡ operands (values p) 32 o t
    unfolding operands
    operands-unspaced e f = rw (e, bare t f)

    pub operands-some : (u : List ℕ) → legal o 0 0 ≡ false → Some u ≡ after 32 t → then (operand (values p) 32 u) second ≡ operands (values p) 32 o t
    unfolding operands
    operands-some u e f = let k = spaced t u f in rw (e, k.0, k.1)

module _ (p : List ℕ → Option ℕ) (t : List ℕ) where
  pub word-bare : None ≡ after 32 t → refused ≡ word_after (values p) 32 t
  unfolding word_after
  word-bare e = rw (bare t e)

  pub word-some : (u : List ℕ) → Some u ≡ after 32 t → then (read_sum (values p) 32 u) (λ x v. gives (G.Word x) v) ≡ word_after (values p) 32 t
  unfolding word_after
  word-some u e = let k = spaced t u e in rw (k.0, k.1)

  pub content-word : eqb (head t) 46 ≡ true → same word_letters (front is_letter (tail t)) ≡ true → word_after (values p) 32 (past is_letter (tail t)) ≡ content (values p) 32 t
  unfolding content same
  content-word e f = rw (e, f)

  pub content-dot : eqb (head t) 46 ≡ true → same word_letters (front is_letter (tail t)) ≡ false → refused ≡ content (values p) 32 t
  unfolding content same
  content-dot e f = rw (e, f)

  pub content-op : eqb (head t) 46 ≡ false → then (named_at mnemonics t) (operands (values p) 32) ≡ content (values p) 32 t
  unfolding content named_at then
  content-op e = rw e (by_bool (ltb (number_of mnemonics (front is_letter t)) 33) (λ f. rw f) (λ f. rw f))

pub below-33 : (t : List ℕ) (o : ℕ) (u : List ℕ) → gives o u ≡ named_at mnemonics t → o < 33
unfolding named_at
below-33 t o u e =
    by_bool (ltb (number_of mnemonics (front is_letter t)) 33)
    (λ f. let g : gives o u ≡ gives (number_of mnemonics (front is_letter t)) (past is_letter t) = rw f at e in rw (value_of g) (ltb-true _ 33 f))
    (λ f. never (sym (rw f at e)))

-- ---- lines

-- the line's end
abbrev pub ending : Option (List ℕ) → G.Body Value → List ℕ → Outcome (G.Line Value)
ending n b u = cond (eqb (head u) 10) (gives (G.line n b) (tail u)) refused

pub ending-is : (n : Option (List ℕ)) (b : G.Body Value) (u : List ℕ) → eqb (head u) 10 ≡ true → gives (G.line n b) (tail u) ≡ ending n b u
ending-is n b u e = rw e

pub ending-not : (n : Option (List ℕ)) (b : G.Body Value) (u : List ℕ) → eqb (head u) 10 ≡ false → refused ≡ ending n b u
ending-not n b u e = rw e

pub ended-step : (p : List ℕ → Option ℕ) (n : Option (List ℕ)) (o : Outcome (G.Body Value)) → then o (ending n) ≡ ended (values p) 32 n o
unfolding ended
ended-step p n o = refl

-- the end of what was read after the spaces of a text
pub ended-any : (p : List ℕ → Option ℕ) (n : Option (List ℕ)) (o : Outcome (G.Body Value)) (u t : List ℕ) → o ≡ content (values p) 32 u → u ≡ skip t → ended (values no_labels) 32 n o ≡ ended (values p) 32 n (content (values p) 32 (skip t))
unfolding ended
ended-any p n o u t e f = rw (e, f) refl

space-ends : is_space 0 ≡ false
unfolding is_space
space-ends = refl

-- the label of a text, of what follows its spaces
pub label-after : (t u : List ℕ) (o : Outcome (List ℕ)) → u ≡ skip t → o ≡ label_at u → o ≡ label_at t
unfolding label_at is_labelled
label-after t u o a e = e ∙ rw (a, past-none is_space (skip t) (past_head is_space t space-ends))

module _ (p : List ℕ → Option ℕ) (t : List ℕ) where
  labelled : (n u : List ℕ) → gives n u ≡ label_at t → (is_labelled t ≡ true) × (n ≡ front is_letter (skip t)) × (u ≡ tail (past is_letter (skip t)))
  unfolding label_at
  labelled n u e =
      by_bool (is_labelled t)
      (λ h. let f : gives n u ≡ gives (front is_letter (skip t)) (tail (past is_letter (skip t))) = rw h at e in (h, value_of f, rest_of f))
      (λ h. never (sym (rw h at e)))

  pub row-long : (n u : List ℕ) → gives n u ≡ label_at t → 16 < length n → refused ≡ row (values p) 32 t
  unfolding row
  row-long n u e l = let k = labelled n u e in rw (k.0, lt-leb (length (front is_letter (skip t))) 16 (rw k.1 at l))

  pub row-label : (n u : List ℕ) → gives n u ≡ label_at t → length n ≤ 16 → ended (values p) 32 (some n) (content (values p) 32 (skip u)) ≡ row (values p) 32 t
  unfolding row
  row-label n u e l = let k = labelled n u e in rw (k.0, le-leb (length (front is_letter (skip t))) 16 (rw k.1 at l), k.1, k.2)

  pub row-plain : refused ≡ label_at t → ended (values p) 32 none (content (values p) 32 (skip t)) ≡ row (values p) 32 t
  unfolding row label_at
  row-plain e = by_bool (is_labelled t) (λ h. never (rw h at e)) (λ h. rw h)
