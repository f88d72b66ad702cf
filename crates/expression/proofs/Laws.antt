-- What the code's steps make of a text. Assumes nothing.
use mathlib.Core.Path.{◌≡◌, refl, sym, ap, ◌∙◌}
use mathlib.Core.Bool.{Bool, true, false}
use mathlib.Core.List.{List, [], ◌∷◌}
use mathlib.Core.Option.{Option}
use Prim.Native.Nat.{ℕ, zero, suc, ◌+◌, ◌*◌, ◌-◌, ◌≤◌, ◌<◌}
use native.Mathlib.Omega.{arith}
use lib.IntN.{pos, neg_ℤ}
use lib.ListN.{length, get_or}
use lib.Dec.{eqb, leb}
use borrow.Author.Tests.{le-leb, lt-leb, lt-ltb, le-ltb, eqb-true, eq-eqb, ne_eqb}
use Rattle.std.specs.Prelude.{Some, None}
use Rattle.decimal.proofs.Laws.{value-minus}
use Rattle.definition.specs.Word.{is_word}
use Rattle.word.proofs.Laws.{ltb-elim}
use Rattle.expression.specs.declared.Value.{Value}
use Rattle.expression.specs.declared.Operator.{Operator}
use Rattle.expression.specs.declared.Operator.TheVariants.{Times, Plus, Minus}
use Rattle.expression.specs.declared.Level as C
use Rattle.expression.specs.declared.Level.TheVariants.{Sum, Product}
use Rattle.expression.specs.Reader.{Outcome, gives, refused, then, head, tail, front, past, is_digit, is_letter, skip, decimal, signed, is_star, is_sign, Level, chained, links, numbered, labelled, closed, atom_with, product_with, sum_with, within, read_sum, read_product, read_atom}
use Rattle.expression.specs.Values.{values, no_labels, number_value, label_value, place_value}
use Rattle.expression.specs.Code.{after, capped, cap_step, value_of, cap_decimal, sized_value, operator_of, operator_at, level_of, operand_of, join_of}
use Rattle.expression.proofs.Spans.{by_bool, every, every-head, every-tail, front-every, first-is}
use Rattle.expression.proofs.Chain.{Shrinks, never, rest_of, value_of as given_of, then_same, operand-length, chained-step, star-ends, sign-ends, read_atom-shrinks, read_product-shrinks}
use Rattle.expression.proofs.Sound.{digit-bounds}

-- ---- numbers

cap-step : (w d : ℕ) → d ≤ 9 → cap_step (capped w) d ≡ capped (w * 10 + d)
unfolding cap_step capped
cap-step w d h =
    ltb-elim 9223372036854775808 w
    (λ e lt. rw (e, lt-ltb 9223372036854775808 (w * 10 + d) (omega arith)))
    (λ e ge. rw e (ltb-elim 922337203685477580 w
    (λ e' lt. rw (e', lt-ltb 9223372036854775808 (w * 10 + d) (omega arith)))
    (λ e' le. rw e' (ltb-elim 9223372036854775808 (w * 10 + d)
    (λ e'' lt. rw e'' (omega arith))
    (λ e'' le'. rw e'')))))

cap-decimal : (s : List ℕ) (w : ℕ) → every is_digit s ≡ true → cap_decimal (capped w) s ≡ capped (decimal w s)
unfolding cap_decimal decimal
cap-decimal [] w h = refl
cap-decimal (b ∷ s) w h =
    let p = digit-bounds b (every-head is_digit b s h) in
    rw (cap-step w (b - 48) (omega arith)) (cap-decimal s (w * 10 + (b - 48)) (every-tail is_digit b s h))

word-minus : (v : ℕ) → v ≤ 9223372036854775808 → is_word (neg_ℤ (pos v)) ≡ true
unfolding is_word
word-minus zero h = refl
word-minus (suc k) h = lt-ltb k 9223372036854775808 (omega arith)

no-word-minus : (v : ℕ) → 9223372036854775808 < v → is_word (neg_ℤ (pos v)) ≡ false
unfolding is_word
no-word-minus zero h = absurd (omega arith)
no-word-minus (suc k) h = le-ltb k 9223372036854775808 (omega arith)

sized-is : (m : Bool) (n : ℕ) → sized_value m (capped n) ≡ number_value (signed m n)
unfolding sized_value capped number_value signed is_word value_of
sized-is false n =
    ltb-elim 9223372036854775808 n
    (λ e lt. rw (e, le-ltb n 9223372036854775808 (omega arith)))
    (λ e ge. rw e (ltb-elim n 9223372036854775808
    (λ e' lt. rw (e', le-leb n 9223372036854775807 (omega arith)))
    (λ e' le. rw (e', lt-leb n 9223372036854775807 (omega arith)))))
sized-is true n =
    ltb-elim 9223372036854775808 n
    (λ e lt. rw (e, no-word-minus n lt))
    (λ e ge. rw (e, le-leb n 9223372036854775808 ge, word-minus n ge, value-minus n ge))

pub small-value : (n : ℕ) → sized_value false n ≡ number_value (pos n)
unfolding sized_value number_value is_word value_of
small-value n =
    ltb-elim n 9223372036854775808
    (λ e lt. rw (e, le-leb n 9223372036854775807 (omega arith)))
    (λ e le. rw (e, lt-leb n 9223372036854775807 (omega arith)))

run_value : (m : Bool) (t : List ℕ) → sized_value m (cap_decimal 0 (front is_digit t)) ≡ number_value (signed m (decimal 0 (front is_digit t)))
unfolding capped
run_value m t = ap (sized_value m) (cap-decimal (front is_digit t) 0 (front-every is_digit t)) ∙ sized-is m (decimal 0 (front is_digit t))

pub number_is : (m : Bool) (t : List ℕ) → is_digit (head t) ≡ true → gives (sized_value m (cap_decimal 0 (front is_digit t))) (skip (past is_digit t)) ≡ numbered (values no_labels) m t
unfolding numbered
number_is m t d = rw (d, run_value m t)

pub number-none : (m : Bool) (t : List ℕ) → is_digit (head t) ≡ false → refused ≡ numbered (values no_labels) m t
unfolding numbered
number-none m t d = rw d

pub label_is : (p : List ℕ → Option ℕ) (t : List ℕ) → length (front is_letter t) ≤ 16 → gives (place_value (p (front is_letter t))) (skip (past is_letter t)) ≡ labelled (values p) t
unfolding labelled label_value
label_is p t h = rw (le-leb (length (front is_letter t)) 16 h)

pub label-none : (p : List ℕ → Option ℕ) (t : List ℕ) → 16 < length (front is_letter t) → refused ≡ labelled (values p) t
unfolding labelled
label-none p t h = rw (lt-leb (length (front is_letter t)) 16 h)

-- an atom by its first byte
module _ (p : List ℕ → Option ℕ) (t : List ℕ) where
  pub leaf-number : is_digit (head t) ≡ true → numbered (values no_labels) false t ≡ read_atom (values p) 0 t
  unfolding read_atom atom_with numbered
  leaf-number d = rw d

  pub leaf-label : is_digit (head t) ≡ false → is_letter (head t) ≡ true → labelled (values p) t ≡ read_atom (values p) 0 t
  unfolding read_atom atom_with
  leaf-label d l = rw (d, l)

  pub leaf-minus : is_digit (head t) ≡ false → is_letter (head t) ≡ false → head t ≡ 45 → numbered (values no_labels) true (tail t) ≡ read_atom (values p) 0 t
  unfolding read_atom atom_with numbered
  leaf-minus d l e = rw (d, l, ne_eqb (head t) 40 (λ z. absurd (omega arith)), eq-eqb (head t) 45 e)

  pub leaf-none : is_digit (head t) ≡ false → is_letter (head t) ≡ false → (head t ≡ 45 → ⊥) → refused ≡ read_atom (values p) 0 t
  unfolding read_atom atom_with within then
  leaf-none d l e = rw (d, l, ne_eqb (head t) 45 e) (by_bool (eqb (head t) 40) (λ z. rw z) (λ z. rw z))

  pub atom-leaf : (d : ℕ) → eqb (head t) 40 ≡ false → read_atom (values p) 0 t ≡ read_atom (values p) d t
  unfolding read_atom atom_with
  atom-leaf d e = rw e

  pub atom-opens : (d : ℕ) → 0 < d → eqb (head t) 40 ≡ true → then (read_sum (values p) (d - 1) (skip (tail t))) (closed (values no_labels)) ≡ read_atom (values p) d t
  unfolding read_atom atom_with within read_sum is_digit is_letter closed
  atom-opens zero h e = absurd (omega arith)
  atom-opens (suc k) h e =
      let z : suc k - 1 ≡ k = omega arith in
      rw (z, eqb-true (head t) 40 e)

-- ---- texts by their first byte

pub after-first : (b : ℕ) (t : List ℕ) → 1 ≤ length t → get_or t 0 0 ≡ b → Some (skip (tail t)) ≡ after b t
unfolding after tail
after-first b [] l e = absurd (omega arith)
after-first b (a ∷ t) l e = rw (eq-eqb a b e)

pub after-empty : (b : ℕ) (t : List ℕ) → length t < 1 → None ≡ after b t
unfolding after
after-empty b [] l = refl
after-empty b (a ∷ t) l = absurd (omega arith)

pub after_other : (b : ℕ) (t : List ℕ) → (get_or t 0 0 ≡ b → ⊥) → None ≡ after b t
unfolding after
after_other b [] e = refl
after_other b (a ∷ t) e = rw (ne_eqb a b e)

pub no-digit-below : (t : List ℕ) → get_or t 0 0 < 48 → is_digit (head t) ≡ false
unfolding is_digit
no-digit-below t h = rw (← first-is t, lt-leb 48 (get_or t 0 0) h)

pub no-digit-past : (t : List ℕ) → 58 ≤ get_or t 0 0 → is_digit (head t) ≡ false
unfolding is_digit
no-digit-past t h = rw (← first-is t, lt-leb (get_or t 0 0) 57 (omega arith)) (by_bool (leb 48 (get_or t 0 0)) (λ e. rw e) (λ e. rw e))

pub no-digit-in-empty : (t : List ℕ) → length t < 1 → is_digit (head t) ≡ false
unfolding is_digit head
no-digit-in-empty [] h = refl
no-digit-in-empty (b ∷ t) h = absurd (omega arith)

pub digit-first : (t : List ℕ) → 48 ≤ get_or t 0 0 → get_or t 0 0 < 58 → is_digit (head t) ≡ true
unfolding is_digit
digit-first t h l = rw (← first-is t, le-leb 48 (get_or t 0 0) h, le-leb (get_or t 0 0) 57 (omega arith))

pub operator-first : (l : C.Level) (s : List ℕ) (b : ℕ) (t : List ℕ) (o : Operator) → s ≡ b ∷ t → operator_of l b ≡ Some o → gives o (skip t) ≡ operator_at l s
unfolding operator_at
operator-first l s b t o e f = rw (e, f)

pub operator-none : (l : C.Level) (s : List ℕ) (b : ℕ) (t : List ℕ) → s ≡ b ∷ t → operator_of l b ≡ None → refused ≡ operator_at l s
unfolding operator_at
operator-none l s b t e f = rw (e, f)

pub operator-empty : (l : C.Level) (t : List ℕ) → length t ≡ 0 → refused ≡ operator_at l t
unfolding operator_at
operator-empty l [] h = refl
operator-empty l (b ∷ t) h = absurd (omega arith)

pub no-letter-below : (t : List ℕ) → get_or t 0 0 < 97 → is_letter (head t) ≡ false
unfolding is_letter
no-letter-below t h = rw (← first-is t, lt-leb 97 (get_or t 0 0) h)

pub no-letter-past : (t : List ℕ) → 123 ≤ get_or t 0 0 → is_letter (head t) ≡ false
unfolding is_letter
no-letter-past t h = rw (← first-is t, lt-leb (get_or t 0 0) 122 (omega arith)) (by_bool (leb 97 (get_or t 0 0)) (λ e. rw e) (λ e. rw e))

pub letter-first : (t : List ℕ) → 97 ≤ get_or t 0 0 → get_or t 0 0 < 123 → is_letter (head t) ≡ true
unfolding is_letter
letter-first t h l = rw (← first-is t, le-leb 97 (get_or t 0 0) h, le-leb (get_or t 0 0) 122 (omega arith))

pub leaf_other : (p : List ℕ → Option ℕ) (t : List ℕ) → is_digit (head t) ≡ false → is_letter (head t) ≡ false → (get_or t 0 0 ≡ 45 → ⊥) → refused ≡ read_atom (values p) 0 t
leaf_other p t d l e = leaf-none p t d l (λ z. e (first-is t ∙ z))

-- ---- brackets

pub opens : (b : ℕ) (t u : List ℕ) → Some u ≡ after b t → (eqb (head t) b ≡ true) × (u ≡ skip (tail t))
unfolding after head tail
opens b [] u e = absurd (none_some (sym e))
  where
    none_some : {u : List ℕ} → None ≡ Some u → ⊥
    none_some e = cc
opens b (a ∷ t) u e =
    by_bool (eqb a b) (λ h. let f : Some u ≡ Some (skip t) = rw h at e in (h, the_text f)) (λ h. absurd (none_some (rw h at e)))
  where
    the_text : {u v : List ℕ} → Some u ≡ Some v → u ≡ v
    the_text e = cc

    none_some : {u : List ℕ} → Some u ≡ None → ⊥
    none_some e = cc

pub shuts : (b : ℕ) (t : List ℕ) → eqb 0 b ≡ false → None ≡ after b t → eqb (head t) b ≡ false
unfolding after head
shuts b [] z e = z
shuts b (a ∷ t) z e =
    by_bool (eqb a b) (λ h. absurd (none_some (rw h at e))) (λ h. h)
  where
    none_some : {u : List ℕ} → None ≡ Some u → ⊥
    none_some e = cc

pub closed_is : (x : Value) (r u : List ℕ) → Some u ≡ after 41 r → gives x u ≡ closed (values no_labels) x r
unfolding closed
closed_is x r u e = let o = opens 41 r u e in rw (o.0, o.1)

pub closed-none : (x : Value) (r : List ℕ) → None ≡ after 41 r → refused ≡ closed (values no_labels) x r
unfolding closed
closed-none x r e = rw (shuts 41 r refl e)

module _ (p : List ℕ → Option ℕ) (d : ℕ) (t : List ℕ) where
  pub sum-links : links (level_of (values no_labels) Sum) (operand_of (values p) Sum d) t ≡ read_sum (values p) d t
  unfolding read_sum sum_with read_product
  sum-links = refl

  pub product-links : links (level_of (values no_labels) Product) (operand_of (values p) Product d) t ≡ read_product (values p) d t
  unfolding read_product product_with read_atom
  product-links = refl

module _ (p : List ℕ → Option ℕ) (d : ℕ) (t : List ℕ) where
  pub atom-brackets : (u : List ℕ) (o : Outcome Value) → 0 < d → Some u ≡ after 40 t → o ≡ links (level_of (values no_labels) Sum) (operand_of (values p) Sum (d - 1)) u → then o (closed (values no_labels)) ≡ read_atom (values p) d t
  atom-brackets u o z e f =
      let k = opens 40 t u e in
      ap (λ (q : Outcome Value). then q (closed (values no_labels))) (f ∙ sum-links p (d - 1) u ∙ ap (read_sum (values p) (d - 1)) k.1) ∙ atom-opens p t d z k.0

  pub atom-bare : None ≡ after 40 t → read_atom (values p) 0 t ≡ read_atom (values p) d t
  atom-bare e = atom-leaf p t d (shuts 40 t refl e)

-- ---- the loop

operates : (l : C.Level) (t : List ℕ) (o : Operator) (u : List ℕ) → operator_at l t ≡ gives o u → ((level_of (values no_labels) l).joins (head t) ≡ true) × (u ≡ skip (tail t)) × ((x y : Value) → (level_of (values no_labels) l).join (head t) x y ≡ join_of o x y)
unfolding operator_at operator_of head tail is_star is_sign
operates l [] o u e = never e
operates Product (b ∷ t) o u e =
    by_bool (eqb b 42)
    (λ h. let f : gives Times (skip t) ≡ gives o u = rw h at e in (h, sym (rest_of f), λ x y. ap (λ (q : Operator). join_of q x y) (given_of f)))
    (λ h. never (rw h at e))
operates Sum (b ∷ t) o u e =
    by_bool (eqb b 43)
    (λ h. let f : gives Plus (skip t) ≡ gives o u = rw h at e in (rw h refl, sym (rest_of f), λ x y. rw h (ap (λ (q : Operator). join_of q x y) (given_of f))))
    (λ h. by_bool (eqb b 45)
    (λ i. let f : gives Minus (skip t) ≡ gives o u = rw (h, i) at e in (rw (h, i) refl, sym (rest_of f), λ x y. rw h (ap (λ (q : Operator). join_of q x y) (given_of f))))
    (λ i. never (rw (h, i) at e)))

stops : (l : C.Level) (t : List ℕ) → refused ≡ operator_at l t → (level_of (values no_labels) l).joins (head t) ≡ false
unfolding operator_at operator_of head is_star is_sign
stops Product [] e = refl
stops Sum [] e = refl
stops Product (b ∷ t) e = by_bool (eqb b 42) (λ h. never (rw h at e)) (λ h. h)
stops Sum (b ∷ t) e =
    by_bool (eqb b 43) (λ h. never (rw h at e)) (λ h.
    by_bool (eqb b 45) (λ i. never (rw (h, i) at e)) (λ i. rw (h, i) refl))

ends : (l : C.Level) → (level_of (values no_labels) l).joins 0 ≡ false
ends Sum = sign-ends
ends Product = star-ends

shrinks : (p : List ℕ → Option ℕ) (l : C.Level) (d : ℕ) → Shrinks (operand_of (values p) l d)
shrinks p Sum d = read_product-shrinks (values p) d
shrinks p Product d = read_atom-shrinks (values p) d

module _ (p : List ℕ → Option ℕ) (l : C.Level) (d : ℕ) where
  abbrev pub L : Level Value
  L = level_of (values no_labels) l

  abbrev pub f : List ℕ → Outcome Value
  f = operand_of (values p) l d

  pub links-first : (t : List ℕ) (o : Outcome Value) → o ≡ f t → then o (λ x r. chained L f x r) ≡ links L f t
  unfolding links
  links-first t o e = rw e

  pub links-more : (x : Value) (t u : List ℕ) (o : Operator) (q : Outcome Value) → gives o u ≡ operator_at l t → q ≡ f u → then q (λ y r. chained L f (join_of o x y) r) ≡ chained L f x t
  links-more x t u o q e g =
      let k = operates l t o u (sym e) in
      ap (λ (z : Outcome Value). then z (λ y r. chained L f (join_of o x y) r)) (g ∙ ap f k.1)
      ∙ (then_same (f (skip (tail t))) (λ y r. chained L f (join_of o x y) r) (λ y r. chained L f (L.join (head t) x y) r) (λ y r h. ap (λ (z : Value). chained L f z r) (sym (k.2 x y)))
      ∙ sym (chained-step L f (shrinks p l d) (ends l) x t ∙ rw k.0 refl))

  pub links-stop : (x : Value) (t : List ℕ) → refused ≡ operator_at l t → gives x t ≡ chained L f x t
  links-stop x t e = sym (chained-step L f (shrinks p l d) (ends l) x t ∙ rw (stops l t e) refl)

  pub links-less : (t u : List ℕ) (o : Operator) (y : Value) (r : List ℕ) → gives o u ≡ operator_at l t → gives y r ≡ f u → length r < length t
  links-less t u o y r e g =
      let k = operates l t o u (sym e) in
      operand-length L f (shrinks p l d) (ends l) t y r k.0 (ap f (sym k.1) ∙ sym g)
