-- Reading values is reading the tree and then taking its value. Assumes nothing.
use mathlib.Core.Path.{◌≡◌, refl, ap, ◌∙◌}
use mathlib.Core.Bool.{Bool, true, false, cond}
use mathlib.Core.Option.{Option}
use mathlib.Core.List.{List}
use Prim.Native.Nat.{ℕ, zero, suc}
use lib.ListN.{length}
use lib.Dec.{leb, eqb}
use Rattle.expression.specs.declared.Value.{Value}
use Rattle.expression.specs.Grammar.{Expr, Plus, Minus}
use Rattle.expression.specs.Reader.{Outcome, gives, refused, then, head, tail, front, is_digit, is_letter, skip, trees, Level, product_level, sum_level, chain, chained, links, numbered, labelled, closed, atom_with, product_with, sum_with, within, read_sum}
use Rattle.expression.specs.Values.{values, eval, evaluated}
use Rattle.expression.proofs.Spans.{by_bool}

module _ (ls : List ℕ → Option ℕ) where
  abbrev pub Fused : (List ℕ → Outcome Expr) → (List ℕ → Outcome Value) → Type 0
  Fused f g = (t : List ℕ) → g t ≡ evaluated ls (f t)

  then-fused : (o : Outcome Expr) (p : Outcome Value) (k : Expr → List ℕ → Outcome Expr) (l : Value → List ℕ → Outcome Value) → p ≡ evaluated ls o → ((x : Expr) (r : List ℕ) → l (eval ls x) r ≡ evaluated ls (k x r)) → then p l ≡ evaluated ls (then o k)
  unfolding then evaluated
  then-fused (gives x t) p k l e h = rw e (h x t)
  then-fused refused p k l e h = rw e

  module _ (L : Level Expr) (M : Level Value) (same : (b : ℕ) → M.joins b ≡ L.joins b) (hom : (b : ℕ) (x y : Expr) → M.join b (eval ls x) (eval ls y) ≡ eval ls (L.join b x y)) (f : List ℕ → Outcome Expr) (g : List ℕ → Outcome Value) (h : Fused f g) where
    chain-fused : (k : ℕ) (x : Expr) (t : List ℕ) → chain k M g (eval ls x) t ≡ evaluated ls (chain k L f x t)
    unfolding chain evaluated
    chain-fused zero x t = refl
    chain-fused (suc k) x t =
        by_bool (L.joins (head t))
        (λ j. rw (same (head t), j)
        (then-fused (f (skip (tail t))) (g (skip (tail t))) (λ y r. chain k L f (L.join (head t) x y) r) (λ y r. chain k M g (M.join (head t) (eval ls x) y) r) (h (skip (tail t))) (λ y r. ap (λ (z : Value). chain k M g z r) (hom (head t) x y) ∙ chain-fused k (L.join (head t) x y) r)))
        (λ j. rw (same (head t), j))

    links-fused : Fused (links L f) (links M g)
    unfolding links chained
    links-fused t = then-fused (f t) (g t) (λ x r. chain (length r) L f x r) (λ x r. chain (length r) M g x r) (h t) (λ x r. chain-fused (length r) x r)

  pub numbered-fused : (m : Bool) → Fused (numbered trees m) (numbered (values ls) m)
  unfolding numbered evaluated eval
  numbered-fused m t = by_bool (is_digit (head t)) (λ e. rw e) (λ e. rw e)

  labelled-fused : Fused (labelled trees) (labelled (values ls))
  unfolding labelled evaluated eval
  labelled-fused t = by_bool (leb (length (front is_letter t)) 16) (λ e. rw e) (λ e. rw e)

  closed-fused : (x : Expr) (r : List ℕ) → closed (values ls) (eval ls x) r ≡ evaluated ls (closed trees x r)
  unfolding closed evaluated
  closed-fused x r = by_bool (eqb (head r) 41) (λ e. rw e) (λ e. rw e)

  atom-fused : (f : List ℕ → Outcome Expr) (g : List ℕ → Outcome Value) → Fused f g → Fused (atom_with trees f) (atom_with (values ls) g)
  unfolding atom_with evaluated
  atom-fused f g h t =
      by_bool (is_digit (head t)) (λ e. rw e (numbered-fused false t)) (λ e.
      by_bool (is_letter (head t)) (λ i. rw (e, i) (labelled-fused t)) (λ i.
      by_bool (eqb (head t) 40) (λ o. rw (e, i, o) (then-fused (f (skip (tail t))) (g (skip (tail t))) (closed trees) (closed (values ls)) (h (skip (tail t))) closed-fused)) (λ o.
      by_bool (eqb (head t) 45) (λ m. rw (e, i, o, m) (numbered-fused true (tail t))) (λ m. rw (e, i, o, m)))))

  times-hom : (b : ℕ) (x y : Expr) → (product_level (values ls)).join b (eval ls x) (eval ls y) ≡ eval ls ((product_level trees).join b x y)
  unfolding eval
  times-hom b x y = refl

  eval-cond : (b : Bool) (x y : Expr) → cond b (eval ls x) (eval ls y) ≡ eval ls (cond b x y)
  eval-cond true x y = refl
  eval-cond false x y = refl

  sign-hom : (b : ℕ) (x y : Expr) → (sum_level (values ls)).join b (eval ls x) (eval ls y) ≡ eval ls ((sum_level trees).join b x y)
  unfolding eval
  sign-hom b x y = eval-cond (eqb b 43) (Plus x y) (Minus x y)

  product-fused : (f : List ℕ → Outcome Expr) (g : List ℕ → Outcome Value) → Fused f g → Fused (product_with trees f) (product_with (values ls) g)
  unfolding product_with
  product-fused f g h t = links-fused (product_level trees) (product_level (values ls)) (λ b. refl) times-hom (atom_with trees f) (atom_with (values ls) g) (atom-fused f g h) t

  sum-fused : (f : List ℕ → Outcome Expr) (g : List ℕ → Outcome Value) → Fused f g → Fused (sum_with trees f) (sum_with (values ls) g)
  unfolding sum_with
  sum-fused f g h t = links-fused (sum_level trees) (sum_level (values ls)) (λ b. refl) sign-hom (product_with trees f) (product_with (values ls) g) (product-fused f g h) t

  within-fused : (d : ℕ) → Fused (within trees d) (within (values ls) d)
  unfolding within evaluated
  within-fused zero t = refl
  within-fused (suc d) t = sum-fused (within trees d) (within (values ls) d) (within-fused d) t

  pub values-of-trees : (d : ℕ) (t : List ℕ) → read_sum (values ls) d t ≡ evaluated ls (read_sum trees d t)
  unfolding read_sum
  values-of-trees d t = sum-fused (within trees d) (within (values ls) d) (within-fused d) t
