-- How the table of labels is searched. Assumes nothing.
use mathlib.Core.Path.{◌≡◌, refl, sym, ap, subst}
use mathlib.Core.Bool.{Bool}
use mathlib.Core.List.{List, [], ◌∷◌}
use mathlib.Core.Option.{Option, some, none}
use Prim.Native.Nat.{ℕ, zero, suc, ◌+◌, ◌≤◌, ◌<◌}
use native.Mathlib.Omega.{arith}
use lib.ListN.{length, take, get_or}
use lib.Pointwise.{pointwise}
use lib.Dec.{eqb}
use Rattle.std.specs.Prelude.{Some, None, IfSome, IsSomeAnd, MatchOption, IsTrue}
use denote.Param.Members.{Mut}
use Rattle.std.specs.Fn.{Called}
use Rattle.std.specs.Iterator.Runs.{Run, ItemsMapTo, CallKeepsClosure, AllItemsGive, IsFirstToGive}
use Rattle.std.specs.Option.{option_map}
use Rattle.std.specs.Borrow.{Bor}
use Rattle.std.specs.Bool.{then_some}
use Rattle.std.specs.Prelude as O
use Rattle.expression.specs.declared.labels.Entry.{Entry}
use Rattle.expression.specs.Code.{place_found}
use Rattle.expression.specs.Reader.{same}
use Rattle.expression.specs.Labels.{line_of, or_else, among}
use Rattle.expression.proofs.Spans.{by_bool}
use Rattle.expression.proofs.Names.{same_eq}

among-none : (es : List Entry) (n : List ℕ) → ((k : ℕ) (d : Entry) → k < length es → line_of (get_or es k d) n ≡ none) → none ≡ among es n
unfolding among or_else
among-none [] n h = refl
among-none (e ∷ es) n h = rw (h 0 e (omega arith)) (among-none es n (λ k d l. h (suc k) d (omega arith)))

among-first : (es : List Entry) (n : List ℕ) (i l : ℕ) → i < length es → ((k : ℕ) (d : Entry) → k < i → line_of (get_or es k d) n ≡ none) → ((d : Entry) → line_of (get_or es i d) n ≡ some l) → some l ≡ among es n
unfolding among or_else
among-first [] n i l b m h = absurd (omega arith)
among-first (e ∷ es) n zero l b m h = rw (h e)
among-first (e ∷ es) n (suc i) l b m h = rw (m 0 e (omega arith)) (among-first es n i l (omega arith) (λ k d c. m (suc k) d (omega arith)) h)

the : {X : Type 0} {a b : X} → Some a ≡ Some b → a ≡ b
the e = cc

no : {X : Type 0} {a : X} → None ≡ Some a → ⊥
no e = cc

-- what a run of references says of the elements
module _ {X : Type 0} (C : Bor X → Type 0) (Q : X → Type 0) (h : (x : Bor X) → C x → Q x.now) where
  at-some : (o : O.Option (Bor X)) (y : X) → option_map (λ x. x.now) o ≡ Some y → IsSomeAnd o C → Q y
  at-some (Some x) y e q = subst Q (the e) (h x q)
  at-some None y e q = absurd (no e)

  at-if : (o : O.Option (Bor X)) (y : X) → option_map (λ x. x.now) o ≡ Some y → IfSome o C → Q y
  at-if (Some x) y e q = subst Q (the e) (h x q)
  at-if None y e q = absurd (no e)

-- the answer of a `find_map`
module _ {S F : Type 0} {steps : S → O.Option (Bor Entry) → S → Type 0} (p : Run steps) (es : List Entry) (n : List ℕ) (m : ItemsMapTo p (λ y. y.now) es)
    (g : Mut F (Bor Entry × Unit {0}) (O.Option ℕ)) (f : F) (keeps : CallKeepsClosure g f) (told : (x : Bor Entry) (b : O.Option ℕ) (q : F) → Called g f (x, tt) b q → place_found b ≡ line_of x.now n) where
  missed : (x : Bor Entry) → Called g f (x, tt) None f → line_of x.now n ≡ none
  missed x h = sym (told x None f h)

  pub among-by : (r : O.Option ℕ) → MatchOption r (IsTrue p.whole × AllItemsGive p g f None) (λ y. (i : ℕ) × (i < p.len) × (p.len ≡ i + 1) × IsFirstToGive p g f (Some y) None i) → place_found r ≡ among es n
  among-by None q = among-none es n (λ k d l. at-if (λ x. Called g f (x, tt) None f) (λ e. line_of e n ≡ none) missed (p.at k) (get_or es k d) (m.2 k d (omega (arith, l, m.1 q.0))) (q.1 keeps k))
  among-by (Some y) q =
      let i = q.0 in
      let a = q.3 keeps in
      among-first es n i y (omega (arith, q.1, m.0))
      (λ k d l. at-some (λ x. Called g f (x, tt) None f) (λ e. line_of e n ≡ none) missed (p.at k) (get_or es k d) (m.2 k d (omega (arith, l, q.1))) (a.1 k l))
      (λ d. at-some (λ x. Called g f (x, tt) (Some y) f) (λ e. line_of e n ≡ some y) (λ x h. sym (told x (Some y) f h)) (p.at i) (get_or es i d) (m.2 i d q.1) a.0)

pub named_line : (e : Entry) (n : List ℕ) (b : Bool) → b ≡ pointwise eqb e.name.now n → place_found (then_some b e.line) ≡ line_of e n
named_line e n b h = rw (h, same_eq e.name.now n) (by_bool (same e.name.now n) (λ t. rw t) (λ f. rw f))

module _ (o : O.Option ℕ) (a b : Option ℕ) (e : place_found o ≡ a) where
  pub found-own : (k : ℕ) → o ≡ Some k → some k ≡ or_else a b
  unfolding or_else
  found-own k h = rw (← e, h)

  pub found-else : (r : O.Option ℕ) → o ≡ None → place_found r ≡ b → place_found r ≡ or_else a b
  unfolding or_else
  found-else r h f = rw (← e, h, f)

pub held-length : {X : Type 0} (es : List X) (k : ℕ) → k ≤ length es → length (take k es) ≡ k
held-length es zero h = refl
held-length [] (suc k) h = absurd (omega arith)
held-length (e ∷ es) (suc k) h = ap suc (held-length es k (omega arith))
