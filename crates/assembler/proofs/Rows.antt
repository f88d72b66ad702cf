-- How the reader goes from line to line. Assumes nothing.
use mathlib.Core.Path.{◌≡◌, refl, sym, ap, ◌∙◌}
use mathlib.Core.Bool.{true}
use mathlib.Core.List.{List, [], ◌∷◌, ◌++◌}
use mathlib.Core.Option.{Option}
use Prim.Native.Nat.{ℕ, zero, suc, ◌+◌, ◌-◌, ◌≤◌, ◌<◌}
use native.Mathlib.Omega.{arith}
use lib.ListN.{length, length-append}
use Rattle.std.specs.Prelude.{Ok, Err}
use Rattle.definition.specs.declared.answers.Refusal.TheVariants.{Form}
use Rattle.expression.specs.declared.Value.{Value}
use Rattle.expression.specs.Grammar.{Expr}
use Rattle.expression.specs.Reader.{Outcome, gives, refused, trees}
use Rattle.expression.specs.Values.{values}
use lib.Dec.{eqb}
use borrow.Author.Tests.{eqb-true, eqb-false}
use Rattle.expression.proofs.Spans.{by_bool, clash}
use Rattle.expression.proofs.Chain.{never, rest_of}
use Rattle.assembly.specs.Grammar.{Line, Row}
use Rattle.assembly.specs.Grammar as G
use Rattle.assembly.specs.Reader.{row, Text, lines, broken, onto, rows_after, rows}
use Rattle.assembly.specs.Assemble.{line_values}
use Rattle.assembly.proofs.Fused.{outcome_of, row-fused}
use Rattle.assembly.proofs.Sound.{row-sound}
use Rattle.assembler.specs.Meaning.{shape, lines_of, is_whole, text_lines}

-- a line has at least its end
row-some : {d : ℕ} {s : List ℕ} {l : Line Expr} → Row d s l → 0 < length s
row-some (G.plain {d} {g} {s} k q) = let a = length-append g (s ++ (10 ∷ [])) in let b = length-append s (10 ∷ []) in omega arith
row-some (G.labelled {d} {g} {n} {c} {s} k q l m p) =
    let a = length-append g (n ++ (c ++ (s ++ (10 ∷ [])))) in
    let b = length-append n (c ++ (s ++ (10 ∷ []))) in
    let e = length-append c (s ++ (10 ∷ [])) in
    let f = length-append s (10 ∷ []) in
    omega arith

under : (p : List ℕ → Option ℕ) (t : List ℕ) (v : Line Value) (u : List ℕ) (o : Outcome (Line Expr)) → row trees 32 t ≡ o → gives v u ≡ outcome_of (line_values p) o → length u < length t
unfolding outcome_of
under p t v u (gives l w) e f =
    let c = row-sound 32 t l w e in
    let g = row-some c.holds in
    let i = ap length c.cut ∙ length-append c.s w in
    let j = ap length (rest_of f) in
    omega arith
under p t v u refused e f = never (sym f)

pub row-shorter : (p : List ℕ → Option ℕ) (t : List ℕ) (v : Line Value) (u : List ℕ) → gives v u ≡ row (values p) 32 t → length u < length t
row-shorter p t v u h = under p t v u (row trees 32 t) refl (h ∙ row-fused p 32 t)

pub less-one : (a b : ℕ) → b < a → a - b ≡ suc (a - (b + 1))
less-one a b h = omega arith

onto-shape : (v : Line Value) (x : Text Value) (k : ℕ) → shape k (onto v x) ≡ shape (k + 1) x
unfolding shape onto
onto-shape v (lines ls) k = ap Ok (let e : k + suc (length ls) ≡ k + 1 + length ls = omega arith in e)
onto-shape v (broken m) k = ap (λ (j : ℕ). Err (Form (suc j))) (let e : k + suc m ≡ k + 1 + m = omega arith in e)

module _ (p : List ℕ → Option ℕ) where
  row-onto : (m : ℕ) (t : List ℕ) (v : Line Value) (u : List ℕ) → gives v u ≡ row (values p) 32 t → rows (values p) 32 (suc m) t ≡ onto v (rows (values p) 32 m u)
  unfolding rows rows_after
  row-onto m [] v u e = let h = row-shorter p [] v u e in absurd (omega arith)
  row-onto m (b ∷ t) v u e = rw (← e)

  -- ---- the first pass

  pub count-end : (k m : ℕ) (t : List ℕ) → length t < 1 → Ok k ≡ shape k (rows (values p) 32 m t)
  unfolding shape rows
  count-end k zero [] h = ap Ok (let e : k ≡ k + 0 = omega arith in e)
  count-end k (suc m) [] h = ap Ok (let e : k ≡ k + 0 = omega arith in e)
  count-end k m (b ∷ t) h = absurd (omega arith)

  pub count-full : (k m : ℕ) (t : List ℕ) → m ≡ 0 → 1 ≤ length t → Err (Form (k + 1)) ≡ shape k (rows (values p) 32 m t)
  unfolding shape rows
  count-full k m [] e h = absurd (omega arith)
  count-full k m (b ∷ t) e h = rw e (ap (λ (j : ℕ). Err (Form j)) (let z : k + 1 ≡ suc (k + 0) = omega arith in z))

  count-broken : (k m n : ℕ) (t : List ℕ) → n ≡ suc m → 1 ≤ length t → refused ≡ row (values p) 32 t → Err (Form (k + 1)) ≡ shape k (rows (values p) 32 n t)
  unfolding shape rows rows_after
  count-broken k m n [] e h f = absurd (omega arith)
  count-broken k m n (b ∷ t) e h f = rw (e, ← f) (ap (λ (j : ℕ). Err (Form j)) (let z : k + 1 ≡ suc (k + 0) = omega arith in z))

  -- with room or without
  pub broken-there : (k room : ℕ) (t : List ℕ) → k ≤ room → 1 ≤ length t → refused ≡ row (values p) 32 t → Err (Form (k + 1)) ≡ shape k (rows (values p) 32 (room - k) t)
  broken-there k room t l h f =
      by_bool (eqb k room)
      (λ e. let z = eqb-true k room e in count-full k (room - k) t (omega arith) h)
      (λ e. let z = eqb-false k room e in count-broken k (room - (k + 1)) (room - k) t (omega arith) h f)

  module _ (k : ℕ) (t : List ℕ) where
    pub count-next : (m n : ℕ) (v : Line Value) (u : List ℕ) → n ≡ suc m → gives v u ≡ row (values p) 32 t → shape (k + 1) (rows (values p) 32 m u) ≡ shape k (rows (values p) 32 n t)
    count-next m n v u e f = rw e (sym (onto-shape v (rows (values p) 32 m u) k) ∙ ap (shape k) (sym (row-onto m t v u f)))

  -- ---- the later passes, over a text that is whole

  pub lines-end : (m : ℕ) (t : List ℕ) → m ≡ 0 → is_whole (rows (values p) 32 m t) ≡ true → text_lines p m t ≡ []
  unfolding rows is_whole lines_of
  lines-end m [] e h = rw e refl
  lines-end m (b ∷ t) e h = clash (rw e at h) refl

  pub lines-none : (m n : ℕ) (t : List ℕ) → n ≡ suc m → is_whole (rows (values p) 32 n t) ≡ true → refused ≡ row (values p) 32 t → text_lines p n t ≡ []
  unfolding rows rows_after is_whole lines_of
  lines-none m n [] e h f = rw e refl
  lines-none m n (b ∷ t) e h f = clash (rw (e, ← f) at h) refl

  onto-whole : (v : Line Value) (x : Text Value) → is_whole (onto v x) ≡ is_whole x
  unfolding onto is_whole
  onto-whole v (lines ls) = refl
  onto-whole v (broken k) = refl

  onto-lines : (v : Line Value) (x : Text Value) → is_whole x ≡ true → lines_of (onto v x) ≡ v ∷ lines_of x
  unfolding onto is_whole lines_of
  onto-lines v (lines ls) h = refl
  onto-lines v (broken k) h = clash h refl

  module _ (m n : ℕ) (t u : List ℕ) (v : Line Value) (e : n ≡ suc m) (h : is_whole (rows (values p) 32 n t) ≡ true) (f : gives v u ≡ row (values p) 32 t) where
    pub whole-next : is_whole (rows (values p) 32 m u) ≡ true
    whole-next = sym (onto-whole v (rows (values p) 32 m u)) ∙ (ap is_whole (sym (row-onto m t v u f) ∙ ap (λ (j : ℕ). rows (values p) 32 j t) (sym e)) ∙ h)

    pub lines-next : text_lines p n t ≡ v ∷ text_lines p m u
    lines-next = ap lines_of (ap (λ (j : ℕ). rows (values p) 32 j t) e ∙ row-onto m t v u f) ∙ onto-lines v (rows (values p) 32 m u) whole-next
