-- A name's place in a table of names is its number in the list of names. Assumes nothing.
use mathlib.Core.Path.{◌≡◌, refl, sym, ap, ◌∙◌}
use mathlib.Core.Bool.{true, false, cond}
use mathlib.Core.List.{List, [], ◌∷◌, map}
use Prim.Native.Nat.{ℕ, zero, suc, ◌+◌, ◌-◌, ◌≤◌}
use native.Mathlib.Omega.{arith}
use lib.ListN.{length, take, drop}
use lib.Seq.{take-length}
use lib.Dec.{ltb}
use borrow.Author.Tests.{ltb-true, lt-ltb, le-ltb}
use Rattle.std.specs.Prelude.{Some, None, position}
use Rattle.std.specs.Borrow.{Bor}
use Rattle.std.specs.List.{position_or_len}
use Rattle.std.proofs.lemmas.Bool.{ltb-false}
use Rattle.std.proofs.lemmas.List.{length-drop, drop-map}
use Rattle.std.proofs.lemmas.List.Recursion.{is_position_or_len}
use Rattle.expression.specs.Reader.{gives, refused, front, past, is_letter, same}
use Rattle.expression.proofs.Spans.{by_bool}
use Rattle.assembly.specs.Reader.{number_from, number_of}
use Rattle.line.specs.Names.{Skipped, named_at}

abbrev pub texts : List (Bor (List ℕ)) → List (List ℕ)
texts ns = map (λ n. n.now) ns

number-on : (ns : List (List ℕ)) (k : ℕ) (s : List ℕ) → number_from (suc k) ns s ≡ suc (number_from k ns s)
unfolding number_from
number-on [] k s = refl
number-on (n ∷ ns) k s = by_bool (same n s) (λ e. rw e) (λ e. rw e (number-on ns (suc k) s))

place-number : (ns : List (Bor (List ℕ))) (s : List ℕ) → number_of (texts ns) s ≡ position_or_len (λ n. same n.now s) ns
unfolding number_from
place-number ns s = is_position_or_len (λ l. number_of (texts l) s) (λ n. same n.now s) refl (λ y ys. ap (cond (same y.now s) 0) (number-on (texts ys) 0 s ∙ omega arith)) ns

texts-length : (ns : List (Bor (List ℕ))) → length (texts ns) ≡ length ns
texts-length [] = refl
texts-length (n ∷ ns) = ap suc (texts-length ns)

-- ---- a place in the names from a place on

number-by : (k : ℕ) (ns : List (List ℕ)) (s : List ℕ) → number_from k ns s ≡ k + number_of ns s
number-by zero ns s = omega arith
number-by (suc k) ns s = number-on ns k s ∙ (ap suc (number-by k ns s) ∙ omega arith)

pub empty-named : (ns : List (List ℕ)) (t : List ℕ) → length t ≡ 0 → ltb (number_of ns []) (length ns) ≡ false → refused ≡ named_at ns t
unfolding named_at front
empty-named ns [] l e = rw e refl
empty-named ns (b ∷ t) l e = absurd (omega arith)

module _ (ns : List (Bor (List ℕ))) (k : ℕ) (t name : List ℕ) (e : name ≡ front is_letter t) (l : k ≤ length ns) (q : Skipped (texts ns) k t) where
  abbrev behind : ℕ
  behind = position_or_len (λ n. same n.now name) (drop k ns)

  -- its number, by its place behind
  number-behind : number_of (texts ns) (front is_letter t) ≡ k + behind
  number-behind =
      q ∙ (number-by k (drop k (texts ns)) (front is_letter t)
      ∙ ap (λ (i : ℕ). k + i) (ap (λ (m : List (List ℕ)). number_of m (front is_letter t)) (drop-map (λ n. n.now) k ns) ∙ rw (← e) (place-number (drop k ns) name)))

  sizes : (length (drop k ns) ≡ length ns - k) × (length (texts ns) ≡ length ns)
  sizes = (length-drop k ns, texts-length ns)

  -- a slice from k on
  slice : take (length ns - k) (drop k ns) ≡ drop k ns
  slice = ap (λ (n : ℕ). take n (drop k ns)) (sym (length-drop k ns)) ∙ take-length (drop k ns)

  pub place-some : (i : ℕ) → Some i ≡ position (λ n. same n.now name) (take (length ns - k) (drop k ns)) → gives (k + i) (past is_letter t) ≡ named_at (texts ns) t
  unfolding named_at
  place-some i f =
      by_bool (ltb behind (length (drop k ns)))
      (λ h. let g : Some i ≡ Some behind = rw (slice, h) at f in
      let p = the_number g in
      let b = ltb-true _ _ h in
      let z = sizes in
      let w : ltb (k + behind) (length (texts ns)) ≡ true = lt-ltb _ _ (omega arith) in
      rw (number-behind, w, p) refl)
      (λ h. absurd (no_number (rw (slice, h) at f)))
    where
      the_number : {a b : ℕ} → Some a ≡ Some b → a ≡ b
      the_number e = cc

      no_number : {a : ℕ} → Some a ≡ None → ⊥
      no_number e = cc

  pub place-none : None ≡ position (λ n. same n.now name) (take (length ns - k) (drop k ns)) → refused ≡ named_at (texts ns) t
  unfolding named_at
  place-none f =
      by_bool (ltb behind (length (drop k ns)))
      (λ h. absurd (a_number (rw (slice, h) at f)))
      (λ h. let b = ltb-false _ _ h in
      let z = sizes in
      let w : ltb (k + behind) (length (texts ns)) ≡ false = le-ltb _ _ (omega arith) in
      rw (number-behind, w) refl)
    where
      a_number : {a : ℕ} → None ≡ Some a → ⊥
      a_number e = cc
