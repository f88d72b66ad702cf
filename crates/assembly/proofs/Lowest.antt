-- The answer's line is the lowest for its number, and all of 13 comes before any of 14 before any of 15. Assumes nothing.
use mathlib.Core.Path.{◌≡◌, refl, sym, ap, ◌∙◌}
use mathlib.Core.Bool.{Bool, true, false}
use mathlib.Core.List.{List, [], ◌∷◌, ◌++◌, append_assoc, map, reverse_aux}
use mathlib.Core.Option.{Option, some, none}
use Prim.Native.Nat.{ℕ, zero, suc, ◌+◌, ◌<◌}
use native.Mathlib.Omega.{arith}
use lib.ListN.{length, take}
use Rattle.definition.specs.declared.Cell.{Cell}
use Rattle.expression.specs.declared.Value.{Value}
use Rattle.expression.specs.Grammar.{Expr}
use Rattle.expression.specs.Reader.{Outcome, gives, refused, trees}
use Rattle.expression.proofs.Spans.{by_bool}
use Rattle.assembly.specs.Grammar.{Line}
use Rattle.assembly.specs.Grammar as G
use Rattle.assembly.specs.Reader.{Text, lines, broken, row, onto, rows_after, rows}
use Rattle.assembly.specs.Assemble.{line_cell, labels_of, lowest, wrong_labels, wrong_values, cells, refuses, otherwise, judged, assembled, assemble}
use Rattle.assembly.specs.Theorems.{Stands, NoFault, Lowest, valued, Whole, Lowest13, LowestOf13, LowestOf14, LowestOf15}
use Rattle.assembly.specs.Theorems as T
use Rattle.assembly.proofs.Sound.{row-sound, rows-sound}
use Rattle.assembly.proofs.Complete.{row_reads}
use Rattle.assembly.proofs.Cells.{other-number}

-- ---- the search

within : {ls : List (Line Value)} {k : ℕ} {l : Line Value} → Stands ls k l → k < length ls
within T.here = omega arith
within (T.later s) = let a = within s in omega arith

module _ (p : List (Option (List ℕ)) → Line Value → Bool) where
  -- after these labels, the last one first
  abbrev FaultAfter : List (Option (List ℕ)) → List (Line Value) → ℕ → Type 0
  FaultAfter b ls k = (l : Line Value) × (Stands ls k l × (p (reverse_aux (take k (labels_of ls)) b) l ≡ true))

  abbrev NoFaultAfter : List (Option (List ℕ)) → List (Line Value) → ℕ → Type 0
  NoFaultAfter b ls k = (l : Line Value) → Stands ls k l → p (reverse_aux (take k (labels_of ls)) b) l ≡ false

  first-sound : (b : List (Option (List ℕ))) (l : Line Value) (ls : List (Line Value)) → p b l ≡ false → NoFaultAfter b (l ∷ ls) 0
  first-sound b l ls e m T.here = e

  later-sound : (b : List (Option (List ℕ))) (l : Line Value) (ls : List (Line Value)) (j : ℕ) → NoFaultAfter (l.label ∷ b) ls j → NoFaultAfter b (l ∷ ls) (suc j)
  later-sound b l ls j h m (T.later s) = h m s

  none_found : (k : ℕ) (b : List (Option (List ℕ))) (ls : List (Line Value)) → lowest p k b ls ≡ none → (j : ℕ) → NoFaultAfter b ls j
  unfolding lowest
  none_found k b [] h j = λ m s. absurd (omega (arith, within s))
  none_found k b (l ∷ ls) h zero =
      by_bool (p b l) (λ e. let z : ◌≡◌ {A = ℕ} 0 1 = cc (rw e at h) in absurd (omega arith)) (λ e. first-sound b l ls e)
  none_found k b (l ∷ ls) h (suc j) =
      by_bool (p b l)
      (λ e. let z : ◌≡◌ {A = ℕ} 0 1 = cc (rw e at h) in absurd (omega arith))
      (λ e. later-sound b l ls j (none_found (suc k) (l.label ∷ b) ls (rw e at h) j))

  record Found (k : ℕ) (b : List (Option (List ℕ))) (ls : List (Line Value)) (m : ℕ) : Type 0 where
    i : ℕ
    number : m ≡ k + i
    fault : FaultAfter b ls i
    below : (j : ℕ) → j < i → NoFaultAfter b ls j

  one_found : (k : ℕ) (b : List (Option (List ℕ))) (ls : List (Line Value)) (m : ℕ) → lowest p k b ls ≡ some m → Found k b ls m
  unfolding lowest
  one_found k b [] m h = let z : ◌≡◌ {A = ℕ} 0 1 = cc in absurd (omega arith)
  one_found k b (l ∷ ls) m h =
      by_bool (p b l)
      (λ e. let f : k ≡ m = cc (rw e at h) in record { i = 0; number = omega arith; fault = (l, (T.here, e)); below = λ j g. absurd (omega arith) })
      (λ e. further e (one_found (suc k) (l.label ∷ b) ls m (rw e at h)))
    where
      further : p b l ≡ false → Found (suc k) (l.label ∷ b) ls m → Found k b (l ∷ ls) m
      further e f = record { i = suc f.i; number = omega (arith, f.number); fault = (f.fault.0, (T.later f.fault.1.0, f.fault.1.1)); below = under }
        where
          under : (j : ℕ) → j < suc f.i → NoFaultAfter b (l ∷ ls) j
          under zero g = first-sound b l ls e
          under (suc j) g = later-sound b l ls j (f.below j (omega arith))

  lowest-is : (ls : List (Line Value)) (k n : ℕ) → lowest p 0 [] ls ≡ some k → n ≡ suc k → Lowest p ls n
  lowest-is ls k n h e =
      let f = one_found 0 [] ls k h in
      record { k = f.i; numbered = omega (arith, f.number); fault = f.fault; below = f.below }

-- ---- 14 and 15

unequal : {P : Type 0} {r k q n : ℕ} → (r ≡ q → ⊥) → refuses r k ≡ refuses q n → P
unequal {r = r} {q = q} h e = let z : r ≡ q = cc in absurd (h z)

made : {P : Type 0} {ws : List Cell} {q n : ℕ} → cells ws ≡ refuses q n → P
made e = let z : ◌≡◌ {A = ℕ} 0 1 = cc in absurd (omega arith)

by-14 : (x y : Option ℕ) (ws : List Cell) (n : ℕ) → otherwise 14 x (otherwise 15 y (cells ws)) ≡ refuses 14 n → (k : ℕ) × (x ≡ some k) × (n ≡ suc k)
unfolding otherwise
by-14 none none ws n h = made h
by-14 none (some j) ws n h = unequal (λ z. omega arith) h
by-14 (some k) y ws n h = (k, refl, cc)

by-15 : (x y : Option ℕ) (ws : List Cell) (n : ℕ) → otherwise 14 x (otherwise 15 y (cells ws)) ≡ refuses 15 n → (k : ℕ) × (x ≡ none) × (y ≡ some k) × (n ≡ suc k)
unfolding otherwise
by-15 none none ws n h = made h
by-15 none (some k) ws n h = (k, refl, refl, cc)
by-15 (some k) y ws n h = unequal (λ z. omega arith) h

text-14 : (room : ℕ) (t : List ℕ) (x : Text Expr) (n : ℕ) → rows trees 32 room t ≡ x → assembled x ≡ refuses 14 n → (ls : List (Line Expr)) × (Whole room t ls × Lowest wrong_labels (valued ls) n)
unfolding assembled judged
text-14 room t (lines ls) n e h =
    let vs = valued ls in
    let a = by-14 (lowest wrong_labels 0 [] vs) (lowest wrong_values 0 [] vs) (map line_cell vs) n h in
    (ls, (rows-sound 32 room t ls e, lowest-is wrong_labels vs a.0 n a.1 a.2))
text-14 room t (broken k) n e h = unequal (λ z. omega arith) h

pub lowest-14 : LowestOf14
unfolding assemble
lowest-14 room t n h = text-14 room t (rows trees 32 room t) n refl h

text-15 : (room : ℕ) (t : List ℕ) (x : Text Expr) (n : ℕ) → rows trees 32 room t ≡ x → assembled x ≡ refuses 15 n → (ls : List (Line Expr)) × (Whole room t ls × ((j : ℕ) → NoFault wrong_labels (valued ls) j) × Lowest wrong_values (valued ls) n)
unfolding assembled judged
text-15 room t (lines ls) n e h =
    let vs = valued ls in
    let a = by-15 (lowest wrong_labels 0 [] vs) (lowest wrong_values 0 [] vs) (map line_cell vs) n h in
    (ls, (rows-sound 32 room t ls e, none_found wrong_labels 0 [] vs a.1, lowest-is wrong_values vs a.0 n a.2 a.3))
text-15 room t (broken k) n e h = unequal (λ z. omega arith) h

pub lowest-15 : LowestOf15
unfolding assemble
lowest-15 room t n h = text-15 room t (rows trees 32 room t) n refl h

-- ---- 13

onto-broken : (l : Line Expr) (x : Text Expr) (k : ℕ) → onto l x ≡ broken k → (j : ℕ) × (x ≡ broken j) × (k ≡ suc j)
unfolding onto
onto-broken l (lines ms) k h = let z : ◌≡◌ {A = ℕ} 0 1 = cc in absurd (omega arith)
onto-broken l (broken j) k h = (j, refl, cc)

rows-broken : (room : ℕ) (t : List ℕ) (k : ℕ) → rows trees 32 room t ≡ broken k → Lowest13 room t (suc k)
unfolding rows rows_after
rows-broken zero [] k h = let z : ◌≡◌ {A = ℕ} 0 1 = cc in absurd (omega arith)
rows-broken zero (b ∷ t) k h =
    let e : k ≡ 0 = cc in
    record { k = 0; numbered = omega arith; front = []; rest = b ∷ t; cut = refl; lines = []; count = refl; before = (G.end, omega arith); some = omega arith; fault = λ s u l c r. refl }
rows-broken (suc room) [] k h = let z : ◌≡◌ {A = ℕ} 0 1 = cc in absurd (omega arith)
rows-broken (suc room) (b ∷ t) k h = go (row trees 32 (b ∷ t)) refl h (rows-broken room)
  where
    go : (o : Outcome (Line Expr)) → row trees 32 (b ∷ t) ≡ o → rows_after (rows trees 32 room) o ≡ broken k → ((u : List ℕ) (j : ℕ) → rows trees 32 room u ≡ broken j → Lowest13 room u (suc j)) → Lowest13 (suc room) (b ∷ t) (suc k)
    go (gives l u) e g ih =
        let f = onto-broken l (rows trees 32 room u) k g in
        let i = ih u f.0 f.1 in
        let c = row-sound 32 (b ∷ t) l u e in
        record {
          k = suc i.k;
          numbered = omega (arith, i.numbered, f.2);
          front = c.s ++ i.front;
          rest = i.rest;
          cut = c.cut ∙ (ap (λ (z : List ℕ). c.s ++ z) i.cut ∙ sym (append_assoc c.s i.front i.rest));
          lines = l ∷ i.lines;
          count = ap suc i.count;
          before = (G.more c.holds i.before.0, omega (arith, i.before.1));
          some = i.some;
          fault = λ s v m d r. ap suc (i.fault s v m d r);
        }
    go refused e g ih =
        let z : k ≡ 0 = cc in
        record { k = 0; numbered = omega arith; front = []; rest = b ∷ t; cut = refl; lines = []; count = refl; before = (G.end, omega arith); some = omega arith; fault = λ s u l c r. let w : ◌≡◌ {A = ℕ} 0 1 = cc (sym (row_reads 32 u r), ap (row trees 32) c) in absurd (omega arith) }

text-13 : (room : ℕ) (t : List ℕ) (x : Text Expr) (n : ℕ) → rows trees 32 room t ≡ x → assembled x ≡ refuses 13 n → Lowest13 room t n
unfolding assembled judged
text-13 room t (lines ls) n e h =
    let vs = valued ls in
    absurd (other-number (lowest wrong_labels 0 [] vs) (lowest wrong_values 0 [] vs) (map line_cell vs) n h)
text-13 room t (broken k) n e h =
    let z : n ≡ suc k = cc in
    rw z (rows-broken room t k e)

pub lowest-13 : LowestOf13
unfolding assemble
lowest-13 room t n h = text-13 room t (rows trees 32 room t) n refl h
