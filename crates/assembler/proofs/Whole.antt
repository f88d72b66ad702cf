-- From the passes to the call. Assumes nothing.
use mathlib.Core.Path.{◌≡◌, refl, sym, ap, ◌∙◌}
use mathlib.Core.Bool.{Bool, true, false}
use mathlib.Core.List.{List, [], ◌∷◌, map}
use mathlib.Core.Option.{Option}
use Prim.Native.Nat.{ℕ, suc, ◌+◌, ◌/◌, ◌%◌, ◌≤◌}
use native.Mathlib.Omega.{arith}
use lib.IntN.{ℤ}
use lib.ListN.{length}
use lib.Dec.{eqb}
use Rattle.std.specs.Prelude.{Ok, Err}
use Rattle.std.specs.Prelude as P
use Rattle.definition.specs.declared.Cell.{Cell}
use Rattle.definition.specs.declared.answers.Refusal.{Refusal}
use Rattle.definition.specs.declared.answers.Refusal.TheVariants as R
use Rattle.definition.specs.Answers.{number_of, place_of, checked, counted_of}
use Rattle.definition.specs.Calls.{called}
use Rattle.definition.specs.Memory.{put_cell}
use Rattle.expression.specs.declared.Value.{Value}
use Rattle.expression.specs.Grammar.{Expr}
use Rattle.expression.specs.Reader.{trees}
use Rattle.expression.specs.Values.{values}
use Rattle.expression.specs.Table.{setting}
use Rattle.assembly.specs.Grammar.{Line}
use Rattle.assembly.specs.Reader.{Text, lines, broken, rows}
use Rattle.assembly.specs.Assemble.{place_in, labels_of, line_values, line_cell, Assembled, refuses, judged, assembled, assemble, put_cells, answered, assemble_call}
use Rattle.assembly.proofs.Sound.{rows-sound}
use Rattle.assembly.proofs.Complete.{rows-complete}
use Rattle.assembly.proofs.Placed.{labels-placed}
use Rattle.assembly.proofs.Texts.{text_of, rows-fused}
use Rattle.assembler.specs.Meaning.{shape, lines_of, is_whole, text_lines, Verdict, judge}
use Rattle.assembler.proofs.Judged.{said, judged-is}

mapped : {A B : Type 0} (f : A → B) (l : List A) → length (map f l) ≡ length l
mapped f [] = refl
mapped f (a ∷ l) = ap suc (mapped f l)

labels-kept : (p : List ℕ → Option ℕ) (ls : List (Line Expr)) → labels_of (map (line_values p) ls) ≡ labels_of ls
labels-kept p [] = refl
labels-kept p (l ∷ ls) = ap (λ (x : List (Option (List ℕ))). l.label ∷ x) (labels-kept p ls)

-- ---- the first pass

no-error : {Q : Type 0} {e : Refusal} {n : ℕ} → Err e ≡ Ok n → Q
no-error e = absurd (differ e)
  where
    differ : {e : Refusal} {n : ℕ} → Err e ≡ Ok n → ⊥
    differ e = cc

the-error : {d e : Refusal} → ◌≡◌ {A = P.Result ℕ Refusal} (Err d) (Err e) → d ≡ e
the-error e = cc

the-count : {m n : ℕ} → ◌≡◌ {A = P.Result ℕ Refusal} (Ok m) (Ok n) → m ≡ n
the-count e = cc

broken-by : (p : List ℕ → Option ℕ) (t : Text Expr) (e : Refusal) → Err e ≡ shape 0 (text_of (line_values p) t) → assembled t ≡ refuses (number_of e) (place_of e)
unfolding shape text_of assembled
broken-by p (lines ls) e h = no-error h
broken-by p (broken k) e h =
    let z : k ≡ 0 + k = omega arith in
    ap (λ (j : ℕ). refuses 13 (suc j)) z ∙ ap (λ (d : Refusal). refuses (number_of d) (place_of d)) (sym (the-error h))

pub first-broken : (p : List ℕ → Option ℕ) (room : ℕ) (s : List ℕ) (e : Refusal) → Err e ≡ shape 0 (rows (values p) 32 room s) → assemble room s ≡ refuses (number_of e) (place_of e)
unfolding assemble
first-broken p room s e h = broken-by p (rows trees 32 room s) e (h ∙ ap (shape 0) (rows-fused p 32 room s))

-- the lines of a text that is whole
record Lines (s : List ℕ) (room n : ℕ) : Type 0 where
  all : List (Line Expr)
  read : rows trees 32 room s ≡ lines all
  count : n ≡ length all

whole_by : (p : List ℕ → Option ℕ) (s : List ℕ) (room : ℕ) (t : Text Expr) (n : ℕ) → rows trees 32 room s ≡ t → Ok n ≡ shape 0 (text_of (line_values p) t) → Lines s room n
unfolding shape text_of
whole_by p s room (lines ls) n r h = record { all = ls; read = r; count = the-count h ∙ (let z : 0 + length (map (line_values p) ls) ≡ length (map (line_values p) ls) = omega arith in z ∙ mapped (line_values p) ls) }
whole_by p s room (broken k) n r h = no-error (sym h)

first-whole : (p : List ℕ → Option ℕ) (room : ℕ) (s : List ℕ) (n : ℕ) → Ok n ≡ shape 0 (rows (values p) 32 room s) → Lines s room n
first-whole p room s n h = whole_by p s room (rows trees 32 room s) n refl (h ∙ ap (shape 0) (rows-fused p 32 room s))

-- ---- the passes after it

module _ (s : List ℕ) (room n : ℕ) (l : Lines s room n) where
  sound : length l.all ≤ room
  sound = (rows-sound 32 room s l.all l.read).1

  exact : rows trees 32 n s ≡ lines l.all
  exact = rw l.count (rows-complete 32 (length l.all) (rows-sound 32 room s l.all l.read).0 (omega arith))

  module _ (p : List ℕ → Option ℕ) where
    valued : rows (values p) 32 n s ≡ lines (map (line_values p) l.all)
    unfolding text_of
    valued = rows-fused p 32 n s ∙ ap (text_of (line_values p)) exact

    texts : text_lines p n s ≡ map (line_values p) l.all
    unfolding lines_of
    texts = ap lines_of valued

    whole : is_whole (rows (values p) 32 n s) ≡ true
    unfolding is_whole
    whole = ap is_whole valued

    count-is : length (text_lines p n s) ≡ n
    count-is = ap length texts ∙ (mapped (line_values p) l.all ∙ sym l.count)

    module _ (placed : p ≡ setting s 0) where
      meant : p ≡ place_in 0 (labels_of l.all)
      meant = placed ∙ labels-placed 32 room s l.all l.read

      call : assemble room s ≡ judged (text_lines p n s)
      unfolding assemble assembled
      call = ap assembled l.read ∙ ap judged (ap (λ (f : List ℕ → Option ℕ). map (line_values f) l.all) (sym meant) ∙ sym texts)

      judging : said (judge p 0 0 (Ok tt) (text_lines p n s)) (map line_cell (text_lines p n s)) ≡ assemble room s
      judging = judged-is p (text_lines p n s) (meant ∙ ap (place_in 0) (sym (labels-kept p l.all) ∙ ap labels_of (sym texts))) ∙ sym call

-- ---- the call

-- the test of the image
pub ragged-by : (b : Bool) (e : Refusal) → Err e ≡ checked b R.Image → (b ≡ false) × (e ≡ R.Image)
ragged-by true e h = absurd (differ h)
  where
    differ : {e : Refusal} → ◌≡◌ {A = Verdict} (Err e) (Ok tt) → ⊥
    differ h = cc
ragged-by false e h = (refl, the-same h)
  where
    the-same : {d e : Refusal} → ◌≡◌ {A = Verdict} (Err d) (Err e) → d ≡ e
    the-same h = cc

pub even-by : (b : Bool) (u : Unit {0}) → Ok u ≡ checked b R.Image → b ≡ true
even-by true u h = refl
even-by false u h = absurd (differ h)
  where
    differ : {u : Unit {0}} {e : Refusal} → ◌≡◌ {A = Verdict} (Ok u) (Err e) → ⊥
    differ h = cc

module _ (s : List ℕ) (image : List ℤ) where
  pub call-ragged : eqb (length image % 3) 0 ≡ false → called (counted_of (Err R.Image)) image ≡ assemble_call s image
  unfolding assemble_call
  call-ragged h = rw h

  module _ (h : eqb (length image % 3) 0 ≡ true) where
    call-even : answered (assemble (length image / 3) s) image ≡ assemble_call s image
    unfolding assemble_call
    call-even = rw h

    call-refuses : (e : Refusal) → assemble (length image / 3) s ≡ refuses (number_of e) (place_of e) → called (counted_of (Err e)) image ≡ assemble_call s image
    unfolding answered
    call-refuses e z = sym (ap (λ (a : Assembled). answered a image) z) ∙ call-even

    module _ (q : List ℕ → Option ℕ) where
      pub call-broken : (e : Refusal) → Err e ≡ shape 0 (rows (values q) 32 (length image / 3) s) → called (counted_of (Err e)) image ≡ assemble_call s image
      call-broken e f = call-refuses e (first-broken q (length image / 3) s e f)

      module _ (n : ℕ) (f : Ok n ≡ shape 0 (rows (values q) 32 (length image / 3) s)) where
        abbrev at : Lines s (length image / 3) n
        at = first-whole q (length image / 3) s n f

        pub count_room : n ≤ length image / 3
        count_room = let a = sound s (length image / 3) n at in let b = at.count in omega arith

        module _ (p : List ℕ → Option ℕ) where
          pub is-whole : is_whole (rows (values p) 32 n s) ≡ true
          is-whole = whole s (length image / 3) n at p

          module _ (placed : p ≡ setting s 0) where
            pub call-refused : (e : Refusal) → Err e ≡ judge p 0 0 (Ok tt) (text_lines p n s) → called (counted_of (Err e)) image ≡ assemble_call s image
            call-refused e g = call-refuses e (sym (ap (λ (v : Verdict). said v (map line_cell (text_lines p n s))) g ∙ judging s (length image / 3) n at p placed))

            pub call-cells : (image' : List ℤ) (u : Unit {0}) → Ok u ≡ judge p 0 0 (Ok tt) (text_lines p n s) → image' ≡ put_cells 0 (map line_cell (text_lines p n s)) image → called (counted_of (Ok n)) image' ≡ assemble_call s image
            unfolding answered
            call-cells image' u g z =
                let c = mapped line_cell (text_lines p n s) ∙ count-is s (length image / 3) n at p in
                ap (λ (x : List ℤ). called (counted_of (Ok n)) x) z ∙ (ap (λ (m : ℕ). called (counted_of (Ok m)) (put_cells 0 (map line_cell (text_lines p n s)) image)) (sym c) ∙ (ap (λ (a : Assembled). answered a image) (ap (λ (v : Verdict). said v (map line_cell (text_lines p n s))) g ∙ judging s (length image / 3) n at p placed) ∙ call-even))

-- ---- the last pass

pub put_next : (k : ℕ) (ls ms : List (Line Value)) (l : Line Value) (v : Cell) (image image' : List ℤ) → ls ≡ l ∷ ms → v ≡ line_cell l → image' ≡ put_cell image k v → put_cells (k + 1) (map line_cell ms) image' ≡ put_cells k (map line_cell ls) image
unfolding put_cells
put_next k ls ms l v image image' e f g =
    let z : k + 1 ≡ suc k = omega arith in
    rw (e, g, f) (ap (λ (j : ℕ). put_cells j (map line_cell ms) (put_cell image k (line_cell l))) z)

pub put-end : (k : ℕ) (ls : List (Line Value)) (image : List ℤ) → ls ≡ [] → image ≡ put_cells k (map line_cell ls) image
unfolding put_cells
put-end k ls image e = rw e
