-- What an instruction writes, and that it can be put back.
use mathlib.Core.Path.{◌≡◌, refl, sym, ap, ◌∙◌, subst}
use mathlib.Core.Bool.{Bool, true, false, cond}
use mathlib.Core.List.{List, [], ◌∷◌}
use Prim.Native.Nat.{ℕ, ◌<◌, ◌≤◌}
use native.Mathlib.Omega.{arith}
use lib.IntN.{ℤ}
use lib.ListN.{length, get_or, length-append}
use lib.Dec.{ltb, leb}
use borrow.Author.Tests.{ltb-true, leb-true}
use Rattle.definition.specs.declared.Cell.{Cell}
use Rattle.definition.specs.declared.Error.TheVariants.{InvalidMemoryAccess}
use Rattle.definition.specs.Memory.{cell_count, cell_at, put_cell}
use Rattle.definition.specs.Exec.{Core, with_cells, Exec, Res, err, and_then, permits, write}
use Rattle.definition.specs.Runtime.{attempt, Turn, completes, enters, stops, turn, guard, has_handler}
use Rattle.definition.proofs.Verdict.{and_left, and_right}
use Rattle.definition.proofs.Writes.{permits-in, permits-below, write_done, write-trapped}
use Rattle.journal.specs.Writes.{Held, held_at, aimed, wrote_there, instruction_writes, entry_writes, step_writes, undone}
use Rattle.journal.specs.StepBack.{cells_of, OneWrite, FourAtMost}
use Rattle.journal.proofs.Shape.{Shape, before, comes, shape-attempt}
use Rattle.journal.proofs.Cells.{put_back}

permitted : (g n : ℕ) (l : List ℤ) → permits g n l ≡ true → (n < cell_count l) × (g ≤ n)
unfolding permits
permitted g n l h =
    (ltb-true n (cell_count l) (and_left (ltb n (cell_count l)) (leb g n) h), leb-true g n (and_right (ltb n (cell_count l)) (leb g n) h))

-- what is forbidden from g on is forbidden from any f further up
forbidden : (g f n : ℕ) (l : List ℤ) → g ≤ f → permits g n l ≡ false → permits f n l ≡ false
forbidden g f n l h e = go (permits f n l) refl
  where
    go : (b : Bool) → permits f n l ≡ b → b ≡ false
    go true p = let q = permitted f n l p in let i = q.0 in let k = q.1 in sym (permits-in g n l i (omega arith)) ∙ e
    go false p = refl

-- ---- the write that the shape comes to, done or trapped

module _ {X : Type 0} (g n : ℕ) (v : Cell) (b : Core) (k : Exec X) where
  write_then : permits g n b.cells ≡ true → and_then (write g n v b) (λ u. k) ≡ k (with_cells (put_cell b.cells n v) b)
  unfolding and_then
  write_then h = ap (λ (r : Res (Unit {0})). and_then r (λ u. k)) (write_done g n v b h)

  write-not : permits g n b.cells ≡ false → and_then (write g n v b) (λ u. k) ≡ err InvalidMemoryAccess b
  unfolding and_then
  write-not h = ap (λ (r : Res (Unit {0})). and_then r (λ u. k)) (write-trapped g n v b h)

-- ---- from the shape

one_none : (h : Held) (hs : List Held) → hs ≡ [] → hs ≡ h ∷ [] → ⊥
one_none h hs e f = let z : ◌≡◌ {A = ℕ} 0 1 = ap (λ (x : List Held). length x) (sym e ∙ f) in omega arith

-- what holds of the one record h
pub record One {X : Type 0} (g : ℕ) (l : List ℤ) (e : ℕ → Res X) (h : Held) : Type 0 where
  pub what : h ≡ held_at l h.address
  pub inside : h.address < cell_count l
  pub allowed : g ≤ h.address
  pub cells : (v : Cell) × (cells_of (e g) ≡ put_cell l h.address v)
  pub fenced : (f : ℕ) → h.address < f → (d : Core) × ((e f ≡ err InvalidMemoryAccess d) × (d.cells ≡ l))

-- cells of l
abbrev pub InList : List ℤ → List Held → Type 0
InList l [] = Unit {0}
InList l (h ∷ hs) = ((h.address < cell_count l) × (h.cell ≡ cell_at l h.address)) × InList l hs

pub record Holds {X : Type 0} (g : ℕ) (l : List ℤ) (a : Res ℕ) (e : ℕ → Res X) : Type 0 where
  pub few : length (wrote_there g l a) ≤ 1
  pub one : (h : Held) → wrote_there g l a ≡ h ∷ [] → One g l e h
  pub none : wrote_there g l a ≡ [] → cells_of (e g) ≡ l
  pub free : wrote_there g l a ≡ [] → (f : ℕ) → g ≤ f → e f ≡ e g
  pub undoes : undone (wrote_there g l a) (cells_of (e g)) ≡ l
  pub inside : InList l (wrote_there g l a)

module _ {X : Type 0} (g : ℕ) (l : List ℤ) (a : Res ℕ) (e : ℕ → Res X) where
  unwritten : wrote_there g l a ≡ [] → cells_of (e g) ≡ l → ((f : ℕ) → g ≤ f → e f ≡ e g) → Holds g l a e
  unfolding undone
  unwritten w q f =
      record {
        few = let z : length (wrote_there g l a) ≡ 0 = ap (λ (x : List Held). length x) w in omega arith;
        one = λ h y. absurd (one_none h (wrote_there g l a) w y);
        none = λ y. q;
        free = λ y. f;
        undoes = ap (λ (x : List Held). undone x (cells_of (e g))) w ∙ q;
        inside = subst (InList l) (sym w) tt;
      }

  written : (n : ℕ) (v : Cell) → n < cell_count l → wrote_there g l a ≡ held_at l n ∷ [] → cells_of (e g) ≡ put_cell l n v → One g l e (held_at l n) → Holds g l a e
  unfolding undone
  written n v i w q o =
      record {
        few = let z : length (wrote_there g l a) ≡ 1 = ap (λ (x : List Held). length x) w in omega arith;
        one = λ h y. subst (One g l e) (ap (λ (x : List Held). get_or x 0 (held_at l n)) (sym w ∙ y)) o;
        none = λ y. absurd (one_none (held_at l n) (wrote_there g l a) y w);
        free = λ y. absurd (one_none (held_at l n) (wrote_there g l a) y w);
        undoes = ap (λ (x : List Held). undone x (cells_of (e g))) w ∙ ap (λ (x : List ℤ). put_cell x n (cell_at l n)) q ∙ put_back l n v i;
        inside = subst (InList l) (sym w) ((i, refl), tt);
      }

  pub holds : Shape l a e → Holds g l a e
  unfolding wrote_there
  holds (before x d p r q f) =
      unwritten (ap (wrote_there g l) p) (ap (λ (y : Res X). cells_of y) (f g) ∙ q) (λ t h. f t ∙ sym (f g))
  holds (comes n d p b q v k s f) = go (permits g n l) refl
    where
      there : (c : Bool) → permits g n l ≡ c → wrote_there g l a ≡ cond c (held_at l n ∷ []) []
      there c t = ap (wrote_there g l) p ∙ ap (λ (x : Bool). cond x (held_at l n ∷ []) []) t

      at : (t : ℕ) (c : Bool) → permits t n l ≡ c → permits t n b.cells ≡ c
      at t c h = ap (permits t n) q ∙ h

      trapped : (t : ℕ) → permits t n l ≡ false → e t ≡ err InvalidMemoryAccess b
      trapped t h = f t ∙ write-not t n v b k (at t false h)

      go : (c : Bool) → permits g n l ≡ c → Holds g l a e
      go true t =
          let i = permitted g n l t in
          let z : cells_of (e g) ≡ put_cell l n v = ap (λ (y : Res X). cells_of y) (f g ∙ write_then g n v b k (at g true t)) ∙ s.at _ ∙ ap (λ (x : List ℤ). put_cell x n v) q in
          written n v i.0 (there true t) z (record { what = refl; inside = i.0; allowed = i.1; cells = (v, z); fenced = λ t h. (b, (trapped t (permits-below t n l h), q)) })
      go false t =
          unwritten (there false t) (ap (λ (y : Res X). cells_of y) (trapped g t) ∙ q) (λ u h. trapped u (forbidden g u n l h t) ∙ sym (trapped g t))

-- ---- an instruction

pub attempt-holds : (g : ℕ) (c : Core) → Holds g c.cells (aimed c) (λ f. attempt f c)
attempt-holds g c = holds g c.cells (aimed c) (λ f. attempt f c) (shape-attempt c)

pub one-write : (g : ℕ) (c : Core) → OneWrite g c
unfolding instruction_writes
one-write g c =
    let h = attempt-holds g c in
    record {
      few = h.few;
      one = λ x y. (let o = h.one x y in record { what = o.what; inside = o.inside; allowed = o.allowed; cells = o.cells; fenced = o.fenced });
      none = h.none;
      free = h.free;
    }

-- ---- a step

entry-few : (t : Turn) → length (entry_writes t) ≤ 3
unfolding entry_writes
entry-few (completes m) = omega arith
entry-few (enters k m) = go (has_handler m.core.cells)
  where
    go : (b : Bool) → length (cond b (held_at m.core.cells 100 ∷ held_at m.core.cells 101 ∷ held_at m.core.cells 102 ∷ []) []) ≤ 3
    go true = omega arith
    go false = omega arith
entry-few (stops s m) = omega arith

pub four-at-most : FourAtMost
unfolding step_writes instruction_writes
four-at-most m =
    let a = (attempt-holds (guard m) m.core).few in
    let b = entry-few (turn m) in
    let l = length-append (wrote_there (guard m) m.core.cells (aimed m.core)) (entry_writes (turn m)) in
    omega arith
