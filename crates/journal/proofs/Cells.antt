-- Cells written and put back.
use mathlib.Core.Path.{◌≡◌, refl, sym, ap, ◌∙◌}
use mathlib.Core.Logic.{◌≢◌}
use mathlib.Core.List.{List, [], ◌∷◌, ◌++◌}
use Prim.Native.Nat.{ℕ, ◌+◌, ◌*◌, ◌<◌, ◌≤◌}
use native.Mathlib.Omega.{arith}
use native.Mathlib.Decide.{ℕ_discrete}
use lib.IntN.{ℤ, pos}
use lib.ListN.{get_or}
use lib.Seq.{ext_get_or, get_or-set_other}
use Rattle.definition.specs.declared.Cell.{Cell}
use Rattle.definition.specs.Memory.{word, cell_count, cell_at, put_cell}
use Rattle.definition.specs.Runtime.{saved}
use Rattle.definition.proofs.Cells.{length-put, count-put, cell_same, cell_other}
use Rattle.journal.specs.Writes.{Held, held_at, undone}

number-other : (l : List ℤ) (n m : ℕ) (v : Cell) → m ≢ 3 * n → m ≢ 3 * n + 1 → m ≢ 3 * n + 2 → get_or (put_cell l n v) m (pos 0) ≡ get_or l m (pos 0)
unfolding put_cell
number-other l n m v h₀ h₁ h₂ = simp get_or-set_other

-- what a written cell held, put back
pub put_back : (l : List ℤ) (n : ℕ) (v : Cell) → n < cell_count l → put_cell (put_cell l n v) n (cell_at l n) ≡ l
unfolding cell_at
put_back l n v h =
    ext_get_or (pos 0) (put_cell (put_cell l n v) n (cell_at l n)) l (length-put (put_cell l n v) n _ ∙ length-put l n v) (λ i b. at i (ℕ_discrete i (3 * n)) (ℕ_discrete i (3 * n + 1)) (ℕ_discrete i (3 * n + 2)))
  where
    there : cell_at (put_cell (put_cell l n v) n (cell_at l n)) n ≡ cell_at l n
    there = cell_same (put_cell l n v) n (cell_at l n) (rw (count-put l n v) h)

    at : (i : ℕ) → Dec (i ≡ 3 * n) → Dec (i ≡ 3 * n + 1) → Dec (i ≡ 3 * n + 2) → get_or (put_cell (put_cell l n v) n (cell_at l n)) i (pos 0) ≡ get_or l i (pos 0)
    at i (yes e) b c =
        ap (λ (x : ℕ). get_or (put_cell (put_cell l n v) n (cell_at l n)) x (pos 0)) e ∙ ap (λ (x : Cell). x.tag) there ∙ sym (ap (λ (x : ℕ). get_or l x (pos 0)) e)
    at i (no a) (yes e) c =
        ap (λ (x : ℕ). get_or (put_cell (put_cell l n v) n (cell_at l n)) x (pos 0)) e ∙ ap (λ (x : Cell). x.first) there ∙ sym (ap (λ (x : ℕ). get_or l x (pos 0)) e)
    at i (no a) (no b) (yes e) =
        ap (λ (x : ℕ). get_or (put_cell (put_cell l n v) n (cell_at l n)) x (pos 0)) e ∙ ap (λ (x : Cell). x.second) there ∙ sym (ap (λ (x : ℕ). get_or l x (pos 0)) e)
    at i (no a) (no b) (no c) = number-other (put_cell l n v) n i (cell_at l n) a b c ∙ number-other l n i v a b c

-- a cell put back by another name
back_as : (l : List ℤ) (n : ℕ) (v u : Cell) → n < cell_count l → u ≡ cell_at l n → put_cell (put_cell l n v) n u ≡ l
back_as l n v u h e = ap (put_cell (put_cell l n v) n) e ∙ put_back l n v h

pub undone-append : (a b : List Held) (l : List ℤ) → undone (a ++ b) l ≡ undone a (undone b l)
unfolding undone
undone-append [] b l = refl
undone-append (h ∷ a) b l = ap (λ (x : List ℤ). put_cell x h.address h.cell) (undone-append a b l)

pub undone-count : (hs : List Held) (l : List ℤ) → cell_count (undone hs l) ≡ cell_count l
unfolding undone
undone-count [] l = refl
undone-count (h ∷ hs) l = count-put (undone hs l) h.address h.cell ∙ undone-count hs l

-- what exception entry saves, put back
pub saved-back : (pc : ℕ) (sr : ℤ) (k : ℕ) (l : List ℤ) → 256 ≤ cell_count l → undone (held_at l 100 ∷ held_at l 101 ∷ held_at l 102 ∷ []) (saved pc sr k l) ≡ l
unfolding undone saved
saved-back pc sr k l h =
    let a = put_cell l 100 (word (pos pc)) in
    let b = put_cell a 101 (word sr) in
    let ca : cell_count a ≡ cell_count l = count-put l 100 (word (pos pc)) in
    let cb : cell_count b ≡ cell_count l = count-put a 101 (word sr) ∙ ca in
    let e₂ : cell_at l 102 ≡ cell_at b 102 = sym (cell_other a 101 102 (word sr) (λ e. omega arith) ∙ cell_other l 100 102 (word (pos pc)) (λ e. omega arith)) in
    let e₁ : cell_at l 101 ≡ cell_at a 101 = sym (cell_other l 100 101 (word (pos pc)) (λ e. omega arith)) in
    ap (λ (x : List ℤ). put_cell (put_cell x 101 (cell_at l 101)) 100 (cell_at l 100)) (back_as b 102 (word (pos k)) (cell_at l 102) (omega arith) e₂)
    ∙ ap (λ (x : List ℤ). put_cell x 100 (cell_at l 100)) (back_as a 101 (word sr) (cell_at l 101) (omega arith) e₁)
    ∙ put_back l 100 (word (pos pc)) (omega arith)
