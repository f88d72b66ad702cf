-- A cell put into the lent list, and read there again.
use mathlib.Core.Path.{◌≡◌, ap}
use mathlib.Core.Logic.{◌≢◌}
use mathlib.Core.List.{List}
use Prim.Native.Nat.{ℕ, ◌+◌, ◌*◌, ◌/◌, ◌<◌}
use native.Mathlib.Omega.{arith}
use lib.IntN.{ℤ, pos}
use lib.ListN.{length, get_or, set, length-set}
use lib.Seq.{get_or-set_same, get_or-set_other}
use Rattle.definition.specs.declared.Cell.{Cell}
use Rattle.definition.specs.Memory.{cell, cell_count, cell_at, put_cell}

pub length-put : (l : List ℤ) (n : ℕ) (v : Cell) → length (put_cell l n v) ≡ length l
unfolding put_cell
length-put l n v = simp length-set

pub count-put : (l : List ℤ) (n : ℕ) (v : Cell) → cell_count (put_cell l n v) ≡ cell_count l
count-put l n v = ap (λ x. x / 3) (length-put l n v)

get_other : (l : List ℤ) (n m : ℕ) (v : Cell) → m ≢ 3 * n → m ≢ 3 * n + 1 → m ≢ 3 * n + 2 → get_or (put_cell l n v) m (pos 0) ≡ get_or l m (pos 0)
unfolding put_cell
get_other l n m v h₀ h₁ h₂ = simp get_or-set_other

abbrev pub cell-path : {a b c a' b' c' : ℤ} → a ≡ a' → b ≡ b' → c ≡ c' → cell a b c ≡ cell a' b' c'
cell-path p q r = λ i. cell (p i) (q i) (r i)

pub cell_other : (l : List ℤ) (n k : ℕ) (v : Cell) → k ≢ n → cell_at (put_cell l n v) k ≡ cell_at l k
unfolding cell_at
cell_other l n k v h =
    cell-path (get_other l n (3 * k) v (omega arith) (omega arith) (omega arith)) (get_other l n (3 * k + 1) v (omega arith) (omega arith) (omega arith)) (get_other l n (3 * k + 2) v (omega arith) (omega arith) (omega arith))

pub cell_same : (l : List ℤ) (n : ℕ) (v : Cell) → n < cell_count l → cell_at (put_cell l n v) n ≡ v
unfolding cell_at put_cell
cell_same l n v h =
    let l₀ : 3 * n < length l = omega arith in
    let l₁ : 3 * n + 1 < length (set l (3 * n) v.tag) = simp length-set (omega arith) in
    let l₂ : 3 * n + 2 < length (set (set l (3 * n) v.tag) (3 * n + 1) v.first) = simp length-set (omega arith) in
    let d₀₁ : 3 * n ≢ 3 * n + 1 = omega arith in
    let d₀₂ : 3 * n ≢ 3 * n + 2 = omega arith in
    let d₁₂ : 3 * n + 1 ≢ 3 * n + 2 = omega arith in
    cell-path
    (simp (get_or-set_other, get_or-set_same))
    (simp (get_or-set_other, get_or-set_same))
    (simp get_or-set_same)
