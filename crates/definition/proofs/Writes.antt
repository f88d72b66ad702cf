-- A write, case by case: it is done inside the cells and from the guard on; outside them or below the guard it raises code 5.
use mathlib.Core.Path.{◌≡◌, ap}
use mathlib.Core.Bool.{Bool, true, false, cond, ◌&&◌}
use mathlib.Core.List.{List}
use Prim.Native.Nat.{ℕ, ◌<◌, ◌≤◌}
use lib.IntN.{ℤ}
use lib.Dec.{ltb, leb}
use borrow.Author.Tests.{lt-ltb, le-ltb, le-leb}
use Rattle.definition.specs.declared.Cell.{Cell}
use Rattle.definition.specs.declared.Error.TheVariants.{InvalidMemoryAccess}
use Rattle.definition.specs.Memory.{cell_count, put_cell}
use Rattle.definition.specs.Registers.{supervisor}
use Rattle.definition.specs.Exec.{Core, with_cells, ok, err, branch, permits, write}
use Rattle.definition.specs.Runtime.{Machine, guard}
use Rattle.definition.proofs.Verdict.{and_both, and_second}
use Rattle.definition.proofs.Total.{gt-leb}

module _ (g n : ℕ) (l : List ℤ) where
  pub permits-in : n < cell_count l → g ≤ n → permits g n l ≡ true
  unfolding permits
  permits-in h k = and_both _ _ (lt-ltb n (cell_count l) h) (le-leb g n k)

  pub permits-outside : cell_count l ≤ n → permits g n l ≡ false
  unfolding permits
  permits-outside h = ap (λ (b : Bool). b && leb g n) (le-ltb n (cell_count l) h)

  pub permits-below : n < g → permits g n l ≡ false
  unfolding permits
  permits-below h = and_second (ltb n (cell_count l)) _ (gt-leb g n h)

module _ (g n : ℕ) (v : Cell) (c : Core) where
  pub write_done : permits g n c.cells ≡ true → write g n v c ≡ ok tt (with_cells (put_cell c.cells n v) c)
  unfolding write branch
  write_done h = ap (λ (b : Bool). branch b (λ c. ok tt (with_cells (put_cell c.cells n v) c)) (λ c. err InvalidMemoryAccess c) c) h

  pub write-trapped : permits g n c.cells ≡ false → write g n v c ≡ err InvalidMemoryAccess c
  unfolding write branch
  write-trapped h = ap (λ (b : Bool). branch b (λ c. ok tt (with_cells (put_cell c.cells n v) c)) (λ c. err InvalidMemoryAccess c) c) h

-- S of the step's beginning decides
pub guard-clear : (m : Machine) → supervisor m.core.regs ≡ false → guard m ≡ m.fence
unfolding guard
guard-clear m s = ap (λ (b : Bool). cond b 0 m.fence) s
