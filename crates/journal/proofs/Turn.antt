-- From where a step arrives: whether it was begun. Said with tests, as code makes them.
use mathlib.Core.Path.{◌≡◌, refl, ap, ◌∙◌}
use mathlib.Core.Bool.{Bool, true, false, cond, ◌&&◌}
use Prim.Native.Nat.{ℕ, suc, ◌+◌}
use native.Mathlib.Omega.{arith}
use lib.Dec.{ltb}
use Rattle.definition.specs.Constants.{CYCLES-END}
use Rattle.definition.specs.declared.Stop.{Stop}
use Rattle.definition.specs.declared.Stop.TheVariants.{NoHandler, CyclesFull}
use Rattle.definition.specs.Exception.{stop_number}
use Rattle.definition.specs.Word.{digit}
use Rattle.definition.specs.Runtime as M
use Rattle.definition.specs.Runtime.{Machine, Turn, Outcome, completed, stopped, has_handler, entered, recover, elapses, settle, reached, limit}
use Rattle.journal.specs.Journal.{begins, begun}

-- it enters with the code n, or stops with s, or completes
abbrev pub arrives : Bool → Bool → ℕ → Stop → Machine → Turn
arrives enters stops n s w = cond enters (M.enters n w) (cond stops (M.stops s w) (M.completes w))

-- ---- begun, where the step did not stop with 6: unless it would pass the last cycle

-- the limit of cycles, of an outcome that is a step begun
limit-begun : (m : Machine) (o : Outcome) → begun o ≡ true → begun (limit m o) ≡ ltb (reached o).cycles CYCLES-END
unfolding limit begun begins
limit-begun m o h = go (ltb (reached o).cycles CYCLES-END)
  where
    go : (b : Bool) → begun (cond b o (stopped CyclesFull m)) ≡ b
    go true = h
    go false = refl

pub begun-is : (m : Machine) (enters stops : Bool) (n : ℕ) (s : Stop) (w : Machine) → (stops ≡ true → begins (stop_number s) ≡ true) → begun (limit m (settle (arrives enters stops n s w))) ≡ ltb (w.cycles + digit (enters && has_handler w.core.cells)) CYCLES-END
unfolding settle recover elapses reached entered begun begins
begun-is m true stops n s w h = go (has_handler w.core.cells)
  where
    go : (b : Bool) → begun (limit m (elapses n (cond b (completed (entered n w)) (stopped (NoHandler n) w)))) ≡ ltb (w.cycles + digit b) CYCLES-END
    go true =
        let e : suc w.cycles ≡ w.cycles + 1 = omega arith in
        limit-begun m (elapses n (completed (entered n w))) refl ∙ ap (λ (k : ℕ). ltb k CYCLES-END) e
    go false =
        let e : w.cycles ≡ w.cycles + 0 = omega arith in
        limit-begun m (elapses n (stopped (NoHandler n) w)) refl ∙ ap (λ (k : ℕ). ltb k CYCLES-END) e
begun-is m false true n s w h = let e : w.cycles ≡ w.cycles + 0 = omega arith in limit-begun m (stopped s w) (h refl) ∙ ap (λ (k : ℕ). ltb k CYCLES-END) e
begun-is m false false n s w h = let e : w.cycles ≡ w.cycles + 0 = omega arith in limit-begun m (completed w) refl ∙ ap (λ (k : ℕ). ltb k CYCLES-END) e
