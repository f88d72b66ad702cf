-- Raise on what it is lent.
use mathlib.Core.Path.{◌≡◌, refl, sym, ap, ◌∙◌, subst}
use mathlib.Core.Bool.{Bool, true, false, cond}
use mathlib.Core.List.{List, []}
use Prim.Native.Nat.{ℕ, ◌<◌}
use native.Mathlib.Omega.{arith}
use lib.IntN.{ℤ}
use lib.Dec.{ltb}
use borrow.Author.Tests.{ltb-true}
use Rattle.definition.specs.declared.Stop.{Stop}
use Rattle.definition.specs.declared.Stop.TheVariants.{NoHandler, CyclesFull}
use Rattle.definition.specs.Constants.{CYCLES-END}
use Rattle.definition.specs.Exception.{stop_number, stop_detail}
use Rattle.definition.specs.Runtime as M
use Rattle.definition.specs.Runtime.{Machine, machine}
use Rattle.definition.specs.Calls.{machine_of, row_of, accepted, called, passes, raise_check, raise_answer, raised, raise}
use Rattle.row.specs.declared.State.{State}
use Rattle.row.specs.Meaning.{row_state, machine_at}

-- what a raise from the state m comes to
abbrev pub raised_from : List ℤ → ℕ → State → M.Outcome
raised_from l code m = M.limit (machine_at l [] [] m) (M.recover code (machine_at l [] [] m))

module _ (l row : List ℤ) (code : ℕ) (p : accepted ≡ raise_check l row code) where
  abbrev pub before : Machine
  before = machine_at l [] [] (row_state row)

  abbrev pub outcome : M.Outcome
  outcome = raised_from l code (row_state row)

  raise-is : raised l row outcome ≡ raise l row code
  unfolding raise machine_of
  raise-is =
      sym (ap (λ (t : Bool). cond t (raised l row outcome) (called (raise_answer (raise_check l row code) 0 0) (l, row))) (sym (ap passes p)))

  -- the row written anew looks at no list
  row-same : (l' : List ℤ) (m : State) → row_of (machine_at [] [] [] m) ≡ row_of (machine_at l' [] [] m)
  unfolding row_of
  row-same l' m = refl

  pub raise-done : (l' : List ℤ) (m : State) (row' : List ℤ) → M.completed (machine_at l' [] [] m) ≡ outcome → row' ≡ row_of (machine_at [] [] [] m) → called (raise_answer accepted 0 0) (l', row') ≡ raise l row code
  unfolding raised
  raise-done l' m row' h f =
      ap (λ (x : List ℤ). called (raise_answer accepted 0 0) (l', x)) (f ∙ row-same l' m) ∙ ap (raised l row) h ∙ raise-is

  -- a raise that stops leaves the machine
  stopped-same : (y : Machine) (s : Stop) → M.stopped s y ≡ outcome → y ≡ before
  unfolding M.limit M.recover M.reached
  stopped-same y s e = go (ltb (M.reached (M.recover code before)).cycles CYCLES-END) (M.has_handler before.core.cells) e
    where
      go : (b c : Bool) → M.stopped s y ≡ cond b (cond c (M.completed (M.entered code before)) (M.stopped (NoHandler code) before)) (M.stopped CyclesFull before) → y ≡ before
      go true true f = cc
      go true false f = ap M.reached f
      go false c f = ap M.reached f

  pub raise-stopped : (l' : List ℤ) (m : State) (s : Stop) → M.stopped s (machine_at l' [] [] m) ≡ outcome → called (raise_answer accepted (stop_number s) (stop_detail s)) (l', row) ≡ raise l row code
  unfolding raised
  raise-stopped l' m s h =
      ap (λ (x : Machine). called (raise_answer accepted (stop_number s) (stop_detail s)) (x.core.cells, row)) (stopped-same (machine_at l' [] [] m) s h) ∙ ap (raised l row) h ∙ raise-is

  -- what a raise that is done leaves fits the row
  limit-done : (x : Machine) (o : M.Outcome) → M.completed x ≡ M.limit before o → (M.completed x ≡ o) × (x.cycles < CYCLES-END)
  unfolding M.limit M.reached
  limit-done x o e = go (ltb (M.reached o).cycles CYCLES-END) refl e
    where
      go : (b : Bool) → ltb (M.reached o).cycles CYCLES-END ≡ b → M.completed x ≡ cond b o (M.stopped CyclesFull before) → (M.completed x ≡ o) × (x.cycles < CYCLES-END)
      go true t f = (f, subst (λ (y : M.Outcome). (M.reached y).cycles < CYCLES-END) (sym f) (ltb-true _ _ t))
      go false t f = let z : ◌≡◌ {A = ℕ} 0 1 = cc in absurd (omega arith)

  recover-done : (x : Machine) → M.completed x ≡ M.recover code before → (x.console ≡ before.console) × (x.timer ≡ before.timer)
  unfolding M.recover M.entered M.reached
  recover-done x e = go (M.has_handler before.core.cells) e
    where
      go : (b : Bool) → M.completed x ≡ cond b (M.completed (M.entered code before)) (M.stopped (NoHandler code) before) → (x.console ≡ before.console) × (x.timer ≡ before.timer)
      go true f = (ap (λ (y : M.Outcome). (M.reached y).console) f, ap (λ (y : M.Outcome). (M.reached y).timer) f)
      go false f = let z : ◌≡◌ {A = ℕ} 0 1 = cc in absurd (omega arith)

  pub raise-fits : (x : Machine) → M.completed x ≡ outcome → (x.cycles < CYCLES-END) × ((x.console ≡ before.console) × (x.timer ≡ before.timer))
  raise-fits x h = let d = limit-done x (M.recover code before) h in (d.1, recover-done x d.0)
