-- run on what it is lent.
use mathlib.Core.Path.{◌≡◌, refl, sym, ap, ◌∙◌, subst}
use mathlib.Core.List.{List, []}
use Prim.Native.Nat.{ℕ}
use lib.IntN.{ℤ}
use Rattle.definition.specs.Runtime as M
use Rattle.definition.specs.Runtime.{Run}
use Rattle.definition.specs.Calls.{machine_of, row_of, called, lent, ran, run_call}
use Rattle.definition.specs.UserMode.{Accepted}
use Rattle.definition.specs.Accepted.{AcceptedMachine}
use Rattle.definition.proofs.Row.{accepted-machine}
use Rattle.definition.proofs.Accepted.{call-is, run_ends}
use Rattle.row.specs.declared.State.{State}
use Rattle.row.specs.Meaning.{row_state, machine_at}
use Rattle.computer.specs.declared.Ended.{Ended}
use Rattle.computer.specs.Meaning.{run_of, ran_of}

-- the row written anew looks at no list
pub row_at : (l : List ℤ) (q o : List ℕ) (m : State) → row_of (machine_at [] [] [] m) ≡ row_of (machine_at l q o m)
unfolding row_of
row_at l q o m = refl

pub state-is : (l : List ℤ) (q o : List ℕ) (row : List ℤ) → machine_at l q o (row_state row) ≡ machine_of l q o row
unfolding machine_of
state-is l q o row = refl

module _ (l : List ℤ) (q o : List ℕ) (row : List ℤ) (h : Accepted (lent l q o row)) where
  pub run-accepted : AcceptedMachine (machine_at l q o (row_state row))
  run-accepted = subst AcceptedMachine (sym (state-is l q o row)) (accepted-machine (lent l q o row) h)

  module _ (b : ℕ) (l' : List ℤ) (o' : List ℕ) (e : Ended) (m : State) (f : run_of e (machine_at l' q o' m) ≡ M.run b (machine_at l q o (row_state row))) where
    pub left-accepted : AcceptedMachine (machine_at l' q o' m)
    left-accepted = subst (λ (r : Run). AcceptedMachine r.left) (sym f) (run_ends b (machine_at l q o (row_state row)) run-accepted).left_in

    pub run-answer : (row' : List ℤ) → row' ≡ row_of (machine_at [] [] [] m)
        → called (ran_of e) (lent l' q o' row') ≡ run_call b (lent l q o row)
    unfolding ran
    run-answer row' g =
        ap (λ (x : List ℤ). called (ran_of e) (lent l' q o' x)) (g ∙ row_at l' q o' m)
        ∙ ap ran (f ∙ ap (M.run b) (state-is l q o row))
        ∙ sym (call-is b (lent l q o row) h)
