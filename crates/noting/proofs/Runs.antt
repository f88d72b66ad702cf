-- Laws of a run with a journal.
use mathlib.Core.Path.{◌≡◌, sym, ap, ◌∙◌}
use mathlib.Core.Bool.{Bool, true, false, cond}
use mathlib.Core.List.{List, []}
use Prim.Native.Nat.{ℕ, suc, ◌+◌, ◌-◌, ◌<◌, ◌≤◌}
use native.Mathlib.Omega.{arith}
use lib.IntN.{ℤ}
use Rattle.definition.specs.declared.Stop.{Stop}
use Rattle.definition.specs.Runtime as M
use Rattle.definition.specs.Runtime.{Machine, Outcome, step, uncounted}
use Rattle.definition.specs.Calls.{row_of, called, lent}
use Rattle.definition.specs.UserMode.{Accepted}
use Rattle.row.specs.declared.State.{State}
use Rattle.row.specs.Meaning.{row_state, machine_at}
use Rattle.computer.specs.declared.Ended.{Ended}
use Rattle.computer.specs.Meaning.{run_of, ran_of}
use Rattle.machine.proofs.Laws.{state-is, run-answer}
use Rattle.journal.specs.Journal.{remember, is_journal, begun, step_record, noted, go_on_noting, journal}
use Rattle.journal.specs.Calls.{run_journal}
use Rattle.journal.proofs.Ring.{ring}
use Rattle.journal.proofs.Unwind.{step-long}
use Rattle.journal.proofs.StepBack.{run_is}

-- A journal stays one over a step.
pub noted_in : (m : Machine) (j : List ℤ) → is_journal j ≡ true → {x : List ℤ} → x ≡ noted m j → is_journal x ≡ true
unfolding noted
noted_in m j h e = ap is_journal e ∙ go (begun (step m))
  where
    go : (b : Bool) → is_journal (cond b (remember (step_record m) j) j) ≡ true
    go true = (ring (step_record m) j h (step-long m)).fits
    go false = h

pub journal_start : (b : ℕ) (m : Machine) (j : List ℤ) → journal (b - 0) m j ≡ journal b m j
journal_start b m j = let e : b - 0 ≡ b = omega arith in ap (λ (x : ℕ). journal x m j) e

-- after k of b steps
module _ (k b : ℕ) (m n : Machine) (j : List ℤ) (h : k < b) where
  next : b - k ≡ suc (b - (k + 1))
  next = omega arith

  pub journal_went : M.completed n ≡ step m → {x : List ℤ} → x ≡ noted m j → journal (b - (k + 1)) (uncounted n) x ≡ journal (b - k) m j
  unfolding journal go_on_noting
  journal_went e f =
      ap (journal (b - (k + 1)) (uncounted n)) f
      ∙ ap (λ (o : Outcome). go_on_noting o (noted m j) (journal (b - (k + 1)))) e
      ∙ sym (ap (λ (x : ℕ). journal x m j) next)

  pub journal_ended : (s : Stop) → M.stopped s n ≡ step m → {x : List ℤ} → x ≡ noted m j → x ≡ journal (b - k) m j
  unfolding journal go_on_noting
  journal_ended s e f =
      f
      ∙ ap (λ (o : Outcome). go_on_noting o (noted m j) (journal (b - (k + 1)))) e
      ∙ sym (ap (λ (x : ℕ). journal x m j) next)

pub journal_spent : (k b : ℕ) (m : Machine) (j : List ℤ) → b ≤ k → j ≡ journal (b - k) m j
unfolding journal
journal_spent k b m j h = let e : b - k ≡ 0 = omega arith in sym (ap (λ (x : ℕ). journal x m j) e)

-- a run on what it is lent, whose row is written anew
module _ (l : List ℤ) (q o : List ℕ) (row j : List ℤ) (a : Accepted (lent l q o row)) (h : is_journal j ≡ true) where
  pub lent-answer : (b : ℕ) (l' : List ℤ) (o' : List ℕ) (e : Ended) (m : State) → run_of e (machine_at l' q o' m) ≡ M.run b (machine_at l q o (row_state row)) → (row' : List ℤ) → row' ≡ row_of (machine_at [] [] [] m) → (j' : List ℤ) → j' ≡ journal b (machine_at l q o (row_state row)) j → called (ran_of e) (lent l' q o' row', j') ≡ run_journal b (lent l q o row) j
  lent-answer b l' o' e m f row' g j' k =
      let r = run-answer l q o row a b l' o' e m f row' g in
      let n = k ∙ ap (λ (x : Machine). journal b x j) (state-is l q o row) in
      (λ i. called (r i).answer ((r i).left, n i)) ∙ sym (run_is b (lent l q o row) j a h)
