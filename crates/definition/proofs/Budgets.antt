-- Budgets add: a run passes through the machine of each smaller budget, and paused runs are one run.
use mathlib.Core.Path.{◌≡◌, refl, sym, ap, ◌∙◌}
use mathlib.Core.Logic.{◌≢◌}
use mathlib.Core.Bool.{Bool, true, false, cond}
use mathlib.Core.List.{List, [], ◌∷◌, foldr}
use Prim.Native.Nat.{ℕ, zero, suc, ◌+◌, ◌≤◌}
use native.Mathlib.Omega.{arith}
use lib.Dec.{eqb}
use borrow.Author.Tests.{eqb-true, eqb-false}
use Rattle.definition.specs.declared.Ran.{Ran}
use Rattle.definition.specs.Total.{TOTAL-MOST, total}
use Rattle.definition.specs.Exception.{BUDGET-SPENT}
use Rattle.definition.specs.Runtime.{Machine, Outcome, completed, stopped, step, Run, runs, uncounted, later, go_on, run}
use Rattle.definition.specs.Calls.{Lent, lent_machine, Called, passes, run_check, ran, run_refused, run_call}
use Rattle.definition.specs.UserMode.{Accepted}
use Rattle.definition.specs.Accepted.{AcceptedMachine}
use Rattle.definition.specs.Budgets.{later_call, Adds, in_turn, BudgetsAdd}
use Rattle.definition.proofs.Total.{total-zero, total-assoc}
use Rattle.definition.proofs.Row.{accepted-machine}
use Rattle.definition.proofs.Accepted.{OutcomeHas, Stepped, uncounted-in, step-accepted, stop-some, run_ends, run-most, call-is, call-on}

-- ---- machines

pub later-zero : (r : Run) → r.empty ≤ TOTAL-MOST → later 0 0 r ≡ r
unfolding later
later-zero r h =
    let e : 0 + r.steps ≡ r.steps = omega arith in
    λ i. runs r.stop r.detail (e i) (total-zero r.empty h i) r.left

later-suc : (n t u : ℕ) (r : Run) → later 1 t (later n u r) ≡ later (suc n) (total t u) r
unfolding later
later-suc n t u r =
    let e : 1 + (n + r.steps) ≡ suc n + r.steps = omega arith in
    λ i. runs r.stop r.detail (e i) (total-assoc t u r.empty i) r.left

-- what a run's parts are behind a step
later-stop : (t : ℕ) (r : Run) → (later 1 t r).stop ≡ r.stop
unfolding later
later-stop t r = refl

later-left : (t : ℕ) (r : Run) → (later 1 t r).left ≡ r.left
unfolding later
later-left t r = refl

later-empty : (t : ℕ) (r : Run) → (later 1 t r).empty ≡ total t r.empty
unfolding later
later-empty t r = refl

-- a budget passes through the machine of each smaller one
go-on-through : (n b k : ℕ) (o : Outcome) → OutcomeHas Stepped o → ((m : Machine) → AcceptedMachine m → (run n m).stop ≡ 0 → run b m ≡ later n (run n m).empty (run k (run n m).left)) → (go_on o (run n)).stop ≡ 0 → go_on o (run b) ≡ later (suc n) (go_on o (run n)).empty (run k (go_on o (run n)).left)
unfolding go_on
go-on-through n b k (completed m) a ih e =
    let t = m.core.regs.empties in
    let r = run n (uncounted m) in
    ap (later 1 t) (ih (uncounted m) (uncounted-in m a) (sym (later-stop t r) ∙ e)) ∙ later-suc n t r.empty _ ∙ sym (λ i. later (suc n) (later-empty t r i) (run k (later-left t r i)))
go-on-through n b k (stopped s m) a ih e = let l = stop-some s in absurd (omega arith)

run-through : (n k b : ℕ) → n + k ≡ b → (m : Machine) → AcceptedMachine m → (run n m).stop ≡ 0 → run b m ≡ later n (run n m).empty (run k (run n m).left)
unfolding run
run-through zero k b h m a e = let q : b ≡ k = omega arith in ap (λ (x : ℕ). run x m) q ∙ sym (later-zero (run k m) (run-most k m))
run-through (suc n) k zero h m a e = absurd (omega arith)
run-through (suc n) k (suc b) h m a e =
    go-on-through n b k (step m) (step-accepted m a) (λ m' a' e'. run-through n k b (omega arith) m' a' e') e

go-on-ended : (n b : ℕ) (o : Outcome) → OutcomeHas Stepped o → ((m : Machine) → AcceptedMachine m → (run n m).stop ≢ 0 → run b m ≡ run n m) → (go_on o (run n)).stop ≢ 0 → go_on o (run b) ≡ go_on o (run n)
unfolding go_on
go-on-ended n b (completed m) a ih e =
    let t = m.core.regs.empties in
    ap (later 1 t) (ih (uncounted m) (uncounted-in m a) (λ z. e (later-stop t (run n (uncounted m)) ∙ z)))
go-on-ended n b (stopped s m) a ih e = refl

run-ended : (n k b : ℕ) → n + k ≡ b → (m : Machine) → AcceptedMachine m → (run n m).stop ≢ 0 → run b m ≡ run n m
unfolding run
run-ended zero k b h m a e = absurd (e refl)
run-ended (suc n) k zero h m a e = absurd (omega arith)
run-ended (suc n) k (suc b) h m a e =
    go-on-ended n b (step m) (step-accepted m a) (λ m' a' e'. run-ended n k b (omega arith) m' a' e') e

-- ---- calls

-- a run behind another that spent its budget
later-ran : (n : ℕ) (q r : Run) → q.steps ≡ n → ran (later n q.empty r) ≡ later_call (ran q).answer (ran r)
unfolding ran later
later-ran n q r e = ap (λ (x : ℕ). ran (later x q.empty r)) (sym e)

accepted-adds : (m n : ℕ) (l : Lent) → Accepted l → Adds m n l
unfolding ran
accepted-adds m n l h =
    let x = lent_machine l in
    let a = accepted-machine l h in
    let c = call-is (m + n) l h in
    let d = call-is m l h in
    record {
      through = λ e.
          (let s : (run m x).stop ≡ 0 = sym (ap (λ (y : Called Ran Lent). y.answer.stop) d) ∙ e in
          let z = run_ends m x a in
          ap (λ (y : Called Ran Lent). later_call y.answer (run_call n y.left)) d ∙ ap (later_call (ran (run m x)).answer) (call-on n (run m x).left z.left_in) ∙ sym (c ∙ ap ran (run-through m n (m + n) refl x a s) ∙ later-ran m (run m x) (run n (run m x).left) (z.spent s)));
      ended = λ e.
          d ∙ sym (c ∙ ap ran (run-ended m n (m + n) refl x a (λ z. e (ap (λ (y : Called Ran Lent). y.answer.stop) d ∙ z))));
    }

-- a refused call, whatever its budget
refused-is : (b : ℕ) (l : Lent) → passes (run_check l) ≡ false → run_call b l ≡ run_refused (run_check l) l
unfolding run_call
refused-is b l h = ap (λ (t : Bool). cond t (ran (run b (lent_machine l))) (run_refused (run_check l) l)) h

refused-adds : (m n : ℕ) (l : Lent) → passes (run_check l) ≡ false → Adds m n l
unfolding run_refused total
refused-adds m n l h =
    let r = refused-is m l h in
    record {
      through = λ e.
          ap (λ (x : Called Ran Lent). later_call x.answer (run_call n x.left)) r ∙ ap (later_call (run_refused (run_check l) l).answer) (refused-is n l h) ∙ sym (refused-is (m + n) l h);
      ended = λ e. absurd (e (ap (λ (x : Called Ran Lent). x.answer.stop) r));
    }

two-add : (m n : ℕ) (l : Lent) → Adds m n l
two-add m n l = go (passes (run_check l)) refl
  where
    go : (b : Bool) → passes (run_check l) ≡ b → Adds m n l
    go true h = accepted-adds m n l h
    go false h = refused-adds m n l h

all-add : (m : ℕ) (ns : List ℕ) (l : Lent) → in_turn m ns l ≡ run_call (m + foldr ◌+◌ 0 ns) l
unfolding in_turn
all-add m [] l = let z : m ≡ m + 0 = omega arith in ap (λ (x : ℕ). run_call x l) z
all-add m (n ∷ ns) l = go (eqb (run_call m l).answer.stop BUDGET-SPENT) refl (all-add n ns (run_call m l).left)
  where
    c : Called Ran Lent
    c = run_call m l

    rest : ℕ
    rest = n + foldr ◌+◌ 0 ns

    go : (b : Bool) → eqb c.answer.stop BUDGET-SPENT ≡ b → in_turn n ns c.left ≡ run_call rest c.left → cond b (later_call c.answer (in_turn n ns c.left)) c ≡ run_call (m + rest) l
    go true e ih = ap (later_call c.answer) ih ∙ (two-add m rest l).through (eqb-true _ _ e)
    go false e ih = (two-add m rest l).ended (eqb-false _ _ e)

pub budgets-add : BudgetsAdd
budgets-add = record { two = two-add; all = all-add }
