-- A run whose steps are all begun with S clear: it is the same run in every console, and ends in user mode or with exception entry.
use mathlib.Core.Path.{◌≡◌, refl, sym, ap, ◌∙◌, subst}
use mathlib.Core.Bool.{false, true≢false}
use Prim.Native.Nat.{ℕ, zero, suc, ◌+◌, ◌<◌}
use native.Mathlib.Omega.{arith}
use Rattle.definition.specs.Total.{total}
use Rattle.definition.specs.Exception.{stop_number, stop_detail}
use Rattle.definition.specs.Registers.{supervisor}
use Rattle.definition.specs.Io.{Console}
use Rattle.definition.specs.Runtime.{Machine, Outcome, completed, stopped, step, Run, runs, uncounted, later, go_on, run}
use Rattle.definition.proofs.AcceptedCore.{InUser, user-laws}
use Rattle.definition.proofs.UserStep.{around, outcome_around, step_is, Entered, Ends, stays, entry, OutcomeEnds, step-ends, entry-sets}

abbrev pub run_around : Console → Run → Run
run_around k r = runs r.stop r.detail r.steps r.empty (around k r.left)

-- run on any smaller budget, S is left clear
abbrev pub Within : ℕ → Machine → Type 0
Within b m = (n : ℕ) → n < b → supervisor (run n m).left.core.regs ≡ false

-- the last step of the run entered an exception
pub record Last (b : ℕ) (v : Machine) : Type 0 where
  pub n : ℕ
  pub budget : b ≡ suc n
  pub last : Machine
  pub empty : ℕ
  pub before : run n v ≡ runs 0 0 n empty last
  pub user : InUser last
  pub reached : Machine
  pub entry : Entered last reached
  pub leaves : (run b v).left ≡ uncounted reached
  pub steps : (run b v).steps ≡ b

pub data RunEnd (b : ℕ) (v : Machine) : Type 0 where
  in-user : InUser (run b v).left → RunEnd b v
  entered : Last b v → RunEnd b v

pub record RunIs (b : ℕ) (v : Machine) : Type 0 where
  pub is : (k : Console) → run b (around k v) ≡ run_around k (run b v)
  pub end : RunEnd b v

-- ---- one step more, from v to w

abbrev told : Machine → ℕ
told w = w.core.regs.empties

run-suc : (b : ℕ) (k : Console) (v w : Machine) → InUser v → step v ≡ completed w → run (suc b) (around k v) ≡ later 1 (told w) (run b (around k (uncounted w)))
unfolding run go_on
run-suc b k v w u e = ap (λ (o : Outcome). go_on o (run b)) (step_is k v u ∙ ap (outcome_around k) e)

user-suc : (b : ℕ) (v w : Machine) → step v ≡ completed w → run (suc b) v ≡ later 1 (told w) (run b (uncounted w))
unfolding run go_on
user-suc b v w e = ap (λ (o : Outcome). go_on o (run b)) e

later-around : (k : Console) (t : ℕ) (r : Run) → later 1 t (run_around k r) ≡ run_around k (later 1 t r)
unfolding later
later-around k t r = refl

run-left : (b : ℕ) (k : Console) (v w : Machine) → InUser v → step v ≡ completed w → (run (suc b) (around k v)).left ≡ (run b (around k (uncounted w))).left
unfolding later
run-left b k v w u e = ap (λ (r : Run). r.left) (run-suc b k v w u e)

within-suc : (b : ℕ) (k : Console) (v w : Machine) → InUser v → step v ≡ completed w → Within (suc b) (around k v) → Within b (around k (uncounted w))
within-suc b k v w u e h n l =
    ap (λ (m : Machine). supervisor m.core.regs) (sym (run-left n k v w u e)) ∙ h (suc n) (omega arith)

last-suc : (b : ℕ) (v w : Machine) → step v ≡ completed w → Last b (uncounted w) → Last (suc b) v
unfolding later
last-suc b v w e l =
    let q = user-suc b v w e in
    let s : 1 + l.n ≡ suc l.n = omega arith in
    let t : 1 + (run b (uncounted w)).steps ≡ suc b = (let z = l.steps in omega arith) in
    record {
      n = suc l.n;
      budget = ap suc l.budget;
      last = l.last;
      empty = total (told w) l.empty;
      before = user-suc l.n v w e ∙ ap (later 1 (told w)) l.before ∙ ap (λ (x : ℕ). runs 0 0 x (total (told w) l.empty) l.last) s;
      user = l.user;
      reached = l.reached;
      entry = l.entry;
      leaves = ap (λ (r : Run). r.left) q ∙ l.leaves;
      steps = ap (λ (r : Run). r.steps) q ∙ t;
    }

end-suc : (b : ℕ) (v w : Machine) → step v ≡ completed w → RunEnd b (uncounted w) → RunEnd (suc b) v
unfolding later
end-suc b v w e (in-user u) = in-user (subst (λ (r : Run). InUser r.left) (sym (user-suc b v w e)) u)
end-suc b v w e (entered l) = entered (last-suc b v w e l)

is-suc : (b : ℕ) (v w : Machine) → InUser v → step v ≡ completed w → ((k : Console) → run b (around k (uncounted w)) ≡ run_around k (run b (uncounted w))) → (k : Console) → run (suc b) (around k v) ≡ run_around k (run (suc b) v)
is-suc b v w u e h k =
    run-suc b k v w u e ∙ ap (later 1 (told w)) (h k) ∙ later-around k (told w) (run b (uncounted w)) ∙ sym (ap (run_around k) (user-suc b v w e))

run-zero : (k : Console) (v : Machine) → run 0 (around k v) ≡ run_around k (run 0 v)
unfolding run
run-zero k v = refl

left-zero : (m : Machine) → (run 0 m).left ≡ m
unfolding run
left-zero m = refl

-- the budget of one that enters
enters-last : (v w : Machine) → InUser v → step v ≡ completed w → Entered v w → RunIs 1 v
unfolding run later
enters-last v w u e en =
    let q = user-suc 0 v w e in
    record {
      is = is-suc 0 v w u e (λ k. run-zero k (uncounted w));
      end = entered (record { n = 0; budget = refl; last = v; empty = 0; before = refl; user = u; reached = w; entry = en; leaves = ap (λ (r : Run). r.left) q; steps = ap (λ (r : Run). r.steps) q });
    }

completed-is : (k₁ : Console) (b : ℕ) (v w : Machine) → InUser v → Within (suc b) (around k₁ v) → ((w : Machine) → InUser w → Within b (around k₁ w) → RunIs b w) → step v ≡ completed w → Ends v w → RunIs (suc b) v
unfolding supervisor
completed-is k₁ b v w u h ih e (stays u') =
    let r = ih (uncounted w) ((user-laws 0 w.fence).to-empties w.core u' 0) (within-suc b k₁ v w u e h) in
    record { is = is-suc b v w u e r.is; end = end-suc b v w e r.end }
completed-is k₁ zero v w u h ih e (entry en) = enters-last v w u e en
completed-is k₁ (suc b) v w u h ih e (entry en) =
    absurd (true≢false (sym (entry-sets v w en) ∙ ap (λ (m : Machine). supervisor m.core.regs) (sym (run-left 0 k₁ v w u e ∙ left-zero (around k₁ (uncounted w)))) ∙ h 1 (omega arith)))

outcome-is : (k₁ : Console) (b : ℕ) (v : Machine) → InUser v → Within (suc b) (around k₁ v) → ((w : Machine) → InUser w → Within b (around k₁ w) → RunIs b w) → (o : Outcome) → step v ≡ o → OutcomeEnds v o → RunIs (suc b) v
unfolding run go_on
outcome-is k₁ b v u h ih (completed w) e f = completed-is k₁ b v w u h ih e f
outcome-is k₁ b v u h ih (stopped s w) e f =
    let q : run (suc b) v ≡ runs (stop_number s) (stop_detail s) 0 0 (uncounted w) = ap (λ (o : Outcome). go_on o (run b)) e in
    record {
      is = λ k. ap (λ (o : Outcome). go_on o (run b)) (step_is k v u ∙ ap (outcome_around k) e) ∙ sym (ap (run_around k) q);
      end = in-user (subst (λ (r : Run). InUser r.left) (sym q) ((user-laws 0 w.fence).to-empties w.core f 0));
    }

pub user-run : (k₁ : Console) (b : ℕ) (v : Machine) → InUser v → Within b (around k₁ v) → RunIs b v
unfolding run
user-run k₁ zero v u h = record { is = λ k. run-zero k v; end = in-user u }
user-run k₁ (suc b) v u h =
    outcome-is k₁ b v u h (λ w u' h'. user-run k₁ b w u' h') (step v) refl (step-ends v u)
