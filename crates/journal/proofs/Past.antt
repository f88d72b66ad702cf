-- The machines before a run's steps are those that smaller budgets leave, and how many there are.
use mathlib.Core.Path.{◌≡◌, refl, sym, ap, ◌∙◌}
use mathlib.Core.Bool.{Bool, true, false, not, cond, ◌||◌}
use mathlib.Core.List.{List, [], ◌∷◌, ◌++◌}
use Prim.Native.Nat.{ℕ, zero, suc, ◌+◌, ◌<◌, ◌≤◌}
use native.Mathlib.Omega.{arith}
use lib.ListN.{length, get_or, length-append, get_or-append}
use lib.Seq.{get_or_at}
use lib.Dec.{eqb}
use borrow.Author.Tests.{ne_eqb}
use Rattle.definition.specs.declared.Ran.{Ran}
use Rattle.definition.specs.Exception.{stop_number}
use Rattle.definition.specs.Runtime.{Machine, Outcome, completed, stopped, step, later, go_on, run, uncounted}
use Rattle.definition.specs.Calls.{Called, Lent, lent_machine, lent_of, ran}
use Rattle.definition.specs.UserMode.{Accepted}
use Rattle.definition.specs.Accepted.{AcceptedMachine}
use Rattle.definition.proofs.Row.{accepted-machine}
use Rattle.definition.proofs.Accepted.{Stepped, OutcomeHas, uncounted-in, step-accepted, stop-some, call-is}
use Rattle.journal.specs.Journal.{begins, begun}
use Rattle.journal.specs.StepBack.{go_on_past, past, Past}

-- ---- what stands behind stays behind

append_assoc : (a b c : List Machine) → (a ++ b) ++ c ≡ a ++ (b ++ c)
append_assoc [] b c = refl
append_assoc (x ∷ a) b c = ap (λ (l : List Machine). x ∷ l) (append_assoc a b c)

go-append : (n : ℕ) (m : Machine) (o : Outcome) (h : List Machine) → ((w : Machine) (h : List Machine) → past n w h ≡ past n w [] ++ h) → go_on_past o (cond (begun o) (m ∷ h) h) (past n) ≡ go_on_past o (cond (begun o) (m ∷ []) []) (past n) ++ h
unfolding go_on_past begun
go-append n m (completed w) h ih =
    ih (uncounted w) (m ∷ h) ∙ sym (ap (λ (l : List Machine). l ++ h) (ih (uncounted w) (m ∷ [])) ∙ append_assoc (past n (uncounted w) []) (m ∷ []) h)
go-append n m (stopped s w) h ih = go (begins (stop_number s))
  where
    go : (b : Bool) → cond b (m ∷ h) h ≡ cond b (m ∷ []) [] ++ h
    go true = refl
    go false = refl

past-append : (n : ℕ) (m : Machine) (h : List Machine) → past n m h ≡ past n m [] ++ h
unfolding past
past-append zero m h = refl
past-append (suc n) m h = go-append n m (step m) h (λ w g. past-append n w g)

-- ---- each of them

run-first : (k : ℕ) (m w : Machine) → step m ≡ completed w → (run (suc k) m).left ≡ (run k (uncounted w)).left
unfolding run go_on later
run-first k m w e = ap (λ (o : Outcome). (go_on o (run k)).left) e

run_none : (m : Machine) → (run 0 m).left ≡ m
unfolding run
run_none m = refl

go-each : (n : ℕ) (m : Machine) (o : Outcome) (e : Machine) → step m ≡ o → ((w : Machine) (i k : ℕ) → suc i + k ≡ length (past n w []) → get_or (past n w []) i e ≡ (run k w).left) → (i k : ℕ) → suc i + k ≡ length (go_on_past o (cond (begun o) (m ∷ []) []) (past n)) → get_or (go_on_past o (cond (begun o) (m ∷ []) []) (past n)) i e ≡ (run k m).left
unfolding go_on_past begun
go-each n m (completed w) e s ih i k q =
    let p = past n (uncounted w) [] in
    let a : past n (uncounted w) (m ∷ []) ≡ p ++ m ∷ [] = past-append n (uncounted w) (m ∷ []) in
    let l : length (p ++ m ∷ []) ≡ length p + 1 = length-append p (m ∷ []) in
    let z : suc i + k ≡ length p + 1 = q ∙ ap (λ (x : List Machine). length x) a ∙ l in
    ap (λ (x : List Machine). get_or x i e) a ∙ by k z
  where
    p : List Machine
    p = past n (uncounted w) []

    by : (k : ℕ) → suc i + k ≡ length p + 1 → get_or (p ++ m ∷ []) i e ≡ (run k m).left
    by zero z = let b : length p ≡ i = omega arith in get_or_at p m [] e i b ∙ sym (run_none m)
    by (suc k) z =
        let b : i < length p = omega arith in
        let c : suc i + k ≡ length p = omega arith in
        get_or-append p (m ∷ []) e i b ∙ ih (uncounted w) i k c ∙ sym (run-first k m w s)
go-each n m (stopped c w) e s ih i k q = go (begins (stop_number c)) i k q
  where
    go : (b : Bool) (i k : ℕ) → suc i + k ≡ length (cond b (m ∷ []) []) → get_or (cond b (m ∷ []) []) i e ≡ (run k m).left
    go true zero zero q = sym (run_none m)
    go true zero (suc k) q = absurd (omega arith)
    go true (suc i) k q = absurd (omega arith)
    go false i k q = absurd (omega arith)

past-each : (n : ℕ) (m e : Machine) (i k : ℕ) → suc i + k ≡ length (past n m []) → get_or (past n m []) i e ≡ (run k m).left
unfolding past
past-each zero m e i k q = absurd (omega arith)
past-each (suc n) m e i k q = go-each n m (step m) e refl (λ w i' k' q'. past-each n w e i' k' q') i k q

-- ---- how many

-- a run that stopped began one more step than it completed
abbrev stopping : ℕ → ℕ
stopping s = cond (eqb s 0 || not (begins s)) 0 1

stops-one : (m : Machine) (c : ℕ) → 1 ≤ c → length (cond (begins c) (m ∷ []) []) ≡ 0 + stopping c
stops-one m c h = ap (λ (b : Bool). length (cond (begins c) (m ∷ []) [])) f ∙ go (begins c) ∙ sym (ap (λ (b : Bool). 0 + cond (b || not (begins c)) 0 1) f)
  where
    f : eqb c 0 ≡ false
    f = ne_eqb c 0 (λ e. omega arith)

    go : (b : Bool) → length (cond b (m ∷ []) []) ≡ 0 + cond (false || not b) 0 1
    go true = omega arith
    go false = omega arith

go-many : (n : ℕ) (m : Machine) (o : Outcome) → OutcomeHas Stepped o → ((w : Machine) → AcceptedMachine w → length (past n w []) ≡ (run n w).steps + stopping (run n w).stop) → length (go_on_past o (cond (begun o) (m ∷ []) []) (past n)) ≡ (go_on o (run n)).steps + stopping (go_on o (run n)).stop
unfolding go_on_past begun go_on later
go-many n m (completed w) s ih =
    let p = past n (uncounted w) [] in
    let a : length (past n (uncounted w) (m ∷ [])) ≡ length p + 1 = ap (λ (x : List Machine). length x) (past-append n (uncounted w) (m ∷ [])) ∙ length-append p (m ∷ []) in
    let b : length p ≡ (run n (uncounted w)).steps + stopping (run n (uncounted w)).stop = ih (uncounted w) (uncounted-in w s) in
    let c : length p + 1 ≡ 1 + (run n (uncounted w)).steps + stopping (run n (uncounted w)).stop = omega arith in
    a ∙ c
go-many n m (stopped c w) s ih = stops-one m (stop_number c) (stop-some c)

past-many : (n : ℕ) (m : Machine) → AcceptedMachine m → length (past n m []) ≡ (run n m).steps + stopping (run n m).stop
unfolding past run
past-many zero m a = omega arith
past-many (suc n) m a = go-many n m (step m) (step-accepted m a) (λ w b. past-many n w b)

-- ---- over calls

pub the-past : (n : ℕ) (l : Lent) → Accepted l → Past n l
unfolding ran
the-past n l a =
    let m = lent_machine l in
    record {
      each = λ i k q. ap lent_of (past-each n m m i k q) ∙ sym (ap (λ (c : Called Ran Lent). c.left) (call-is k l a));
      many = past-many n m (accepted-machine l a) ∙ sym (ap (λ (c : Called Ran Lent). c.answer.steps + stopping c.answer.stop) (call-is n l a));
    }
