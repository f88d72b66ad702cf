-- Every stop's number is one of "Stops", 0 to 7.
use Prim.Native.Nat.{ℕ, zero, suc, ◌≤◌}
use native.Mathlib.Omega.{arith}
use Rattle.definition.specs.declared.Ran.{Ran}
use Rattle.definition.specs.declared.Stop.{Stop}
use Rattle.definition.specs.declared.Stop.TheVariants as S
use Rattle.definition.specs.Exception.{stop_number}
use Rattle.definition.specs.Runtime.{Machine, Outcome, completed, stopped, step, Run, later, go_on, run}
use Rattle.definition.specs.Calls.{Lent, Called, passes, run_check, run_call, ran, run_refused}
use Rattle.bench.proofs.Laws.{either}

stop-few : (s : Stop) → stop_number s ≤ 7
stop-few S.Reset = omega arith
stop-few (S.NoHandler k) = omega arith
stop-few S.CellError = omega arith
stop-few S.Extract = omega arith
stop-few (S.InvalidRegister r) = omega arith
stop-few S.OutputFull = omega arith
stop-few S.CyclesFull = omega arith

go-on-few : (o : Outcome) (k : Machine → Run) → ((m : Machine) → (k m).stop ≤ 7) → (go_on o k).stop ≤ 7
unfolding go_on later
go-on-few (completed m) k f = f _
go-on-few (stopped s m) k f = stop-few s

run-few : (n : ℕ) (m : Machine) → (run n m).stop ≤ 7
unfolding run
run-few zero m = omega arith
run-few (suc n) m = go-on-few (step m) (run n) (run-few n)

pub call-few : (n : ℕ) (l : Lent) → (run_call n l).answer.stop ≤ 7
unfolding run_call ran run_refused
call-few n l = either (λ (x : Called Ran Lent). x.answer.stop ≤ 7) (passes (run_check l)) (λ e. run-few n _) (λ e. omega arith)
