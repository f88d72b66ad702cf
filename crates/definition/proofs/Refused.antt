-- A refused call, and a raise that stops, change nothing.
use mathlib.Core.Path.{◌≡◌, refl}
use mathlib.Core.Logic.{◌≢◌}
use mathlib.Core.Bool.{Bool, true, false, cond}
use mathlib.Core.List.{List}
use Prim.Native.Nat.{ℕ}
use lib.IntN.{ℤ}
use Rattle.definition.specs.Runtime.{Outcome, completed, stopped, run, recover, limit}
use Rattle.definition.specs.Calls.{lent_machine, quiet_machine, Called, called, passes, fresh_check, fresh, run_check, ran, run_refused, run_call, deliver_check, deliver, drain_check, drain, load_check, load, set_register_check, set_register, raise_check, raise_answer, raised, raise}
use Rattle.definition.specs.Accepted.{RefusedKeeps}

-- a call that is done answers refusal 0, and one that is refused leaves what it was lent
kept : {A L : Type 0} (refusal : A → ℕ) (b : Bool) (done refused : Called A L) (l : L) → refusal done.answer ≡ 0 → refused.left ≡ l → refusal (cond b done refused).answer ≢ 0 → (cond b done refused).left ≡ l
kept refusal true done refused l y n h = absurd (h y)
kept refusal false done refused l y n h = n

pub raised-refusal : (cells row : List ℤ) (o : Outcome) → (raised cells row o).answer.refusal ≡ 0
unfolding raised
raised-refusal cells row (completed m) = refl
raised-refusal cells row (stopped s m) = refl

raised-stop : (cells row : List ℤ) (o : Outcome) → (raised cells row o).answer.stop ≢ 0 → (raised cells row o).left ≡ (cells, row)
unfolding raised
raised-stop cells row (completed m) h = absurd (h refl)
raised-stop cells row (stopped s m) h = refl

pub refused-keeps : RefusedKeeps
unfolding fresh run_call ran run_refused deliver drain load set_register raise
refused-keeps =
    record {
      fresh_keeps = λ cells row. kept (λ a. a.refusal) (passes (fresh_check cells row)) _ _ _ refl refl;
      run_keeps = λ b l. kept (λ a. a.refusal) (passes (run_check l)) (ran (run b (lent_machine l))) (run_refused (run_check l) l) l refl refl;
      deliver_keeps = λ queue row bytes. kept (λ a. a.refusal) (passes (deliver_check queue row bytes)) _ _ _ refl refl;
      drain_keeps = λ output row buffer. kept (λ a. a.refusal) (passes (drain_check output row buffer)) _ _ _ refl refl;
      load_keeps = λ cells image start. kept (λ a. a.refusal) (passes (load_check cells image start)) _ _ _ refl refl;
      set_register_keeps = λ row r w. kept (λ a. a.refusal) (passes (set_register_check row r w)) _ _ _ refl refl;
      raise_keeps = λ cells row code. kept (λ a. a.refusal) (passes (raise_check cells row code)) (raised cells row (limit (quiet_machine cells row) (recover code (quiet_machine cells row)))) _ _ (raised-refusal cells row _) refl;
      raise_stops = λ cells row code. stops cells row code (passes (raise_check cells row code));
    }
  where
    stops : (cells row : List ℤ) (code : ℕ) (b : Bool) → (cond b (raised cells row (limit (quiet_machine cells row) (recover code (quiet_machine cells row)))) (called (raise_answer (raise_check cells row code) 0 0) (cells, row))).answer.stop ≢ 0 → (cond b (raised cells row (limit (quiet_machine cells row) (recover code (quiet_machine cells row)))) (called (raise_answer (raise_check cells row code) 0 0) (cells, row))).left ≡ (cells, row)
    stops cells row code true h = raised-stop cells row _ h
    stops cells row code false h = refl
