-- A run of an accepted machine leaves an accepted machine, in either mode; its steps and its stop.
use Rattle.definition.specs.declared.Executed.{Executed}
use Rattle.definition.specs.declared.Request.{Request}
use Rattle.definition.specs.declared.Request.TheVariants.{Nothing, Reads, Writes}
use mathlib.Core.Path.{◌≡◌, refl, sym, ap, ◌∙◌, subst}
use mathlib.Core.Bool.{Bool, true, false, cond, ◌&&◌}
use Prim.Native.Nat.{ℕ, zero, suc, ◌-◌, ◌<◌, ◌≤◌}
use native.Mathlib.Omega.{arith}
use lib.IntN.{ℤ, pos}
use lib.ListN.{length, get_or, length-set}
use lib.Dec.{ltb, leb, eqb}
use borrow.Author.Tests.{ltb-true, ltb-false, leb-false}
use Rattle.definition.specs.declared.Marks.{Marks}
use Rattle.definition.specs.declared.Timer.{Timer}
use Rattle.definition.specs.declared.Stop.{Stop}
use Rattle.definition.specs.declared.Stop.TheVariants as S
use Rattle.definition.specs.declared.Error.{Error}
use Rattle.definition.specs.declared.Error.TheVariants.{DivByZero, InvalidInstruction, PrivilegedInstruction, Trap, InvalidMemoryAccess, CellError, Extract, InvalidPc, InvalidSp, InvalidSr, Reset}
use Rattle.definition.specs.declared.Ran.{Ran}
use Rattle.definition.specs.Constants.{CYCLES-END, TIMER-INTERVAL-PORT}
use Rattle.definition.specs.Total.{TOTAL-MOST}
use Rattle.definition.specs.Exception.{ending, HARDWARE-INTERRUPT, stop_number}
use Rattle.definition.specs.Memory.{word}
use Rattle.definition.specs.Registers.{interrupt_enable}
use Rattle.definition.specs.Io.{Console, with_marks, input_ready, status, read_status, write_control, around, read_data, read_port, write_data, write_port, output_full}
use Rattle.definition.specs.Timer.{with_timer_mark, set_timer, read_timer}
use Rattle.definition.specs.Exec.{Core, Res, ok, err}
use Rattle.definition.specs.Instructions.{set_register}
use Rattle.definition.specs.Runtime.{Machine, with_core, with_cycles, with_console, with_timer, with_mark, executed, attempt, Turn, completes, enters, stops, ends, poll, conclude, serve, after_attempt, guard, turn, Outcome, completed, stopped, has_handler, entered, recover, elapses, settle, reached, limit, step, Run, uncounted, later, go_on, run}
use Rattle.definition.specs.Calls.{Lent, lent_machine, lent_of, Called, run_check, ran, run_refused, run_call}
use Rattle.definition.specs.UserMode.{Accepted}
use Rattle.definition.specs.Accepted.{Sound, AcceptedCore, ConsoleIn, TimerIn, AcceptedMachine, RunsAccepted}
use Rattle.definition.proofs.Total.{total-most}
use Rattle.definition.proofs.Ticks.{tick-in, entry_in, set-in}
use Rattle.definition.proofs.Keeps.{Good, k-set, attempt-keeps}
use Rattle.definition.proofs.AcceptedCore.{any_laws, word_sound}
use Rattle.definition.proofs.UserStep.{entered-accepted}
use Rattle.definition.proofs.Row.{machine-back, accepted-machine, machine-accepted}

-- ---- the console

pub marks-in : (k : Console) (x : Marks) → ConsoleIn k → ConsoleIn (with_marks x k)
marks-in k x h =
    record { some = h.some; few = h.few; small = h.small; start_in = h.start_in; count_in = h.count_in; written_in = h.written_in }

around-in : (size n : ℕ) → 1 ≤ size → n < size → around size (suc n) < size
unfolding around
around-in size n h l = go (ltb (suc n) size) refl
  where
    go : (b : Bool) → ltb (suc n) size ≡ b → cond b (suc n) (suc n - size) < size
    go true e = ltb-true (suc n) size e
    go false e = let m : size ≤ suc n = ltb-false (suc n) size e in omega arith

data-in : (k : Console) → ConsoleIn k → ConsoleIn (read_data k).1
unfolding read_data
data-in k h = go (input_ready k.count)
  where
    go : (b : Bool) → ConsoleIn (cond {A = ℕ × Console} b (get_or k.queue k.start 0, record { marks = k.marks; queue = k.queue; start = around (length k.queue) (suc k.start); count = k.count - 1; output = k.output; written = k.written }) (0, k)).1
    go true =
        let l = h.count_in in
        record { some = h.some; few = h.few; small = h.small; start_in = around-in _ _ h.some h.start_in; count_in = omega arith; written_in = h.written_in }
    go false = h

read-in : (p : ℕ) (k : Console) → ConsoleIn k → ConsoleIn (read_port p k).1
unfolding read_port
read-in p k h = go (eqb p 110) (eqb p 111)
  where
    go : (b d : Bool) → ConsoleIn (cond b (status (input_ready k.count) k.marks, with_marks (read_status k.marks) k) (cond d (read_data k) (0, k))).1
    go true d = marks-in k _ h
    go false true = data-in k h
    go false false = h

write-in : (p : ℕ) (w : ℤ) (k : Console) → ConsoleIn k → output_full p k ≡ false → ConsoleIn (write_port p w k)
unfolding write_port output_full write_data
write-in p w k h e = go (eqb p 110) (eqb p 111) refl
  where
    go : (b d : Bool) → eqb p 111 ≡ d → ConsoleIn (cond b (with_marks (write_control (input_ready k.count) w k.marks) k) (cond d (write_data w k) k))
    go true d q = marks-in k _ h
    go false true q =
        let room : leb (length k.output) k.written ≡ false = sym (ap (λ (x : Bool). x && leb (length k.output) k.written) q) ∙ e in
        let less : k.written < length k.output = leb-false _ _ room in
        record { some = h.some; few = h.few; small = simp length-set h.small; start_in = h.start_in; count_in = h.count_in; written_in = simp length-set less }
    go false false q = h

-- ---- a step

-- what acceptance says, cycles aside
pub record Both (m : Machine) : Type 0 where
  pub core_in : AcceptedCore m.fence m.core
  pub console_in : ConsoleIn m.console
  pub timer_in : TimerIn m.timer

-- P holds of the machine, wherever the step arrives
abbrev TurnHas : (Machine → Type 0) → Turn → Type 0
TurnHas P (completes m) = P m
TurnHas P (enters k m) = P m
TurnHas P (stops s m) = P m

abbrev pub OutcomeHas : (Machine → Type 0) → Outcome → Type 0
OutcomeHas P (completed m) = P m
OutcomeHas P (stopped s m) = P m

-- one part changed
both-core : (m : Machine) (c : Core) → Both m → AcceptedCore m.fence c → Both (with_core c m)
both-core m c b f = record { core_in = f; console_in = b.console_in; timer_in = b.timer_in }

both-cycles : (m : Machine) (n : ℕ) → Both m → Both (with_cycles n m)
both-cycles m n b = record { core_in = b.core_in; console_in = b.console_in; timer_in = b.timer_in }

both-console : (m : Machine) (k : Console) → Both m → ConsoleIn k → Both (with_console k m)
both-console m k b h = record { core_in = b.core_in; console_in = h; timer_in = b.timer_in }

both-timer : (m : Machine) (t : Timer) → Both m → TimerIn t → Both (with_timer t m)
both-timer m t b h = record { core_in = b.core_in; console_in = b.console_in; timer_in = h }

ends-in : (e : Error) (m : Machine) → Both m → TurnHas Both (ends (ending e) m)
unfolding ends ending
ends-in DivByZero m b = b
ends-in InvalidInstruction m b = b
ends-in PrivilegedInstruction m b = b
ends-in Trap m b = b
ends-in InvalidMemoryAccess m b = b
ends-in CellError m b = b
ends-in Extract m b = b
ends-in InvalidPc m b = b
ends-in InvalidSp m b = b
ends-in InvalidSr m b = b
ends-in Reset m b = b

poll-in : (m : Machine) → Both m → TurnHas Both (poll m)
unfolding poll
poll-in m b = go (interrupt_enable m.core.regs && m.console.marks.pending) (interrupt_enable m.core.regs && m.timer.mark)
  where
    go : (p t : Bool) → TurnHas Both (cond p (enters HARDWARE-INTERRUPT (with_mark false m)) (cond t (enters HARDWARE-INTERRUPT (with_timer (with_timer_mark false m.timer) m)) (completes m)))
    go true t = both-console m _ b (marks-in m.console _ b.console_in)
    go false true = both-timer m _ b (record { interval_in = b.timer_in.interval_in; remaining_in = b.timer_in.remaining_in })
    go false false = b

abbrev GoodAny : {X : Type 0} → ℕ → Res X → Type 0
GoodAny {X} f r = Good (AcceptedCore f) (λ (x : X). Unit {0}) r

executed-in : (cost : ℕ) (c : Core) (m : Machine) → Both m → AcceptedCore m.fence c → Both (executed cost c m)
executed-in cost c m b f = both-cycles (with_core c m) _ (both-core m c b f)

conclude-in : (cost : ℕ) (m : Machine) (r : Res (Unit {0})) → Both m → GoodAny m.fence r → TurnHas Both (conclude cost m r)
unfolding conclude
conclude-in cost m (ok u c) b g = poll-in _ (both-timer (executed cost c m) _ (executed-in cost c m b g.1) (tick-in cost m.timer b.timer_in))
conclude-in cost m (err e c) b g = ends-in e (with_core c m) (both-core m c b g)

serve-in : (m : Machine) (q : Request) (cost : ℕ) (c : Core) → Both m → AcceptedCore m.fence c → TurnHas Both (serve m q cost c)
unfolding serve
serve-in m Nothing cost c b f = conclude-in cost m (ok tt c) b (tt, f)
serve-in m (Reads p r) cost c b f =
    conclude-in cost (with_console (read_port p m.console).1 m) (set_register r (word (pos (read_timer p m.timer (read_port p m.console).0))) c) (both-console m _ b (read-in p m.console b.console_in)) ((k-set 0 (AcceptedCore m.fence) Sound (Unit {0}) (λ (q : Request). Unit {0}) (any_laws 0 m.fence) r _ (word_sound _)).at c f)
serve-in m (Writes p w) cost c b f = go (output_full p m.console) refl (eqb p TIMER-INTERVAL-PORT)
  where
    go : (t : Bool) → output_full p m.console ≡ t → (d : Bool) → TurnHas Both (cond t (stops S.OutputFull m) (cond d (poll (with_timer (set_timer w m.timer) (executed cost c m))) (conclude cost (with_console (write_port p w m.console) m) (ok tt c))))
    go true e d = b
    go false e true = poll-in _ (both-timer (executed cost c m) _ (executed-in cost c m b f) (set-in w m.timer))
    go false e false =
        conclude-in cost (with_console (write_port p w m.console) m) (ok tt c) (both-console m _ b (write-in p w m.console b.console_in e)) (tt, f)

after-in : (m : Machine) (r : Res Executed) → Both m → GoodAny m.fence r → TurnHas Both (after_attempt m r)
unfolding after_attempt
after-in m (ok x c) b g = serve-in m x.request x.cost c b g.1
after-in m (err e c) b g = ends-in e (with_core c m) (both-core m c b g)

entered-in : (k : ℕ) (m : Machine) → Both m → Both (entered k m)
unfolding entered
entered-in k m b = both-cycles (with_core _ m) _ (both-core m _ b (entered-accepted k m.core b.core_in))

settle-in : (t : Turn) → TurnHas Both t → OutcomeHas Both (settle t)
unfolding settle recover elapses
settle-in (completes m) b = b
settle-in (enters k m) b = go (has_handler m.core.cells)
  where
    go : (t : Bool) → OutcomeHas Both (elapses k (cond t (completed (entered k m)) (stopped (S.NoHandler k) m)))
    go true = both-timer (entered k m) _ (entered-in k m b) (entry_in k _ (entered-in k m b).timer_in)
    go false = b
settle-in (stops s m) b = b

-- what acceptance says, but for the step's count of empty cells, which starts again with the next step
pub record Stepped (m : Machine) : Type 0 where
  pub both : Both m
  pub cycles_in : m.cycles < CYCLES-END

pub stepped : (m : Machine) → AcceptedMachine m → Stepped m
stepped m a = record { both = record { core_in = a.core_in; console_in = a.console_in; timer_in = a.timer_in }; cycles_in = a.cycles_in }

pub uncounted-in : (m : Machine) → Stepped m → AcceptedMachine (uncounted m)
uncounted-in m b =
    record { core_in = (any_laws 0 m.fence).to-empties m.core b.both.core_in 0; cycles_in = b.cycles_in; console_in = b.both.console_in; timer_in = b.both.timer_in; none_counted = refl }

limit-in : (m : Machine) → Stepped m → (o : Outcome) → OutcomeHas Both o → OutcomeHas Stepped (limit m o)
unfolding limit reached
limit-in m a (completed m') h = go (ltb m'.cycles CYCLES-END) refl
  where
    go : (b : Bool) → ltb m'.cycles CYCLES-END ≡ b → OutcomeHas Stepped (cond b (completed m') (stopped S.CyclesFull m))
    go true e = record { both = h; cycles_in = ltb-true _ _ e }
    go false e = a
limit-in m a (stopped s m') h = go (ltb m'.cycles CYCLES-END) refl
  where
    go : (b : Bool) → ltb m'.cycles CYCLES-END ≡ b → OutcomeHas Stepped (cond b (stopped s m') (stopped S.CyclesFull m))
    go true e = record { both = h; cycles_in = ltb-true _ _ e }
    go false e = a

pub step-stepped : (m : Machine) → Stepped m → OutcomeHas Stepped (step m)
unfolding step turn
step-stepped m a =
    limit-in m a (settle (turn m)) (settle-in (turn m) (after-in m (attempt (guard m) m.core) a.both (attempt-keeps (guard m) (AcceptedCore m.fence) Sound (Unit {0}) (λ (q : Request). Unit {0}) (any_laws (guard m) m.fence) m.core a.both.core_in)))

pub step-accepted : (m : Machine) → AcceptedMachine m → OutcomeHas Stepped (step m)
step-accepted m a = step-stepped m (stepped m a)

-- ---- a run

pub record RunEnds (n : ℕ) (r : Run) : Type 0 where
  pub left_in : AcceptedMachine r.left
  pub within : r.steps ≤ n
  pub spent : r.stop ≡ 0 → r.steps ≡ n
  pub whole : r.steps ≡ n → r.stop ≡ 0

-- no stop has number 0
pub stop-some : (s : Stop) → 1 ≤ stop_number s
stop-some s = grind arith

go-on-ends : (n : ℕ) (o : Outcome) (k : Machine → Run) → OutcomeHas Stepped o → ((m : Machine) → AcceptedMachine m → RunEnds n (k m)) → RunEnds (suc n) (go_on o k)
unfolding go_on later
go-on-ends n (completed m) k a h =
    let r = h (uncounted m) (uncounted-in m a) in
    record { left_in = r.left_in; within = (let w = r.within in omega arith); spent = λ e. (let s = r.spent e in omega arith); whole = λ e. r.whole (omega arith) }
go-on-ends n (stopped s m) k a h =
    let l = stop-some s in
    record { left_in = uncounted-in m a; within = omega arith; spent = λ e. absurd (omega arith); whole = λ e. absurd (omega arith) }

pub run_ends : (n : ℕ) (m : Machine) → AcceptedMachine m → RunEnds n (run n m)
unfolding run
run_ends zero m a = record { left_in = a; within = omega arith; spent = λ e. refl; whole = λ e. refl }
run_ends (suc n) m a = go-on-ends n (step m) (run n) (step-accepted m a) (λ m' a'. run_ends n m' a')

-- empty reads, summed
go-on-most : (o : Outcome) (k : Machine → Run) → (go_on o k).empty ≤ TOTAL-MOST
unfolding go_on later
go-on-most (completed m) k = total-most _ _
go-on-most (stopped s m) k = omega arith

pub run-most : (n : ℕ) (m : Machine) → (run n m).empty ≤ TOTAL-MOST
unfolding run
run-most zero m = omega arith
run-most (suc n) m = go-on-most (step m) (run n)

-- ---- the calls

-- a call of run on what an accepted machine is written to
pub call-is : (b : ℕ) (l : Lent) → Accepted l → run_call b l ≡ ran (run b (lent_machine l))
unfolding run_call
call-is b l h = ap (λ (t : Bool). cond t (ran (run b (lent_machine l))) (run_refused (run_check l) l)) h

pub call-on : (b : ℕ) (m : Machine) → AcceptedMachine m → run_call b (lent_of m) ≡ ran (run b m)
call-on b m a = call-is b (lent_of m) (machine-accepted m a) ∙ ap (λ (x : Machine). ran (run b x)) (machine-back m a.none_counted)

pub runs-accepted : RunsAccepted
unfolding ran
runs-accepted b l h =
    let m = lent_machine l in
    let a = accepted-machine l h in
    let r = run_ends b m a in
    let c = call-is b l h in
    record {
      stays = subst (λ (x : Called Ran Lent). Accepted x.left) (sym c) (machine-accepted _ r.left_in);
      within = subst (λ (x : Called Ran Lent). x.answer.steps ≤ b) (sym c) r.within;
      spent = λ e. ap (λ (x : Called Ran Lent). x.answer.steps) c ∙ r.spent (sym (ap (λ (x : Called Ran Lent). x.answer.stop) c) ∙ e);
      whole = λ e. ap (λ (x : Called Ran Lent). x.answer.stop) c ∙ r.whole (sym (ap (λ (x : Called Ran Lent). x.answer.steps) c) ∙ e);
    }
