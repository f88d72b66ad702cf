-- A run leaves the queue's bytes and the output that was counted: what going back, which is lent neither, needs of them.
use Rattle.definition.specs.declared.Ending.{Ending}
use Rattle.definition.specs.declared.Ending.TheVariants.{Exception, Stops}
use Rattle.definition.specs.declared.Stop.TheVariants.{NoHandler, OutputFull, CyclesFull}
use Rattle.definition.specs.declared.Executed.{Executed}
use Rattle.definition.specs.declared.Request.{Request}
use Rattle.definition.specs.declared.Request.TheVariants.{Nothing, Reads, Writes}
use mathlib.Core.Path.{◌≡◌, refl, sym, ap, ◌∙◌}
use mathlib.Core.Bool.{Bool, true, false, cond, ◌&&◌}
use Prim.Native.Nat.{ℕ, suc, ◌-◌, ◌≤◌}
use native.Mathlib.Omega.{arith}
use lib.IntN.{ℤ}
use lib.ListN.{length, get_or, take, length-set}
use lib.Seq.{take-take, take-set-le}
use lib.Dec.{ltb, eqb}
use Rattle.definition.specs.Constants.{CYCLES-END, TIMER-INTERVAL-PORT}
use Rattle.definition.specs.Exception.{ending, HARDWARE-INTERRUPT}
use Rattle.definition.specs.Registers.{interrupt_enable}
use Rattle.definition.specs.Io.{Console, with_marks, input_ready, status, read_status, write_control, around, read_data, read_port, write_data, write_port, output_full}
use Rattle.definition.specs.Timer.{with_timer_mark, set_timer, tick}
use Rattle.definition.specs.Exec.{Core, Res, ok, err}
use Rattle.definition.specs.Runtime.{Machine, with_core, with_console, with_timer, with_mark, executed, attempt, Turn, completes, enters, stops, ends, poll, conclude, serve, after_attempt, guard, turn, Outcome, completed, stopped, has_handler, entered, recover, elapses, settle, reached, limit, step}

pub record Grows (k k' : Console) : Type 0 where
  pub queue : k'.queue ≡ k.queue
  pub more : k.written ≤ k'.written
  pub front : take k.written k'.output ≡ take k.written k.output
  pub size : length k'.output ≡ length k.output

pub grows-here : (k : Console) → Grows k k
grows-here k = record { queue = refl; more = omega arith; front = refl; size = refl }

pub grows-on : (a b c : Console) → Grows a b → Grows b c → Grows a c
grows-on a b c x y =
    let m = x.more in
    let n = y.more in
    record {
      queue = y.queue ∙ x.queue;
      more = omega arith;
      front = sym (take-take a.written b.written c.output m) ∙ ap (take a.written) y.front ∙ take-take a.written b.written b.output m ∙ x.front;
      size = y.size ∙ x.size;
    }

read-grows : (p : ℕ) (k : Console) → Grows k (read_port p k).1
unfolding read_port read_data
read-grows p k = go (eqb p 110) (eqb p 111) (input_ready k.count)
  where
    go : (b d i : Bool) → Grows k (cond b (status (input_ready k.count) k.marks, with_marks (read_status k.marks) k) (cond d (cond {A = ℕ × Console} i (get_or k.queue k.start 0, record { marks = k.marks; queue = k.queue; start = around (length k.queue) (suc k.start); count = k.count - 1; output = k.output; written = k.written }) (0, k)) (0, k))).1
    go true d i = record { queue = refl; more = omega arith; front = refl; size = refl }
    go false true true = record { queue = refl; more = omega arith; front = refl; size = refl }
    go false true false = grows-here k
    go false false i = grows-here k

write-grows : (p : ℕ) (w : ℤ) (k : Console) → Grows k (write_port p w k)
unfolding write_port write_data
write-grows p w k = go (eqb p 110) (eqb p 111)
  where
    go : (b d : Bool) → Grows k (cond b (with_marks (write_control (input_ready k.count) w k.marks) k) (cond d (write_data w k) k))
    go true d = record { queue = refl; more = omega arith; front = refl; size = refl }
    go false true = record { queue = refl; more = omega arith; front = take-set-le k.written k.output k.written _ (omega arith); size = length-set k.output k.written _ }
    go false false = grows-here k

-- ---- a step, from the console a

abbrev TurnGrows : Console → Turn → Type 0
TurnGrows a (completes m) = Grows a m.console
TurnGrows a (enters k m) = Grows a m.console
TurnGrows a (stops s m) = Grows a m.console

abbrev pub OutcomeGrows : Console → Outcome → Type 0
OutcomeGrows a (completed m) = Grows a m.console
OutcomeGrows a (stopped s m) = Grows a m.console

ends-grows : (a : Console) (e : Ending) (m : Machine) → Grows a m.console → TurnGrows a (ends e m)
unfolding ends
ends-grows a (Exception k) m p = p
ends-grows a (Stops s) m p = p

poll-grows : (a : Console) (m : Machine) → Grows a m.console → TurnGrows a (poll m)
unfolding poll
poll-grows a m p = go (interrupt_enable m.core.regs && m.console.marks.pending) (interrupt_enable m.core.regs && m.timer.mark)
  where
    go : (q t : Bool) → TurnGrows a (cond q (enters HARDWARE-INTERRUPT (with_mark false m)) (cond t (enters HARDWARE-INTERRUPT (with_timer (with_timer_mark false m.timer) m)) (completes m)))
    go true t = record { queue = p.queue; more = p.more; front = p.front; size = p.size }
    go false true = p
    go false false = p

conclude-grows : (a : Console) (cost : ℕ) (m : Machine) (r : Res (Unit {0})) → Grows a m.console → TurnGrows a (conclude cost m r)
unfolding conclude
conclude-grows a cost m (ok u c) p = poll-grows a (with_timer (tick cost m.timer) (executed cost c m)) p
conclude-grows a cost m (err e c) p = ends-grows a (ending e) (with_core c m) p

serve-grows : (m : Machine) (q : Request) (cost : ℕ) (c : Core) → TurnGrows m.console (serve m q cost c)
unfolding serve
serve-grows m Nothing cost c = conclude-grows m.console cost m (ok tt c) (grows-here m.console)
serve-grows m (Reads p r) cost c = conclude-grows m.console cost (with_console (read_port p m.console).1 m) _ (read-grows p m.console)
serve-grows m (Writes p w) cost c = go (output_full p m.console) (eqb p TIMER-INTERVAL-PORT)
  where
    go : (t d : Bool) → TurnGrows m.console (cond t (stops OutputFull m) (cond d (poll (with_timer (set_timer w m.timer) (executed cost c m))) (conclude cost (with_console (write_port p w m.console) m) (ok tt c))))
    go true d = grows-here m.console
    go false true = poll-grows m.console (with_timer (set_timer w m.timer) (executed cost c m)) (grows-here m.console)
    go false false = conclude-grows m.console cost (with_console (write_port p w m.console) m) (ok tt c) (write-grows p w m.console)

after-grows : (m : Machine) (r : Res Executed) → TurnGrows m.console (after_attempt m r)
unfolding after_attempt
after-grows m (ok x c) = serve-grows m x.request x.cost c
after-grows m (err e c) = ends-grows m.console (ending e) (with_core c m) (grows-here m.console)

settle-grows : (a : Console) (t : Turn) → TurnGrows a t → OutcomeGrows a (settle t)
unfolding settle recover elapses entered
settle-grows a (completes m) p = p
settle-grows a (enters k m) p = go (has_handler m.core.cells)
  where
    go : (t : Bool) → OutcomeGrows a (elapses k (cond t (completed (entered k m)) (stopped (NoHandler k) m)))
    go true = p
    go false = p
settle-grows a (stops s m) p = p

limit-grows : (m : Machine) (o : Outcome) → OutcomeGrows m.console o → OutcomeGrows m.console (limit m o)
unfolding limit reached
limit-grows m (completed w) q = go (ltb w.cycles CYCLES-END)
  where
    go : (b : Bool) → OutcomeGrows m.console (cond b (completed w) (stopped CyclesFull m))
    go true = q
    go false = grows-here m.console
limit-grows m (stopped s w) q = go (ltb w.cycles CYCLES-END)
  where
    go : (b : Bool) → OutcomeGrows m.console (cond b (stopped s w) (stopped CyclesFull m))
    go true = q
    go false = grows-here m.console

pub step-grows : (m : Machine) → OutcomeGrows m.console (step m)
unfolding step turn
step-grows m = limit-grows m (settle (turn m)) (settle-grows m.console (turn m) (after-grows m (attempt (guard m) m.core)))
