-- Steps begun with S clear: what they leave as it was. The fence stays, and below it every cell but those that entry writes.
use Rattle.definition.specs.declared.Ending.{Ending}
use Rattle.definition.specs.declared.Ending.TheVariants.{Exception, Stops}
use Rattle.definition.specs.declared.Stop.TheVariants.{NoHandler, CyclesFull}
use Rattle.definition.specs.declared.Executed.{Executed}
use mathlib.Core.Path.{◌≡◌, refl, sym, ◌∙◌, subst}
use mathlib.Core.Logic.{◌≢◌}
use mathlib.Core.Bool.{Bool, true, false, cond, true≢false, ◌&&◌}
use mathlib.Core.List.{List}
use Prim.Native.Nat.{ℕ, zero, suc, ◌<◌}
use native.Mathlib.Omega.{arith}
use lib.IntN.{ℤ}
use lib.ListN.{length}
use lib.Dec.{ltb}
use Rattle.definition.specs.Constants.{CYCLES-END}
use Rattle.definition.specs.Exception.{ending, HARDWARE-INTERRUPT}
use Rattle.definition.specs.Memory.{cell_at}
use Rattle.definition.specs.Timer.{with_timer_mark}
use Rattle.definition.specs.Registers.{supervisor, interrupt_enable}
use Rattle.definition.specs.Exec.{Res, ok, err}
use Rattle.definition.specs.Runtime.{Machine, with_core, with_timer, with_mark, attempt, Turn, completes, enters, stops, ends, poll, after_attempt, guard, turn, Outcome, completed, stopped, has_handler, saved, entered_registers, entered_core, entered, recover, elapsed, elapses, settle, reached, limit, step, uncounted, later, go_on, run}
use Rattle.definition.specs.Accepted.{Sound}
use Rattle.definition.proofs.Cells.{length-put, cell_other}
use Rattle.definition.proofs.Ticks.{tick-interval, entry-interval}
use Rattle.definition.proofs.Keeps.{Good, attempt-keeps}
use Rattle.definition.proofs.AcceptedCore.{InUser, Silent, Kernel, user-laws, kernel-laws}
use Rattle.definition.proofs.UserStep.{ticked, serve-nothing, stays, entry, OutcomeEnds, step-ends, entered-supervisor, entry-sets}
use Rattle.definition.proofs.UserRun.{Within}
use Rattle.definition.proofs.Writes.{guard-clear}

-- what steps begun with S clear leave of m in m'
pub record Held (m m' : Machine) : Type 0 where
  pub fence : m'.fence ≡ m.fence
  pub interval : m'.timer.interval ≡ m.timer.interval
  pub size : length m'.core.cells ≡ length m.core.cells
  pub others : (n : ℕ) → n < m.fence → n ≢ 100 → n ≢ 101 → n ≢ 102 → cell_at m'.core.cells n ≡ cell_at m.core.cells n
  pub clear : supervisor m'.core.regs ≡ false → (n : ℕ) → n < m.fence → cell_at m'.core.cells n ≡ cell_at m.core.cells n

pub held-here : (m : Machine) → Held m m
held-here m = record { fence = refl; interval = refl; size = refl; others = λ n h a b c. refl; clear = λ s n h. refl }

pub held_on : (m w x : Machine) → Held m w → supervisor w.core.regs ≡ false → Held w x → Held m x
held_on m w x a s b =
    let e = a.fence in
    record {
      fence = b.fence ∙ a.fence;
      interval = b.interval ∙ a.interval;
      size = b.size ∙ a.size;
      others = λ n h p q r. b.others n (omega arith) p q r ∙ a.clear s n h;
      clear = λ t n h. b.clear t n (omega arith) ∙ a.clear s n h;
    }

-- ---- up to entry

-- the machine where a step arrives
abbrev arrives : Turn → Machine
arrives (completes m) = m
arrives (enters k m) = m
arrives (stops s m) = m

-- what is known of it: the fence and the timer's interval are those of m, and so are the cells below the fence
record Arrives (m w : Machine) : Type 0 where
  fence : w.fence ≡ m.fence
  interval : w.timer.interval ≡ m.timer.interval
  core : Kernel m.fence m.core.cells w.core

ends_held : (m : Machine) (e : Ending) (w : Machine) → Arrives m w → Arrives m (arrives (ends e w))
unfolding ends
ends_held m (Exception k) w a = a
ends_held m (Stops s) w a = a

poll-held : (m w : Machine) → Arrives m w → Arrives m (arrives (poll w))
unfolding poll
poll-held m w a = go (interrupt_enable w.core.regs && w.console.marks.pending) (interrupt_enable w.core.regs && w.timer.mark)
  where
    go : (b t : Bool) → Arrives m (arrives (cond b (enters HARDWARE-INTERRUPT (with_mark false w)) (cond t (enters HARDWARE-INTERRUPT (with_timer (with_timer_mark false w.timer) w)) (completes w))))
    go true t = record { fence = a.fence; interval = a.interval; core = a.core }
    go false true = record { fence = a.fence; interval = a.interval; core = a.core }
    go false false = a

abbrev GoodKernel : Machine → Res Executed → Type 0
GoodKernel m r = Good (Kernel m.fence m.core.cells) (λ (x : Executed). Silent x.request) r

after-held : (m : Machine) (r : Res Executed) → GoodKernel m r → Arrives m (arrives (after_attempt m r))
unfolding after_attempt
after-held m (ok x c) g =
    subst (λ (t : Turn). Arrives m (arrives t)) (sym (serve-nothing m x.request x.cost c g.0)) (poll-held m (ticked x.cost c m) (record { fence = refl; interval = tick-interval x.cost m.timer; core = g.1 }))
after-held m (err e c) g = ends_held m (ending e) (with_core c m) (record { fence = refl; interval = refl; core = g })

turn-held : (m : Machine) → InUser m → Arrives m (arrives (turn m))
unfolding turn
turn-held m u =
    let f = m.fence in
    let l = m.core.cells in
    after-held m (attempt (guard m) m.core) (subst (λ (g : ℕ). GoodKernel m (attempt g m.core)) (sym (guard-clear m u.clear)) (attempt-keeps f (Kernel f l) Sound ⊥ Silent (kernel-laws f l) m.core (record { user = u; size = refl; same = λ n h. refl })))

-- ---- entry

-- it writes cells 100, 101 and 102 and no other
saved-other : (pc : ℕ) (sr : ℤ) (k : ℕ) (l : List ℤ) (n : ℕ) → n ≢ 100 → n ≢ 101 → n ≢ 102 → cell_at (saved pc sr k l) n ≡ cell_at l n
unfolding saved
saved-other pc sr k l n a b c = cell_other _ 102 n _ c ∙ cell_other _ 101 n _ b ∙ cell_other _ 100 n _ a

saved-size : (pc : ℕ) (sr : ℤ) (k : ℕ) (l : List ℤ) → length (saved pc sr k l) ≡ length l
unfolding saved
saved-size pc sr k l = length-put _ 102 _ ∙ length-put _ 101 _ ∙ length-put l 100 _

arrived-held : (m w : Machine) → Arrives m w → Held m w
arrived-held m w a =
    record { fence = a.fence; interval = a.interval; size = a.core.size; others = λ n h p q r. a.core.same n h; clear = λ s. a.core.same }

entered-held : (m w : Machine) (k : ℕ) → Arrives m w → Held m (elapsed k (entered k w))
unfolding entered entered_core entered_registers supervisor
entered-held m w k a =
    let s = w.core.regs in
    let l = w.core.cells in
    record {
      fence = a.fence;
      interval = entry-interval k w.timer ∙ a.interval;
      size = saved-size s.pc s.sr k l ∙ a.core.size;
      others = λ n h p q r. saved-other s.pc s.sr k l n p q r ∙ a.core.same n h;
      clear = λ t. absurd (true≢false (sym (entered-supervisor k s.sr) ∙ t));
    }

settle-held : (m : Machine) (t : Turn) → Arrives m (arrives t) → Held m (reached (settle t))
unfolding settle recover elapses reached
settle-held m (completes w) a = arrived-held m w a
settle-held m (enters k w) a = go (has_handler w.core.cells)
  where
    go : (b : Bool) → Held m (reached (elapses k (cond b (completed (entered k w)) (stopped (NoHandler k) w))))
    go true = entered-held m w k a
    go false = arrived-held m w a
settle-held m (stops s w) a = arrived-held m w a

limit-held : (m : Machine) (o : Outcome) → Held m (reached o) → Held m (reached (limit m o))
unfolding limit reached
limit-held m o h = go (ltb (reached o).cycles CYCLES-END)
  where
    go : (b : Bool) → Held m (reached (cond b o (stopped CyclesFull m)))
    go true = h
    go false = held-here m

-- ---- a step

pub step-held : (m : Machine) → InUser m → Held m (reached (step m))
unfolding step
step-held m u = limit-held m (settle (turn m)) (settle-held m (turn m) (turn-held m u))

-- what it leaves with S clear is in user mode
ends-user : (m : Machine) (o : Outcome) → OutcomeEnds m o → supervisor (reached o).core.regs ≡ false → InUser (reached o)
unfolding reached
ends-user m (completed w) (stays u) s = u
ends-user m (completed w) (entry e) s = absurd (true≢false (sym (entry-sets m w e) ∙ s))
ends-user m (stopped why w) u s = u

pub step-user : (m : Machine) → InUser m → supervisor (reached (step m)).core.regs ≡ false → InUser (reached (step m))
step-user m u s = ends-user m (step m) (step-ends m u) s

-- ---- a run

pub held-uncounted : (m w : Machine) → Held m w → Held m (uncounted w)
unfolding supervisor
held-uncounted m w h = record { fence = h.fence; interval = h.interval; size = h.size; others = h.others; clear = h.clear }

pub clear-uncounted : (m : Machine) → supervisor (uncounted m).core.regs ≡ false → supervisor m.core.regs ≡ false
unfolding supervisor
clear-uncounted m s = s

pub user-uncounted : (m : Machine) → InUser m → InUser (uncounted m)
user-uncounted m u = (user-laws 0 m.fence).to-empties m.core u 0

-- a step and then a run on b, whose first step, if there is one, is begun with S clear
go-on-held : (m : Machine) (b : ℕ) (o : Outcome) → Held m (reached o) → OutcomeEnds m o → ((n : ℕ) → n < b → supervisor (go_on o (run n)).left.core.regs ≡ false) → ((w : Machine) → InUser w → Within b w → Held w (run b w).left) → Held m (go_on o (run b)).left
unfolding go_on later reached run
go-on-held m zero (completed w) h e s ih = held-uncounted m w h
go-on-held m (suc b) (completed w) h e s ih =
    let c : supervisor (uncounted w).core.regs ≡ false = s 0 (omega arith) in
    let u = user-uncounted w (ends-user m (completed w) e (clear-uncounted w c)) in
    held_on m (uncounted w) (run (suc b) (uncounted w)).left (held-uncounted m w h) c (ih (uncounted w) u s)
go-on-held m b (stopped why w) h e s ih = held-uncounted m w h

pub run-held : (b : ℕ) (m : Machine) → InUser m → Within b m → Held m (run b m).left
unfolding run
run-held zero m u s = held-here m
run-held (suc b) m u s =
    go-on-held m b (step m) (step-held m u) (step-ends m u) (λ n l. s (suc n) (omega arith)) (λ w u' s'. run-held b w u' s')
