-- A step begun with S clear: in another console it does the same, and leaves that console but for the pending mark.
use Rattle.definition.specs.declared.Ending.{Ending}
use Rattle.definition.specs.declared.Ending.TheVariants.{Exception, Stops}
use Rattle.definition.specs.declared.Stop.TheVariants.{NoHandler, CyclesFull}
use Rattle.definition.specs.declared.Executed.{Executed}
use Rattle.definition.specs.declared.Request.{Request}
use mathlib.Core.Path.{◌≡◌, refl, sym, ap, ◌∙◌, subst}
use mathlib.Core.Bool.{Bool, true, false, cond, ◌&&◌}
use mathlib.Core.List.{List}
use Prim.Native.Nat.{ℕ, zero, suc, ◌≤◌}
use native.Mathlib.Omega.{arith}
use lib.IntN.{ℤ, pos}
use lib.Dec.{ltb}
use Rattle.definition.specs.declared.Error.{Error}
use Rattle.definition.specs.declared.Error.TheVariants.{DivByZero, InvalidInstruction, PrivilegedInstruction, Trap, InvalidMemoryAccess, CellError, Extract, InvalidPc, InvalidSp, InvalidSr, Reset}
use Rattle.definition.specs.Constants.{SUPERVISOR, CYCLES-END}
use Rattle.definition.specs.Word.{bit, put_bit}
use Rattle.definition.specs.Exception.{ending, HARDWARE-INTERRUPT}
use Rattle.definition.specs.Memory.{word, cell_count, cell_at}
use Rattle.definition.specs.Registers.{supervisor, interrupt_enable}
use Rattle.definition.specs.Io.{Console, with_marks, with_pending}
use Rattle.definition.specs.Timer.{with_timer_mark, tick}
use Rattle.definition.specs.Exec.{Core, with_cells, Res, ok, err}
use Rattle.definition.specs.Runtime.{Machine, with_core, with_console, with_timer, with_mark, executed, attempt, Turn, completes, enters, stops, ends, poll, conclude, serve, after_attempt, guard, turn, Outcome, completed, stopped, has_handler, saved, entered_sr, entered_registers, entered_core, entered, recover, elapsed, elapses, settle, reached, limit, step}
use Rattle.definition.specs.Accepted.{Sound, AcceptedCore}
use Rattle.definition.proofs.Bits.{put_same, put_other}
use Rattle.definition.proofs.Cells.{count-put, cell_same, cell_other}
use Rattle.definition.proofs.Verdict.{and_left}
use Rattle.definition.proofs.Keeps.{Good, attempt-keeps}
use Rattle.definition.proofs.AcceptedCore.{User, InUser, Silent, user-laws, accepted-put, with-registers, word_sound}

-- ---- a machine, and another console around it

-- the console k with another pending mark
abbrev pub console : Console → Bool → Console
console k p = with_marks (with_pending p k.marks) k

-- the machine m with the console k, but for m's own pending mark
abbrev pub around : Console → Machine → Machine
around k m = with_console (console k m.console.marks.pending) m

abbrev pub turn_around : Console → Turn → Turn
turn_around k (completes m) = completes (around k m)
turn_around k (enters n m) = enters n (around k m)
turn_around k (stops s m) = stops s (around k m)

abbrev pub outcome_around : Console → Outcome → Outcome
outcome_around k (completed m) = completed (around k m)
outcome_around k (stopped s m) = stopped s (around k m)

-- ---- a user-mode step is the same step in every console

abbrev GoodUser : ℕ → Res Executed → Type 0
GoodUser f r = Good (User f) (λ (x : Executed). Silent x.request) r

pub attempt-user : (g f : ℕ) (c : Core) → User f c → GoodUser f (attempt g c)
attempt-user g f = attempt-keeps g (User f) Sound ⊥ Silent (user-laws g f)

ends_is : (k : Console) (e : Ending) (m : Machine) → ends e (around k m) ≡ turn_around k (ends e m)
unfolding ends
ends_is k (Exception n) m = refl
ends_is k (Stops s) m = refl

poll-is : (k : Console) (m : Machine) → poll (around k m) ≡ turn_around k (poll m)
unfolding poll
poll-is k m = go (interrupt_enable m.core.regs && m.console.marks.pending) (interrupt_enable m.core.regs && m.timer.mark)
  where
    took : Machine
    took = with_timer (with_timer_mark false m.timer) m

    go : (b t : Bool) → cond b (enters HARDWARE-INTERRUPT (around k (with_mark false m))) (cond t (enters HARDWARE-INTERRUPT (around k took)) (completes (around k m))) ≡ turn_around k (cond b (enters HARDWARE-INTERRUPT (with_mark false m)) (cond t (enters HARDWARE-INTERRUPT took) (completes m)))
    go true t = refl
    go false true = refl
    go false false = refl

-- the machine that polls after a completed instruction
abbrev pub ticked : ℕ → Core → Machine → Machine
ticked cost c m = with_timer (tick cost m.timer) (executed cost c m)

-- it asks nothing of console and timer
pub serve-nothing : (m : Machine) (q : Request) (cost : ℕ) (c : Core) → Silent q → serve m q cost c ≡ poll (ticked cost c m)
unfolding serve conclude
serve-nothing m q cost c e = ap (λ q. serve m q cost c) e

after_is : (k : Console) (m : Machine) (r : Res Executed) → GoodUser m.fence r → after_attempt (around k m) r ≡ turn_around k (after_attempt m r)
unfolding after_attempt
after_is k m (ok x c) g =
    serve-nothing (around k m) x.request x.cost c g.0 ∙ poll-is k (ticked x.cost c m) ∙ sym (ap (turn_around k) (serve-nothing m x.request x.cost c g.0))
after_is k m (err e c) g = ends_is k (ending e) (with_core c m)

pub turn_is : (k : Console) (m : Machine) → InUser m → turn (around k m) ≡ turn_around k (turn m)
unfolding turn guard
turn_is k m u = after_is k m (attempt (guard m) m.core) (attempt-user (guard m) m.fence m.core u)

settle_is : (k : Console) (t : Turn) → settle (turn_around k t) ≡ outcome_around k (settle t)
unfolding settle recover entered elapses
settle_is k (completes m) = refl
settle_is k (enters n m) = go (has_handler m.core.cells)
  where
    go : (b : Bool) → elapses n (cond b (completed (entered n (around k m))) (stopped (NoHandler n) (around k m))) ≡ outcome_around k (elapses n (cond b (completed (entered n m)) (stopped (NoHandler n) m)))
    go true = refl
    go false = refl
settle_is k (stops s m) = refl

limit_is : (k : Console) (m : Machine) (o : Outcome) → limit (around k m) (outcome_around k o) ≡ outcome_around k (limit m o)
unfolding limit reached
limit_is k m (completed w) = go (ltb w.cycles CYCLES-END)
  where
    go : (b : Bool) → cond b (completed (around k w)) (stopped CyclesFull (around k m)) ≡ outcome_around k (cond b (completed w) (stopped CyclesFull m))
    go true = refl
    go false = refl
limit_is k m (stopped s w) = go (ltb w.cycles CYCLES-END)
  where
    go : (b : Bool) → cond b (stopped s (around k w)) (stopped CyclesFull (around k m)) ≡ outcome_around k (cond b (stopped s w) (stopped CyclesFull m))
    go true = refl
    go false = refl

pub step_is : (k : Console) (m : Machine) → InUser m → step (around k m) ≡ outcome_around k (step m)
unfolding step
step_is k m u =
    ap (λ t. limit (around k m) (settle t)) (turn_is k m u) ∙ ap (limit (around k m)) (settle_is k (turn m)) ∙ limit_is k m (settle (turn m))

-- ---- how a completed step ends: still in user mode, or by exception entry

pub record Entered (m m' : Machine) : Type 0 where
  pub code : ℕ
  pub moment : Machine
  pub turns : turn m ≡ enters code moment
  pub user : InUser moment
  pub small : code ≤ 5
  pub handler : has_handler moment.core.cells ≡ true
  pub taken : code ≡ 0 → moment.console.marks.pending ≡ false
  pub leaves : m' ≡ elapsed code (entered code moment)

pub data Ends (m m' : Machine) : Type 0 where
  stays : InUser m' → Ends m m'
  entry : Entered m m' → Ends m m'

abbrev pub OutcomeEnds : Machine → Outcome → Type 0
OutcomeEnds m (completed m') = Ends m m'
OutcomeEnds m (stopped s m') = InUser m'

-- what is known where a step arrives
abbrev TurnEnds : Turn → Type 0
TurnEnds (completes m) = InUser m
TurnEnds (enters k m) = InUser m × ((k ≤ 5) × (k ≡ 0 → m.console.marks.pending ≡ false))
TurnEnds (stops s m) = InUser m

ending-ends : (e : Error) (m : Machine) → InUser m → TurnEnds (ends (ending e) m)
unfolding ending ends
ending-ends DivByZero m u = (u, (omega arith, λ h. absurd (omega arith)))
ending-ends InvalidInstruction m u = (u, (omega arith, λ h. absurd (omega arith)))
ending-ends PrivilegedInstruction m u = (u, (omega arith, λ h. absurd (omega arith)))
ending-ends Trap m u = (u, (omega arith, λ h. absurd (omega arith)))
ending-ends InvalidMemoryAccess m u = (u, (omega arith, λ h. absurd (omega arith)))
ending-ends CellError m u = u
ending-ends Extract m u = u
ending-ends InvalidPc m u = u
ending-ends InvalidSp m u = u
ending-ends InvalidSr m u = u
ending-ends Reset m u = u

poll-ends : (m : Machine) → InUser m → TurnEnds (poll m)
unfolding poll
poll-ends m u = go (i && p) refl (i && t) refl
  where
    i : Bool
    i = interrupt_enable m.core.regs

    p : Bool
    p = m.console.marks.pending

    t : Bool
    t = m.timer.mark

    -- the timer's mark is taken where I is set, so the console's was clear
    go : (b : Bool) → i && p ≡ b → (d : Bool) → i && t ≡ d → TurnEnds (cond b (enters HARDWARE-INTERRUPT (with_mark false m)) (cond d (enters HARDWARE-INTERRUPT (with_timer (with_timer_mark false m.timer) m)) (completes m)))
    go true e d f = (u, (omega arith, λ h. refl))
    go false e true f = (u, (omega arith, λ h. ap (λ (x : Bool). x && p) (sym (and_left i t f)) ∙ e))
    go false e false f = u

after-ends : (m : Machine) (r : Res Executed) → GoodUser m.fence r → TurnEnds (after_attempt m r)
unfolding after_attempt
after-ends m (ok x c) g =
    subst TurnEnds (sym (serve-nothing m x.request x.cost c g.0)) (poll-ends (ticked x.cost c m) g.1)
after-ends m (err e c) g = ending-ends e (with_core c m) g

settle-ends : (m : Machine) (t : Turn) → turn m ≡ t → TurnEnds t → OutcomeEnds m (settle t)
unfolding settle recover elapses
settle-ends m (completes w) h e = stays e
settle-ends m (enters k w) h e = go (has_handler w.core.cells) refl
  where
    go : (b : Bool) → has_handler w.core.cells ≡ b → OutcomeEnds m (elapses k (cond b (completed (entered k w)) (stopped (NoHandler k) w)))
    go true t =
        entry (record { code = k; moment = w; turns = h; user = e.0; small = e.1.0; handler = t; taken = e.1.1; leaves = refl })
    go false t = e.0
settle-ends m (stops s w) h e = e

limit-ends : (m : Machine) → InUser m → (o : Outcome) → OutcomeEnds m o → OutcomeEnds m (limit m o)
unfolding limit reached
limit-ends m u (completed w) e = go (ltb w.cycles CYCLES-END)
  where
    go : (b : Bool) → OutcomeEnds m (cond b (completed w) (stopped CyclesFull m))
    go true = e
    go false = u
limit-ends m u (stopped s w) e = go (ltb w.cycles CYCLES-END)
  where
    go : (b : Bool) → OutcomeEnds m (cond b (stopped s w) (stopped CyclesFull m))
    go true = e
    go false = u

pub step-ends : (m : Machine) → InUser m → OutcomeEnds m (step m)
unfolding step turn
step-ends m u =
    limit-ends m u (settle (turn m)) (settle-ends m (turn m) refl (after-ends m (attempt (guard m) m.core) (attempt-user (guard m) m.fence m.core u)))

-- ---- what entry leaves

module _ (pc : ℕ) (sr : ℤ) (k : ℕ) (l : List ℤ) (low : 256 ≤ cell_count l) where
  pub saved-pc : cell_at (saved pc sr k l) 100 ≡ word (pos pc)
  unfolding saved
  saved-pc =
      cell_other _ 102 100 _ (λ (e : 100 ≡ 102). omega arith) ∙ cell_other _ 101 100 _ (λ (e : 100 ≡ 101). omega arith) ∙ cell_same l 100 _ (omega arith)

  pub saved-sr : cell_at (saved pc sr k l) 101 ≡ word sr
  unfolding saved
  saved-sr = cell_other _ 102 101 _ (λ (e : 101 ≡ 102). omega arith) ∙ cell_same _ 101 _ (rw count-put (omega arith))

  pub saved-code : cell_at (saved pc sr k l) 102 ≡ word (pos k)
  unfolding saved
  saved-code = cell_same _ 102 _ (rw (count-put, count-put) (omega arith))

  pub saved-handler : cell_at (saved pc sr k l) 200 ≡ cell_at l 200
  unfolding saved
  saved-handler =
      cell_other _ 102 200 _ (λ (e : 200 ≡ 102). omega arith) ∙ cell_other _ 101 200 _ (λ (e : 200 ≡ 101). omega arith) ∙ cell_other _ 100 200 _ (λ (e : 200 ≡ 100). omega arith)

pub entered-supervisor : (k : ℕ) (w : ℤ) → bit SUPERVISOR (entered_sr k w) ≡ true
unfolding entered_sr
entered-supervisor zero w =
    put_other 8 false (put_bit SUPERVISOR true w) (omega arith) 9 (λ e. omega arith) ∙ put_same 9 true w (omega arith)
entered-supervisor (suc k) w = put_same 9 true w (omega arith)

saved-accepted : {f : ℕ} (pc : ℕ) (sr : ℤ) (k : ℕ) (c : Core) → AcceptedCore f c → AcceptedCore f (with_cells (saved pc sr k c.cells) c)
unfolding saved
saved-accepted pc sr k c f =
    let l = f.low in
    let f₁ = accepted-put c f 100 (omega arith) (word (pos pc)) (word_sound _) in
    let l₁ = f₁.low in
    let f₂ = accepted-put _ f₁ 101 (omega arith) (word sr) (word_sound _) in
    let l₂ = f₂.low in
    accepted-put _ f₂ 102 (omega arith) (word (pos k)) (word_sound _)

-- whatever it saves
pub entered-accepted : {f : ℕ} (k : ℕ) (c : Core) → AcceptedCore f c → AcceptedCore f (entered_core k c)
unfolding entered_core entered_registers
entered-accepted k c f = with-registers _ _ (saved-accepted _ _ k c f) (omega arith) f.sp_a f.a_s f.b_s

-- S is set after entry
pub entry-sets : (m m' : Machine) → Entered m m' → supervisor m'.core.regs ≡ true
unfolding supervisor entered entered_core entered_registers
entry-sets m m' e =
    ap (λ (w : Machine). bit SUPERVISOR w.core.regs.sr) e.leaves ∙ entered-supervisor e.code e.moment.core.regs.sr
