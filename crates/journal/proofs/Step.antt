-- A step's cells: what it wrote, put back, gives those before it; stops 6 and 7 leave the machine.
use Rattle.definition.specs.declared.Executed.{Executed}
use Rattle.definition.specs.declared.Request.{Request}
use Rattle.definition.specs.declared.Request.TheVariants.{Nothing, Reads, Writes}
use mathlib.Core.Path.{◌≡◌, refl, sym, ap, ◌∙◌, subst}
use mathlib.Core.Bool.{Bool, true, false, cond, ◌&&◌, true≢false}
use mathlib.Core.List.{List, [], ◌∷◌, ◌++◌}
use Prim.Native.Nat.{ℕ, ◌<◌, ◌≤◌}
use native.Mathlib.Omega.{arith}
use lib.IntN.{ℤ, pos}
use lib.Dec.{ltb, eqb}
use Rattle.definition.specs.declared.Error.{Error}
use Rattle.definition.specs.declared.Error.TheVariants.{DivByZero, InvalidInstruction, PrivilegedInstruction, Trap, InvalidMemoryAccess, CellError, Extract, InvalidPc, InvalidSp, InvalidSr, Reset}
use Rattle.definition.specs.Constants.{CYCLES-END, TIMER-INTERVAL-PORT}
use Rattle.definition.specs.declared.Stop.TheVariants as S
use Rattle.definition.specs.Exception.{ending, HARDWARE-INTERRUPT, stop_number}
use Rattle.definition.specs.Memory.{word, cell_count}
use Rattle.definition.specs.Registers.{interrupt_enable}
use Rattle.definition.specs.Io.{read_port, write_port, output_full}
use Rattle.definition.specs.Timer.{with_timer_mark, set_timer, tick, read_timer}
use Rattle.definition.specs.Exec.{Core, Res, ok, err}
use Rattle.definition.specs.Instructions.{set_register}
use Rattle.definition.specs.Runtime.{Machine, with_core, with_console, with_timer, with_mark, executed, attempt, Turn, completes, enters, stops, ends, poll, conclude, serve, after_attempt, guard, turn, Outcome, completed, stopped, has_handler, entered_core, entered, recover, elapses, settle, reached, limit, step}
use Rattle.definition.specs.Accepted.{Sound, AcceptedCore, AcceptedMachine}
use Rattle.definition.proofs.Keeps.{Good, attempt-keeps}
use Rattle.definition.proofs.AcceptedCore.{any_laws}
use Rattle.journal.specs.Writes.{Held, held_at, instruction_writes, entry_writes, step_writes, undone}
use Rattle.journal.specs.Journal.{begins}
use Rattle.journal.specs.StepBack.{cells_of, SoundCells}
use Rattle.journal.proofs.Still.{s-set}
use Rattle.journal.proofs.Cells.{undone-append, undone-count, saved-back}
use Rattle.journal.proofs.OneWrite.{InList, attempt-holds}

-- ---- up to entry: the cells are those of the instruction's result, l; m is the machine before the step

abbrev TurnCells : Machine → List ℤ → Turn → Type 0
TurnCells m l (completes w) = w.core.cells ≡ l
TurnCells m l (enters k w) = w.core.cells ≡ l
TurnCells m l (stops s w) = (begins (stop_number s) ≡ true → w.core.cells ≡ l) × (begins (stop_number s) ≡ false → w ≡ m)

module _ (m : Machine) (l : List ℤ) where
  ends-cells : (e : Error) (w : Machine) → w.core.cells ≡ l → TurnCells m l (ends (ending e) w)
  unfolding ends ending begins
  ends-cells DivByZero w q = q
  ends-cells InvalidInstruction w q = q
  ends-cells PrivilegedInstruction w q = q
  ends-cells Trap w q = q
  ends-cells InvalidMemoryAccess w q = q
  ends-cells CellError w q = ((λ h. q), λ h. absurd (true≢false h))
  ends-cells Extract w q = ((λ h. q), λ h. absurd (true≢false h))
  ends-cells InvalidPc w q = ((λ h. q), λ h. absurd (true≢false h))
  ends-cells InvalidSp w q = ((λ h. q), λ h. absurd (true≢false h))
  ends-cells InvalidSr w q = ((λ h. q), λ h. absurd (true≢false h))
  ends-cells Reset w q = ((λ h. q), λ h. absurd (true≢false h))

  poll-cells : (w : Machine) → w.core.cells ≡ l → TurnCells m l (poll w)
  unfolding poll
  poll-cells w q = go (interrupt_enable w.core.regs && w.console.marks.pending) (interrupt_enable w.core.regs && w.timer.mark)
    where
      go : (p t : Bool) → TurnCells m l (cond p (enters HARDWARE-INTERRUPT (with_mark false w)) (cond t (enters HARDWARE-INTERRUPT (with_timer (with_timer_mark false w.timer) w)) (completes w)))
      go true t = q
      go false true = q
      go false false = q

  conclude-cells : (cost : ℕ) (w : Machine) (r : Res (Unit {0})) → cells_of r ≡ l → TurnCells m l (conclude cost w r)
  unfolding conclude
  conclude-cells cost w (ok u c) q = poll-cells (with_timer (tick cost w.timer) (executed cost c w)) q
  conclude-cells cost w (err e c) q = ends-cells e (with_core c w) q

  serve-cells : (q : Request) (cost : ℕ) (c : Core) → c.cells ≡ l → TurnCells m l (serve m q cost c)
  unfolding serve begins
  serve-cells Nothing cost c e = conclude-cells cost m (ok tt c) e
  serve-cells (Reads p r) cost c e =
      conclude-cells cost (with_console (read_port p m.console).1 m) (set_register r (word (pos (read_timer p m.timer (read_port p m.console).0))) c) ((s-set r _).at c ∙ e)
  serve-cells (Writes p w) cost c e = go (output_full p m.console) (eqb p TIMER-INTERVAL-PORT)
    where
      go : (t d : Bool) → TurnCells m l (cond t (stops S.OutputFull m) (cond d (poll (with_timer (set_timer w m.timer) (executed cost c m))) (conclude cost (with_console (write_port p w m.console) m) (ok tt c))))
      go true d = ((λ h. absurd (true≢false (sym h))), λ h. refl)
      go false true = poll-cells (with_timer (set_timer w m.timer) (executed cost c m)) e
      go false false = conclude-cells cost (with_console (write_port p w m.console) m) (ok tt c) e

  after-cells : (r : Res Executed) → cells_of r ≡ l → TurnCells m l (after_attempt m r)
  unfolding after_attempt
  after-cells (ok x c) q = serve-cells x.request x.cost c q
  after-cells (err e c) q = ends-cells e (with_core c m) q

turn-cells : (m : Machine) → TurnCells m (cells_of (attempt (guard m) m.core)) (turn m)
unfolding turn
turn-cells m = after-cells m (cells_of (attempt (guard m) m.core)) (attempt (guard m) m.core) refl

-- ---- the end of a step: hs put back gives the cells of m

abbrev pub OutcomeUndone : Machine → List Held → Outcome → Type 0
OutcomeUndone m hs (completed w) = undone hs w.core.cells ≡ m.core.cells
OutcomeUndone m hs (stopped s w) = (begins (stop_number s) ≡ true → undone hs w.core.cells ≡ m.core.cells) × (begins (stop_number s) ≡ false → w ≡ m)

module _ (m : Machine) (l : List ℤ) (hs : List Held) (u : undone hs l ≡ m.core.cells) (low : 256 ≤ cell_count l) where
  plainly : (k : List ℤ) → k ≡ l → undone (hs ++ []) k ≡ m.core.cells
  unfolding undone
  plainly k q = undone-append hs [] k ∙ ap (undone hs) q ∙ u

  settle-undone : (t : Turn) → TurnCells m l t → OutcomeUndone m (hs ++ entry_writes t) (settle t)
  unfolding settle recover elapses entry_writes begins entered entered_core
  settle-undone (completes w) q = plainly w.core.cells q
  settle-undone (enters k w) q = go (has_handler w.core.cells)
    where
      go : (b : Bool) → OutcomeUndone m (hs ++ cond b (held_at w.core.cells 100 ∷ held_at w.core.cells 101 ∷ held_at w.core.cells 102 ∷ []) []) (elapses k (cond b (completed (entered k w)) (stopped (S.NoHandler k) w)))
      go true =
          undone-append hs (held_at w.core.cells 100 ∷ held_at w.core.cells 101 ∷ held_at w.core.cells 102 ∷ []) _
          ∙ ap (undone hs) (saved-back w.core.regs.pc w.core.regs.sr k w.core.cells (subst (λ (x : List ℤ). 256 ≤ cell_count x) (sym q) low) ∙ q)
          ∙ u
      go false = ((λ h. plainly w.core.cells q), λ h. absurd (true≢false h))
  settle-undone (stops s w) q = ((λ h. plainly w.core.cells (q.0 h)), q.1)

limit-undone : (m : Machine) (hs : List Held) (o : Outcome) → OutcomeUndone m hs o → OutcomeUndone m hs (limit m o)
unfolding limit reached begins
limit-undone m hs (completed w) q = go (ltb w.cycles CYCLES-END)
  where
    go : (b : Bool) → OutcomeUndone m hs (cond b (completed w) (stopped S.CyclesFull m))
    go true = q
    go false = ((λ h. absurd (true≢false (sym h))), λ h. refl)
limit-undone m hs (stopped s w) q = go (ltb w.cycles CYCLES-END)
  where
    go : (b : Bool) → OutcomeUndone m hs (cond b (stopped s w) (stopped S.CyclesFull m))
    go true = q
    go false = ((λ h. absurd (true≢false (sym h))), λ h. refl)

module _ (m : Machine) (a : AcceptedMachine m) where
  abbrev after : List ℤ
  after = cells_of (attempt (guard m) m.core)

  instruction-undone : undone (instruction_writes (guard m) m.core) after ≡ m.core.cells
  unfolding instruction_writes
  instruction-undone = (attempt-holds (guard m) m.core).undoes

  after-count : cell_count after ≡ cell_count m.core.cells
  after-count = sym (undone-count (instruction_writes (guard m) m.core) after) ∙ ap (λ (x : List ℤ). cell_count x) instruction-undone

  after-low : 256 ≤ cell_count after
  after-low = let e = after-count in let l = a.core_in.low in omega arith

  pub step-undone : OutcomeUndone m (step_writes m) (step m)
  unfolding step step_writes
  step-undone =
      limit-undone m (instruction_writes (guard m) m.core ++ entry_writes (turn m)) (settle (turn m)) (settle-undone m after (instruction_writes (guard m) m.core) instruction-undone after-low (turn m) (turn-cells m))

-- ---- what was written stood inside and was sound

abbrev pub Fit : ℕ → List Held → Type 0
Fit n [] = Unit {0}
Fit n (h ∷ hs) = ((h.address < n) × Sound h.cell) × Fit n hs

fit_append : (n : ℕ) (a b : List Held) → Fit n a → Fit n b → Fit n (a ++ b)
fit_append n [] b p q = q
fit_append n (h ∷ a) b p q = (p.0, fit_append n a b p.1 q)

fit-list : (l : List ℤ) (hs : List Held) → SoundCells l → InList l hs → Fit (cell_count l) hs
fit-list l [] s p = tt
fit-list l (h ∷ hs) s p = ((p.0.0, subst Sound (sym p.0.1) (s h.address p.0.0)), fit-list l hs s p.1)

entry-fit : (m : Machine) (l : List ℤ) (t : Turn) → TurnCells m l t → 256 ≤ cell_count l → SoundCells l → Fit (cell_count l) (entry_writes t)
unfolding entry_writes
entry-fit m l (completes w) q low s = tt
entry-fit m l (enters k w) q low s =
    subst
    (λ (x : List ℤ). Fit (cell_count l) (cond (has_handler x) (held_at x 100 ∷ held_at x 101 ∷ held_at x 102 ∷ []) []))
    (sym q)
    (go (has_handler l))
  where
    go : (b : Bool) → Fit (cell_count l) (cond b (held_at l 100 ∷ held_at l 101 ∷ held_at l 102 ∷ []) [])
    go true =
        ((let h : 100 < cell_count l = omega arith in h, s 100 (omega arith)), ((let h : 101 < cell_count l = omega arith in h, s 101 (omega arith)), ((let h : 102 < cell_count l = omega arith in h, s 102 (omega arith)), tt)))
    go false = tt
entry-fit m l (stops why w) q low s = tt

abbrev Any : {X : Type 0} → X → Type 0
Any v = Unit {0}

good-sound : {X : Type 0} (f : ℕ) (r : Res X) → Good (AcceptedCore f) Any r → SoundCells (cells_of r)
good-sound f (ok v c) g = g.1.cells_s
good-sound f (err e c) g = g.cells_s

pub writes-fit : (m : Machine) → AcceptedMachine m → Fit (cell_count m.core.cells) (step_writes m)
unfolding step_writes instruction_writes
writes-fit m a =
    let after = cells_of (attempt (guard m) m.core) in
    let good = attempt-keeps (guard m) (AcceptedCore m.fence) Sound (Unit {0}) (λ (q : Request). Unit {0}) (any_laws (guard m) m.fence) m.core a.core_in in
    fit_append
    (cell_count m.core.cells)
    (instruction_writes (guard m) m.core)
    (entry_writes (turn m))
    (fit-list m.core.cells (instruction_writes (guard m) m.core) a.core_in.cells_s (attempt-holds (guard m) m.core).inside)
    (subst (λ (n : ℕ). Fit n (entry_writes (turn m))) (after-count m a) (entry-fit m after (turn m) (turn-cells m) (after-low m a) (good-sound m.fence (attempt (guard m) m.core) good)))
