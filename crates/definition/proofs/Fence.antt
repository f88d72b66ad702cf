-- The fence: cells below it hold what they held, save where the handler is entered. Over steps, and over lists of calls of run.
use mathlib.Core.Path.{◌≡◌, refl, sym, ap, ◌∙◌, subst}
use mathlib.Core.Bool.{false}
use mathlib.Core.List.{List, [], ◌∷◌, ◌++◌}
use Prim.Native.Nat.{ℕ, zero, suc, ◌/◌, ◌<◌}
use native.Mathlib.Omega.{arith}
use lib.IntN.{ℤ, pos}
use lib.ListN.{length, get_or, drop}
use Rattle.definition.specs.Constants.{ROW-FENCE}
use Rattle.definition.specs.Memory.{cell_count, cell_at}
use Rattle.definition.specs.Registers.{supervisor}
use Rattle.definition.specs.Runtime.{Machine, Outcome, completed, stopped, reached, step, uncounted}
use Rattle.definition.specs.Calls.{Lent, lent_machine, lent_of, lent_supervisor, at, machine_of, row_of, run_call, calls}
use Rattle.definition.specs.UserMode.{GoesNoFurther}
use Rattle.definition.specs.Accepted.{AcceptedMachine}
use Rattle.definition.specs.Fence.{Holds, KernelHolds, steps, EntersHandler, FencedSteps, BegunClear, StepsFenced, FencedCalls, CallsFenced}
use Rattle.definition.proofs.AcceptedCore.{InUser}
use Rattle.definition.proofs.UserStep.{around, stays, entry, OutcomeEnds, step-ends}
use Rattle.definition.proofs.Held.{Held, held-here, held_on, held-uncounted, clear-uncounted, user-uncounted, step-held, step-user}
use Rattle.definition.proofs.Row.{accepted-machine, row_back}
use Rattle.definition.proofs.UserMode.{lent-supervisor, rest_of, UserCalls, user-calls}

kernel-holds : (m w : Machine) → Held m w → KernelHolds m.fence m.core.cells w.core.cells
kernel-holds m w h =
    record { cells = h.others; handler = λ l. h.others 200 (omega arith) (λ e. omega arith) (λ e. omega arith) (λ e. omega arith) }

-- ---- steps

module _ (m : Machine) (u : InUser m) where
  steps-user : (n : ℕ) → BegunClear n m → supervisor (steps n m).core.regs ≡ false → InUser (steps n m)
  unfolding steps
  steps-user zero f s = u
  steps-user (suc n) f s =
      let w = steps n m in
      user-uncounted (reached (step w)) (step-user w (steps-user n (λ i l. f i (omega arith)) (f n (omega arith))) (clear-uncounted (reached (step w)) s))

  begun-user : (n : ℕ) → BegunClear n m → (i : ℕ) → i < n → InUser (steps i m)
  begun-user n f i l = steps-user i (λ j k. f j (omega arith)) (f i l)

  steps-held : (n : ℕ) → BegunClear n m → Held m (steps n m)
  unfolding steps
  steps-held zero f = held-here m
  steps-held (suc n) f =
      let w = steps n m in
      let l : n < suc n = omega arith in
      held_on m w (uncounted (reached (step w))) (steps-held n (λ i k. f i (omega arith))) (f n l) (held-uncounted w (reached (step w)) (step-held w (begun-user (suc n) f n l)))

-- a step that does not enter the handler leaves S clear
stays-clear : (m : Machine) (o : Outcome) → step m ≡ o → OutcomeEnds m o → (EntersHandler m → ⊥) → supervisor (reached o).core.regs ≡ false
unfolding reached
stays-clear m (completed w) e (stays u) n = u.clear
stays-clear m (completed w) e (entry r) n =
    absurd (n (record { code = r.code; moment = r.moment; turns = r.turns; handler = r.handler; leaves = e ∙ ap completed r.leaves }))
stays-clear m (stopped why w) e u n = u.clear

fenced-by : (m : Machine) → InUser m → (n : ℕ) → BegunClear n m → FencedSteps m n
unfolding steps
fenced-by m u n f =
    let h = steps-held m u n f in
    record {
      fence = h.fence;
      kernel = kernel-holds m (steps n m) h;
      saves = λ i l e k b.
          (let w = steps i m in
          let v = begun-user m u n f i l in
          let q = (steps-held m u i (λ j p. f j (omega arith))).fence in
          (step-held w v).clear (stays-clear w (step w) refl (step-ends w v) e) k (omega arith));
    }

pub steps-fenced : StepsFenced
unfolding steps
steps-fenced m a zero f =
    record { fence = refl; kernel = kernel-holds m m (held-here m); saves = λ i l. absurd (omega arith) }
steps-fenced m a (suc n) f = fenced-by m (record { accepted = a.core_in; clear = f 0 (omega arith) }) (suc n) f

-- ---- calls of run

-- the first budget, and what the rest of the list says of what it leaves
goes_on : (n : ℕ) (ns : List ℕ) (l : Lent) → ((i : ℕ) → i < n → lent_supervisor (run_call i l).left ≡ false) → GoesNoFurther ns (run_call n l).left → GoesNoFurther (n ∷ ns) l
unfolding calls
goes_on n ns l h f [] b after e i k =
    let q : n ≡ b = ap (λ (x : List ℕ). get_or x 0 0) e in
    h i (omega arith)
goes_on n ns l h f (x ∷ before) b after e i k =
    let q : n ≡ x = ap (λ (y : List ℕ). get_or y 0 0) e in
    subst (λ (y : ℕ). lent_supervisor (calls (before ++ i ∷ []) (run_call y l).left) ≡ false) q (f before b after (ap (drop 1) e) i k)

-- a list cut before its last step
cut_short : (before : List ℕ) (n : ℕ) (after : List ℕ) (l : Lent) → GoesNoFurther (before ++ suc n ∷ after) l → GoesNoFurther (before ++ n ∷ []) l
unfolding calls
cut_short [] n after l f = goes_on n [] l (λ i k. f [] (suc n) after refl i (omega arith)) (λ before b more e. absurd (empty-split before b more e))
  where
    empty-split : (before : List ℕ) (b : ℕ) (more : List ℕ) → [] ≡ before ++ b ∷ more → ⊥
    empty-split [] b more e = let q : 0 ≡ suc (length more) = ap length e in omega arith
    empty-split (x ∷ before) b more e = let q : 0 ≡ suc (length (before ++ b ∷ more)) = ap length e in omega arith
cut_short (x ∷ before) n after l f =
    goes_on x (before ++ n ∷ []) l (λ i k. f [] x (before ++ suc n ∷ after) refl i k) (cut_short before n after (run_call x l).left (rest_of x (before ++ suc n ∷ after) l f))

module _ (m : Machine) (a : AcceptedMachine m) (u : InUser m) where
  here : (ns : List ℕ) → GoesNoFurther ns (lent_of m) → UserCalls ns m m.console m.console
  here ns f = user-calls m.console m.console a.console_in a.console_in ns m u a.timer_in a.cycles_in a.none_counted f

  left-cells : (ns : List ℕ) (f : GoesNoFurther ns (lent_of m)) → (calls ns (lent_of m)).cells ≡ (here ns f).after.core.cells
  left-cells ns f = ap (λ (x : Lent). x.cells) (here ns f).left₁

  mode : (ns : List ℕ) (f : GoesNoFurther ns (lent_of m)) → lent_supervisor (calls ns (lent_of m)) ≡ supervisor (here ns f).after.core.regs
  mode ns f = ap lent_supervisor (here ns f).left₁ ∙ lent-supervisor (around m.console (here ns f).after)

  clear-holds : (ns : List ℕ) → GoesNoFurther ns (lent_of m) → lent_supervisor (calls ns (lent_of m)) ≡ false → (n : ℕ) → n < m.fence → Holds n m.core.cells (calls ns (lent_of m)).cells
  clear-holds ns f s n h = ap (λ (l : List ℤ). cell_at l n) (left-cells ns f) ∙ (here ns f).held.clear (sym (mode ns f) ∙ s) n h

  calls-fenced-by : (ns : List ℕ) → GoesNoFurther ns (lent_of m) → FencedCalls ns (lent_of m)
  unfolding row_of
  calls-fenced-by ns f =
      let c = here ns f in
      record {
        fence = ap (λ (x : Lent). at ROW-FENCE x.row) c.left₁ ∙ ap (λ (n : ℕ). pos n) c.held.fence;
        count = ap cell_count (left-cells ns f) ∙ ap (λ (n : ℕ). n / 3) c.held.size;
        kernel = subst (λ (l : List ℤ). KernelHolds m.fence m.core.cells l) (sym (left-cells ns f)) (kernel-holds m c.after c.held);
        clear = clear-holds ns f;
        enters = λ s.
            (let e = c.entry₁ (sym (mode ns f) ∙ s) in
            let g : GoesNoFurther (e.before ++ e.n ∷ []) (lent_of m) = cut_short e.before e.n e.after (lent_of m) (subst (λ (x : List ℕ). GoesNoFurther x (lent_of m)) e.split f) in
            record {
              entry = e;
              before = λ n h. ap (λ (x : Lent). cell_at x.cells n) e.is_last ∙ clear-holds (e.before ++ e.n ∷ []) g (sym (ap lent_supervisor e.is_last) ∙ e.user) n h;
            });
      }

pub calls-fenced : CallsFenced
unfolding lent_supervisor supervisor machine_of
calls-fenced l h clear ns f =
    let m = lent_machine l in
    let e : lent_of m ≡ l = row_back l h in
    let a = accepted-machine l h in
    let u : InUser m = record { accepted = a.core_in; clear = clear } in
    subst (FencedCalls ns) e (calls-fenced-by m a u ns (subst (GoesNoFurther ns) (sym e) f))
