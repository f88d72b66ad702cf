-- Demand 3, proved over lists of calls of run.
use mathlib.Core.Path.{◌≡◌, refl, sym, ap, ◌∙◌, subst}
use mathlib.Core.Bool.{true, true≢false}
use mathlib.Core.List.{List, [], ◌∷◌}
use Prim.Native.Nat.{ℕ, zero, suc, ◌<◌, ◌≤◌}
use native.Mathlib.Omega.{arith}
use lib.IntN.{pos, nat_abs}
use Rattle.definition.specs.declared.Cell.{Cell}
use Rattle.definition.specs.declared.Ran.{Ran}
use Rattle.definition.specs.Constants.{CYCLES-END, ROW-A, ROW-PC, ROW-SR, ROW-PENDING, ROW-FENCE, ROW-INTERVAL}
use Rattle.definition.specs.Word.{eq_z}
use Rattle.definition.specs.Memory.{cell, word, cell_at, is_instruction}
use Rattle.definition.specs.Registers.{supervisor}
use Rattle.definition.specs.Io.{Console}
use Rattle.definition.specs.Timer.{timed}
use Rattle.definition.specs.Exec.{core}
use Rattle.definition.specs.Runtime.{Machine, turn, machine, has_handler, entered_sr, entered_registers, entered_core, elapsed, Run, runs, uncounted, run}
use Rattle.definition.specs.Runtime as M
use Rattle.definition.specs.Calls.{Lent, lent_machine, lent_of, lent_supervisor, at, mark, machine_of, row_of, Called, ran, run_call, calls, answers}
use Rattle.definition.specs.UserMode.{Accepted, Alike, SameConsole, GoesNoFurther, Zeros, none, one, Entry, Whole, UserMode}
use Rattle.definition.specs.Accepted.{AcceptedCore, ConsoleIn, TimerIn, AcceptedMachine}
use Rattle.definition.proofs.AcceptedCore.{InUser}
use Rattle.definition.proofs.UserStep.{around, console, turn_is, turn_around, saved-pc, saved-sr, saved-code, saved-handler, entry-sets}
use Rattle.definition.proofs.UserRun.{run_around, Within, Last, RunEnd, in-user, entered, RunIs, user-run}
use Rattle.definition.proofs.Held.{Held, held-here, held_on, run-held}
use Rattle.definition.proofs.Row.{machine-back, accepted-machine, machine-accepted, row_back}
use Rattle.definition.proofs.Accepted.{marks-in, run_ends, call-on, runs-accepted}

-- ---- calls on what a machine is written to

call-left : (b : ℕ) (m : Machine) → AcceptedMachine m → (run_call b (lent_of m)).left ≡ lent_of (run b m).left
unfolding ran
call-left b m a = ap (λ (c : Called Ran Lent). c.left) (call-on b m a)

left-zero : (m : Machine) → (run 0 m).left ≡ m
unfolding run
left-zero m = refl

zero-call : (m : Machine) → AcceptedMachine m → (run_call 0 (lent_of m)).left ≡ lent_of m
zero-call m a = call-left 0 m a ∙ ap lent_of (left-zero m)

pub lent-supervisor : (m : Machine) → lent_supervisor (lent_of m) ≡ supervisor m.core.regs
unfolding lent_supervisor supervisor row_of
lent-supervisor m = refl

zeros-calls : {ns : List ℕ} → Zeros ns → (m : Machine) → AcceptedMachine m → calls ns (lent_of m) ≡ lent_of m
unfolding calls
zeros-calls none m a = refl
zeros-calls (one {ns} z) m a = ap (calls ns) (zero-call m a) ∙ zeros-calls z m a

zero-answer : (m₁ m₂ : Machine) → AcceptedMachine m₁ → AcceptedMachine m₂ → (run_call 0 (lent_of m₁)).answer ≡ (run_call 0 (lent_of m₂)).answer
unfolding ran run
zero-answer m₁ m₂ a₁ a₂ =
    ap (λ (c : Called Ran Lent). c.answer) (call-on 0 m₁ a₁) ∙ sym (ap (λ (c : Called Ran Lent). c.answer) (call-on 0 m₂ a₂))

zeros-answers : {ns : List ℕ} → Zeros ns → (m₁ m₂ : Machine) → AcceptedMachine m₁ → AcceptedMachine m₂ → answers ns (lent_of m₁) ≡ answers ns (lent_of m₂)
unfolding answers
zeros-answers none m₁ m₂ a₁ a₂ = refl
zeros-answers (one {ns} z) m₁ m₂ a₁ a₂ =
    λ i. zero-answer m₁ m₂ a₁ a₂ i ∷ (ap (answers ns) (zero-call m₁ a₁) ∙ zeros-answers z m₁ m₂ a₁ a₂ ∙ sym (ap (answers ns) (zero-call m₂ a₂))) i

-- ---- the list's condition

pub rest_of : (n : ℕ) (ns : List ℕ) (l : Lent) → GoesNoFurther (n ∷ ns) l → GoesNoFurther ns (run_call n l).left
unfolding calls
rest_of n ns l f = λ before b after e k h. f (n ∷ before) b after (ap (λ (x : List ℕ). n ∷ x) e) k h

first_of : (n : ℕ) (ns : List ℕ) (m : Machine) → AcceptedMachine m → GoesNoFurther (n ∷ ns) (lent_of m) → Within n m
unfolding calls
first_of n ns m a f k h =
    sym (lent-supervisor (run k m).left) ∙ sym (ap lent_supervisor (call-left k m a)) ∙ f [] n ns refl k h

-- with S set, only budgets of 0 are left
only-zeros : (ns : List ℕ) (m : Machine) → AcceptedMachine m → supervisor m.core.regs ≡ true → GoesNoFurther ns (lent_of m) → Zeros ns
unfolding calls
only-zeros [] m a s f = none
only-zeros (zero ∷ ns) m a s f =
    one (only-zeros ns m a s (subst (GoesNoFurther ns) (zero-call m a) (rest_of zero ns (lent_of m) f)))
only-zeros (suc n ∷ ns) m a s f =
    absurd (true≢false (sym s ∙ sym (lent-supervisor m) ∙ sym (ap lent_supervisor (zero-call m a)) ∙ f [] (suc n) ns refl 0 (omega arith)))

-- ---- the two machines

around-accepted : (k : Console) (v : Machine) → ConsoleIn k → AcceptedCore v.fence v.core → TimerIn v.timer → v.cycles < CYCLES-END → v.core.regs.empties ≡ 0 → AcceptedMachine (around k v)
around-accepted k v h c t n z =
    record { core_in = c; cycles_in = n; console_in = marks-in k _ h; timer_in = t; none_counted = z }

entry-on : (n : ℕ) (ns : List ℕ) (l : Lent) → Entry ns (run_call n l).left → Entry (n ∷ ns) l
unfolding calls
entry-on n ns l e =
    record {
      before = n ∷ e.before;
      n = e.n;
      after = e.after;
      split = ap (λ (x : List ℕ). n ∷ x) e.split;
      idle = e.idle;
      steps = e.steps;
      steps_before = e.steps_before;
      last = e.last;
      is_last = e.is_last;
      user = e.user;
      code = e.code;
      moment = e.moment;
      turns = e.turns;
      leaves = e.leaves;
      pc = e.pc;
      handler = e.handler;
      cell_100 = e.cell_100;
      cell_101 = e.cell_101;
      clear = e.clear;
      cell_102 = e.cell_102;
      small = e.small;
      sr = e.sr;
      taken = e.taken;
    }

around-entered : (k : Console) (n : ℕ) (v : Machine) → around k (elapsed n (M.entered n v)) ≡ elapsed n (M.entered n (around k v))
unfolding M.entered
around-entered k n v = refl

run-steps : (b : ℕ) (m : Machine) → AcceptedMachine m → (run_call b (lent_of m)).answer.steps ≡ (run b m).steps
unfolding ran
run-steps b m a = ap (λ (c : Called Ran Lent). c.answer.steps) (call-on b m a)

-- the run at this place enters, and only budgets of 0 stand behind it
module _ (k : Console) (v : Machine) (a : AcceptedMachine (around k v)) (ns : List ℕ) (z : Zeros ns) (b : ℕ) (r : RunIs b v) (l : Last b v) (before-is : run l.n (around k v) ≡ run_around k (run l.n v)) where
  final : calls (b ∷ ns) (lent_of (around k v)) ≡ lent_of (uncounted (elapsed l.entry.code (M.entered l.entry.code (around k l.entry.moment))))
  unfolding calls
  final =
      ap (calls ns) (call-left b (around k v) a)
      ∙ zeros-calls z (run b (around k v)).left (run_ends b (around k v) a).left_in
      ∙ ap (λ (x : Run). lent_of x.left) (r.is k)
      ∙ ap (λ (w : Machine). lent_of (around k w)) (l.leaves ∙ ap (λ (w : Machine). uncounted w) l.entry.leaves)
      ∙ ap (λ (w : Machine). lent_of (uncounted w)) (around-entered k l.entry.code l.entry.moment)

  last-left : run l.n (around k v) ≡ run_around k (runs 0 0 l.n l.empty l.last)
  last-left = before-is ∙ ap (run_around k) l.before

  last_none : l.last.core.regs.empties ≡ 0
  last_none = subst (λ (x : Run). x.left.core.regs.empties ≡ 0) last-left (run_ends l.n (around k v) a).left_in.none_counted

  entry_here : Entry (b ∷ ns) (lent_of (around k v))
  unfolding calls row_of M.entered entered_core entered_registers has_handler
  entry_here =
      let e = l.entry in
      let s = e.moment.core.regs in
      let c = e.moment.core.cells in
      let low = e.user.accepted.low in
      let sr-there : cell_at (calls (b ∷ ns) (lent_of (around k v))).cells 101 ≡ word s.sr = ap (λ (x : Lent). cell_at x.cells 101) final ∙ saved-sr s.pc s.sr e.code c low in
      record {
        before = [];
        n = l.n;
        after = ns;
        split = ap (λ (x : ℕ). x ∷ ns) l.budget;
        idle = z;
        steps = subst (λ (x : ℕ). (run_call x (lent_of (around k v))).answer.steps ≡ x) l.budget (run-steps b (around k v) a ∙ ap (λ (x : Run). x.steps) (r.is k) ∙ l.steps);
        steps_before = run-steps l.n (around k v) a ∙ ap (λ (x : Run). x.steps) last-left;
        last = lent_of (around k l.last);
        is_last = sym (call-left l.n (around k v) a ∙ ap (λ (x : Run). lent_of x.left) last-left);
        user = lent-supervisor (around k l.last) ∙ l.user.clear;
        code = e.code;
        moment = around k e.moment;
        turns = ap turn (machine-back (around k l.last) last_none) ∙ turn_is k l.last l.user ∙ ap (turn_around k) e.turns;
        leaves = ap lent_machine final ∙ machine-back (uncounted (elapsed e.code (M.entered e.code (around k e.moment)))) refl;
        pc = ap (λ (x : Lent). at ROW-PC x.row) final;
        handler = ap (λ (x : Lent). is_instruction (cell_at x.cells 200)) final ∙ ap is_instruction (saved-handler s.pc s.sr e.code c low) ∙ e.handler;
        cell_100 = ap (λ (x : Lent). cell_at x.cells 100) final ∙ saved-pc s.pc s.sr e.code c low;
        cell_101 = sr-there;
        clear = e.user.clear;
        cell_102 = ap (λ (x : Lent). cell_at x.cells 102) final ∙ saved-code s.pc s.sr e.code c low;
        small = e.small;
        sr = ap (λ (x : Lent). at ROW-SR x.row) final ∙ sym (ap (λ (x : Cell). entered_sr e.code x.first) sr-there);
        taken = λ h. ap (λ (x : Lent). at ROW-PENDING x.row) final ∙ ap mark (e.taken h);
      }

-- ---- the list, from two consoles around one machine

pub record UserCalls (ns : List ℕ) (v : Machine) (k₁ k₂ : Console) : Type 0 where
  pub after : Machine
  pub left₁ : calls ns (lent_of (around k₁ v)) ≡ lent_of (around k₁ after)
  pub left₂ : calls ns (lent_of (around k₂ v)) ≡ lent_of (around k₂ after)
  pub same : answers ns (lent_of (around k₁ v)) ≡ answers ns (lent_of (around k₂ v))
  pub held : Held v after
  pub entry₁ : supervisor after.core.regs ≡ true → Entry ns (lent_of (around k₁ v))
  pub entry₂ : supervisor after.core.regs ≡ true → Entry ns (lent_of (around k₂ v))

left_is : (n : ℕ) (v : Machine) (k : Console) → AcceptedMachine (around k v) → RunIs n v → (run_call n (lent_of (around k v))).left ≡ lent_of (around k (run n v).left)
left_is n v k a r = call-left n (around k v) a ∙ ap (λ (x : Run). lent_of x.left) (r.is k)

answer-is : (n : ℕ) (v : Machine) (k₁ k₂ : Console) → AcceptedMachine (around k₁ v) → AcceptedMachine (around k₂ v) → RunIs n v → (run_call n (lent_of (around k₁ v))).answer ≡ (run_call n (lent_of (around k₂ v))).answer
unfolding ran
answer-is n v k₁ k₂ a₁ a₂ r =
    ap (λ (c : Called Ran Lent). c.answer) (call-on n (around k₁ v) a₁ ∙ ap ran (r.is k₁)) ∙ sym (ap (λ (c : Called Ran Lent). c.answer) (call-on n (around k₂ v) a₂ ∙ ap ran (r.is k₂)))

after-accepted : (n : ℕ) (v : Machine) (k : Console) → AcceptedMachine (around k v) → RunIs n v → AcceptedMachine (around k (run n v).left)
after-accepted n v k a r = subst (λ (x : Run). AcceptedMachine x.left) (r.is k) (run_ends n (around k v) a).left_in

held-around : (k : Console) (v w : Machine) → Held (around k v) (around k w) → Held v w
held-around k v w h = record { fence = h.fence; interval = h.interval; size = h.size; others = h.others; clear = h.clear }

-- one call before the rest
module _ (n : ℕ) (ns : List ℕ) (v : Machine) (k₁ k₂ : Console) (a₁ : AcceptedMachine (around k₁ v)) (a₂ : AcceptedMachine (around k₂ v)) (r : RunIs n v) (h : Held v (run n v).left) where
  answers-on : answers ns (lent_of (around k₁ (run n v).left)) ≡ answers ns (lent_of (around k₂ (run n v).left)) → answers (n ∷ ns) (lent_of (around k₁ v)) ≡ answers (n ∷ ns) (lent_of (around k₂ v))
  unfolding answers
  answers-on e =
      λ i. answer-is n v k₁ k₂ a₁ a₂ r i ∷ (ap (answers ns) (left_is n v k₁ a₁ r) ∙ e ∙ sym (ap (answers ns) (left_is n v k₂ a₂ r))) i

  on-user : InUser (run n v).left → UserCalls ns (run n v).left k₁ k₂ → UserCalls (n ∷ ns) v k₁ k₂
  unfolding calls
  on-user u c =
      record {
        after = c.after;
        left₁ = ap (calls ns) (left_is n v k₁ a₁ r) ∙ c.left₁;
        left₂ = ap (calls ns) (left_is n v k₂ a₂ r) ∙ c.left₂;
        same = answers-on c.same;
        held = held_on v (run n v).left c.after h u.clear c.held;
        entry₁ = λ s. entry-on n ns (lent_of (around k₁ v)) (subst (Entry ns) (sym (left_is n v k₁ a₁ r)) (c.entry₁ s));
        entry₂ = λ s. entry-on n ns (lent_of (around k₂ v)) (subst (Entry ns) (sym (left_is n v k₂ a₂ r)) (c.entry₂ s));
      }

  on-entry : Zeros ns → (l : Last n v) → ((k : Console) → run l.n (around k v) ≡ run_around k (run l.n v)) → UserCalls (n ∷ ns) v k₁ k₂
  unfolding calls
  on-entry z l e =
      let b₁ = after-accepted n v k₁ a₁ r in
      let b₂ = after-accepted n v k₂ a₂ r in
      record {
        after = (run n v).left;
        left₁ = ap (calls ns) (left_is n v k₁ a₁ r) ∙ zeros-calls z (around k₁ (run n v).left) b₁;
        left₂ = ap (calls ns) (left_is n v k₂ a₂ r) ∙ zeros-calls z (around k₂ (run n v).left) b₂;
        same = answers-on (zeros-answers z (around k₁ (run n v).left) (around k₂ (run n v).left) b₁ b₂);
        held = h;
        entry₁ = λ s. entry_here k₁ v a₁ ns z n r l (e k₁);
        entry₂ = λ s. entry_here k₂ v a₂ ns z n r l (e k₂);
      }

module _ (k₁ k₂ : Console) (h₁ : ConsoleIn k₁) (h₂ : ConsoleIn k₂) where
  list_on : (n : ℕ) (ns : List ℕ) (v : Machine) (u : InUser v) (t : TimerIn v.timer) (c : v.cycles < CYCLES-END) (z : v.core.regs.empties ≡ 0) → GoesNoFurther (n ∷ ns) (lent_of (around k₁ v)) → ((w : Machine) → InUser w → TimerIn w.timer → w.cycles < CYCLES-END → w.core.regs.empties ≡ 0 → GoesNoFurther ns (lent_of (around k₁ w)) → UserCalls ns w k₁ k₂) → UserCalls (n ∷ ns) v k₁ k₂
  unfolding supervisor
  list_on n ns v u t c z f ih = go r.end
    where
      a₁ : AcceptedMachine (around k₁ v)
      a₁ = around-accepted k₁ v h₁ u.accepted t c z

      a₂ : AcceptedMachine (around k₂ v)
      a₂ = around-accepted k₂ v h₂ u.accepted t c z

      w : Within n (around k₁ v)
      w = first_of n ns (around k₁ v) a₁ f

      r : RunIs n v
      r = user-run k₁ n v u w

      h : Held v (run n v).left
      h =
          held-around k₁ v (run n v).left (subst (λ (x : Run). Held (around k₁ v) x.left) (r.is k₁) (run-held n (around k₁ v) u w))

      b₁ : AcceptedMachine (around k₁ (run n v).left)
      b₁ = after-accepted n v k₁ a₁ r

      g : GoesNoFurther ns (lent_of (around k₁ (run n v).left))
      g = subst (GoesNoFurther ns) (left_is n v k₁ a₁ r) (rest_of n ns (lent_of (around k₁ v)) f)

      go : RunEnd n v → UserCalls (n ∷ ns) v k₁ k₂
      go (in-user u') = on-user n ns v k₁ k₂ a₁ a₂ r h u' (ih (run n v).left u' b₁.timer_in b₁.cycles_in b₁.none_counted g)
      go (entered l) =
          on-entry n ns v k₁ k₂ a₁ a₂ r h (only-zeros ns (around k₁ (run n v).left) b₁ (ap (λ (x : Machine). supervisor x.core.regs) l.leaves ∙ entry-sets l.last l.reached l.entry) g) l (user-run k₁ l.n v u (λ i q. w i (let e = l.budget in omega arith))).is

  pub user-calls : (ns : List ℕ) (v : Machine) → InUser v → TimerIn v.timer → v.cycles < CYCLES-END → v.core.regs.empties ≡ 0 → GoesNoFurther ns (lent_of (around k₁ v)) → UserCalls ns v k₁ k₂
  unfolding calls answers
  user-calls [] v u t c z f =
      let clear : supervisor v.core.regs ≡ true → ⊥ = λ s. true≢false (sym s ∙ u.clear) in
      record { after = v; left₁ = refl; left₂ = refl; same = refl; held = held-here v; entry₁ = λ s. absurd (clear s); entry₂ = λ s. absurd (clear s) }
  user-calls (n ∷ ns) v u t c z f = list_on n ns v u t c z f (λ w u' t' c' z' f'. user-calls ns w u' t' c' z' f')

-- ---- the theorem

calls-accepted : (ns : List ℕ) (l : Lent) → Accepted l → Accepted (calls ns l)
unfolding calls
calls-accepted [] l h = h
calls-accepted (n ∷ ns) l h = calls-accepted ns (run_call n l).left (runs-accepted n l h).stays

same_row : (k₁ k₂ : Console) (v : Machine) (i : ℕ) → ROW-A ≤ i → i ≤ ROW-SR → at i (row_of (around k₁ v)) ≡ at i (row_of (around k₂ v))
unfolding row_of
same_row k₁ k₂ v zero h l = absurd (omega arith)
same_row k₁ k₂ v (suc zero) h l = refl
same_row k₁ k₂ v (suc (suc zero)) h l = refl
same_row k₁ k₂ v (suc (suc (suc zero))) h l = refl
same_row k₁ k₂ v (suc (suc (suc (suc zero)))) h l = refl
same_row k₁ k₂ v (suc (suc (suc (suc (suc zero))))) h l = refl
same_row k₁ k₂ v (suc (suc (suc (suc (suc (suc zero)))))) h l = refl
same_row k₁ k₂ v (suc (suc (suc (suc (suc (suc (suc zero))))))) h l = refl
same_row k₁ k₂ v (suc (suc (suc (suc (suc (suc (suc (suc zero)))))))) h l = refl
same_row k₁ k₂ v (suc (suc (suc (suc (suc (suc (suc (suc (suc zero))))))))) h l = refl
same_row k₁ k₂ v (suc (suc (suc (suc (suc (suc (suc (suc (suc (suc i)))))))))) h l = absurd (omega arith)

same-console : (k : Console) (v w : Machine) → SameConsole (lent_of (around k v)) (lent_of (around k w))
unfolding row_of
same-console k v w = record { queue = refl; output = refl; enable = refl; flag = refl; start = refl; count = refl; written = refl }

around-whole : (k₁ k₂ : Console) (v : Machine) → AcceptedMachine (around k₁ v) → AcceptedMachine (around k₂ v) → InUser v → (ns : List ℕ) → GoesNoFurther ns (lent_of (around k₁ v)) → Whole (lent_of (around k₁ v)) (lent_of (around k₂ v)) ns
unfolding row_of
around-whole k₁ k₂ v a₁ a₂ u ns f =
    let in₁ : ConsoleIn k₁ = marks-in (around k₁ v).console k₁.marks a₁.console_in in
    let in₂ : ConsoleIn k₂ = marks-in (around k₂ v).console k₂.marks a₂.console_in in
    let c = user-calls k₁ k₂ in₁ in₂ ns v u a₁.timer_in a₁.cycles_in a₁.none_counted f in
    let w = c.after in
    let alike : Alike (lent_of (around k₁ w)) (lent_of (around k₂ w)) = record { cells = refl; registers = same_row k₁ k₂ w; cycles = refl; pending = refl; fence = refl; interval = refl; remaining = refl; mark = refl } in
    record {
      accepted₁ = λ before after e. calls-accepted before (lent_of (around k₁ v)) (machine-accepted (around k₁ v) a₁);
      accepted₂ = λ before after e. calls-accepted before (lent_of (around k₂ v)) (machine-accepted (around k₂ v) a₂);
      alike = subst (λ (x : Lent). Alike x (calls ns (lent_of (around k₂ v)))) (sym c.left₁) (subst (λ (y : Lent). Alike (lent_of (around k₁ w)) y) (sym c.left₂) alike);
      same = c.same;
      console₁ = subst (λ (x : Lent). SameConsole (lent_of (around k₁ v)) x) (sym c.left₁) (same-console k₁ v w);
      console₂ = subst (λ (x : Lent). SameConsole (lent_of (around k₂ v)) x) (sym c.left₂) (same-console k₂ v w);
      fence₁ = ap (λ (x : Lent). at ROW-FENCE x.row) c.left₁ ∙ ap (λ (n : ℕ). pos n) c.held.fence;
      fence₂ = ap (λ (x : Lent). at ROW-FENCE x.row) c.left₂ ∙ ap (λ (n : ℕ). pos n) c.held.fence;
      interval₁ = ap (λ (x : Lent). at ROW-INTERVAL x.row) c.left₁ ∙ ap (λ (n : ℕ). pos n) c.held.interval;
      interval₂ = ap (λ (x : Lent). at ROW-INTERVAL x.row) c.left₂ ∙ ap (λ (n : ℕ). pos n) c.held.interval;
      entry₁ = λ s. c.entry₁ (sym (lent-supervisor (around k₁ w)) ∙ sym (ap lent_supervisor c.left₁) ∙ s);
      entry₂ = λ s. c.entry₂ (sym (lent-supervisor (around k₂ w)) ∙ sym (ap lent_supervisor c.left₂) ∙ s);
    }

-- two machines that are alike are one machine in two consoles
-- (the second console around the first machine is the second machine)
around-same : (l₁ l₂ : Lent) → Alike l₁ l₂ → around (lent_machine l₂).console (lent_machine l₁) ≡ lent_machine l₂
unfolding machine_of
around-same l₁ l₂ e =
    let g = e.registers in
    let p₁ = g 1 (omega arith) (omega arith) in
    let p₂ = g 2 (omega arith) (omega arith) in
    let p₃ = g 3 (omega arith) (omega arith) in
    let p₄ = g 4 (omega arith) (omega arith) in
    let p₅ = g 5 (omega arith) (omega arith) in
    let p₆ = g 6 (omega arith) (omega arith) in
    let p₇ = g 7 (omega arith) (omega arith) in
    let p₈ = g 8 (omega arith) (omega arith) in
    let p₉ = g 9 (omega arith) (omega arith) in
    λ i. machine (core (e.cells i) (record { a = cell (p₁ i) (p₂ i) (p₃ i); b = cell (p₄ i) (p₅ i) (p₆ i); pc = nat_abs (p₇ i); sp = nat_abs (p₈ i); sr = p₉ i; empties = 0 })) (nat_abs (e.cycles i)) (console (lent_machine l₂).console (eq_z (e.pending i) (pos 1))) (nat_abs (e.fence i)) (timed (nat_abs (e.interval i)) (nat_abs (e.remaining i)) (eq_z (e.mark i) (pos 1)))

pub user-mode : UserMode
unfolding lent_supervisor supervisor machine_of
user-mode l₁ l₂ h₁ h₂ clear alike ns f =
    let m₁ = lent_machine l₁ in
    let m₂ = lent_machine l₂ in
    let k₁ = m₁.console in
    let k₂ = m₂.console in
    let v = m₁ in
    let e₁ : lent_of (around k₁ v) ≡ l₁ = row_back l₁ h₁ in
    let e : around k₂ v ≡ m₂ = around-same l₁ l₂ alike in
    let e₂ : lent_of (around k₂ v) ≡ l₂ = ap lent_of e ∙ row_back l₂ h₂ in
    let a₁ = accepted-machine l₁ h₁ in
    let a₂ : AcceptedMachine (around k₂ v) = subst AcceptedMachine (sym e) (accepted-machine l₂ h₂) in
    let u : InUser v = record { accepted = a₁.core_in; clear = clear } in
    let w : Whole (lent_of (around k₁ v)) (lent_of (around k₂ v)) ns = around-whole k₁ k₂ v a₁ a₂ u ns (subst (GoesNoFurther ns) (sym e₁) f) in
    subst (λ (x : Lent). Whole x l₂ ns) e₁ (subst (λ (y : Lent). Whole (lent_of (around k₁ v)) y ns) e₂ w)
