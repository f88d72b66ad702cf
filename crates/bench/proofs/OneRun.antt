-- A seat's turns are one run on the sum of their budgets.
use mathlib.Core.Path.{◌≡◌, refl, sym, ap, ◌∙◌, subst}
use mathlib.Core.Bool.{Bool, true, false, cond, ◌&&◌, true≢false}
use mathlib.Core.List.{List, [], ◌∷◌, ◌++◌, foldr}
use Prim.Native.Nat.{ℕ, zero, suc, ◌+◌, ◌-◌, ◌≤◌}
use native.Mathlib.Omega.{arith}
use lib.Dec.{eqb, ltb}
use borrow.Author.Tests.{eqb-true, eq-eqb}
use Rattle.definition.specs.declared.Ran.{Ran}
use Rattle.definition.specs.Calls.{Lent, Called, run_call, calls, answers}
use Rattle.definition.specs.UserMode.{Accepted}
use Rattle.definition.specs.Exception.{BUDGET-SPENT}
use Rattle.definition.specs.Budgets.{later_call, in_turn}
use Rattle.definition.proofs.Verdict.{and_left}
use Rattle.definition.proofs.Budgets.{budgets-add}
use Rattle.bench.specs.declared.Seat.{Seat}
use Rattle.bench.specs.Seat.{can_go_on}
use Rattle.bench.specs.Bench.{Seated, Bench, takes_turn, turned, taken, round, round_of, goes_on, rounds, fuel, finished}
use Rattle.bench.specs.Laws.{seat_at, AllAccepted, also, budget_of, budgets_in_round, budgets_in, all_steps, last_stop, Reached, InOneRun}
use Rattle.bench.proofs.Laws.{either2, budget-limit, takes-can, can-below, can-then, round-accepted, round-reached, rounds-reached, by_itself}

abbrev sum : List ℕ → ℕ
sum = foldr ◌+◌ 0

sum-append : (ns ms : List ℕ) → sum (ns ++ ms) ≡ sum ns + sum ms
sum-append [] ms = omega arith
sum-append (n ∷ ns) ms = let e = sum-append ns ms in omega (arith, e)

some : List ℕ → Bool
some [] = false
some (n ∷ ns) = true

-- ---- runs of which each but the last ended with stop 0

data Paused : List ℕ → Lent → Type 0 where
  no_run : {l : Lent} → Paused [] l
  last : {n : ℕ} {l : Lent} → Paused (n ∷ []) l
  then : {n m : ℕ} {ns : List ℕ} {l : Lent} → (run_call n l).answer.stop ≡ 0 → Paused (m ∷ ns) (run_call n l).left → Paused (n ∷ m ∷ ns) l

paused-append : (s : ℕ) (ns ms : List ℕ) (l : Lent) → Paused ns l → Paused ms (calls ns l) → (some ms ≡ true → last_stop s (answers ns l) ≡ 0) → Paused (ns ++ ms) l
unfolding calls answers last_stop some
paused-append s [] ms l p q h = q
paused-append s (n ∷ []) [] l p q h = last
paused-append s (n ∷ []) (m ∷ ms) l p q h = then (h refl) q
paused-append s (n ∷ m ∷ ns) ms l (then e p) q h = then e (paused-append (run_call n l).answer.stop (m ∷ ns) ms (run_call n l).left p q h)

-- they are runs in turn
record InTurn (s n : ℕ) (ns : List ℕ) (l : Lent) : Type 0 where
  machine : (in_turn n ns l).left ≡ calls (n ∷ ns) l
  steps : (in_turn n ns l).answer.steps ≡ all_steps (answers (n ∷ ns) l)
  stop : (in_turn n ns l).answer.stop ≡ last_stop s (answers (n ∷ ns) l)

in-turn : (s n : ℕ) (ns : List ℕ) (l : Lent) → Paused (n ∷ ns) l → InTurn s n ns l
unfolding in_turn calls answers all_steps last_stop
in-turn s n [] l p = record { machine = refl; steps = omega arith; stop = refl }
in-turn s n (m ∷ ns) l (then e p) =
    let c = run_call n l in
    let i = in-turn c.answer.stop m ns c.left p in
    let q : in_turn n (m ∷ ns) l ≡ later_call c.answer (in_turn m ns c.left) = ap (λ (d : Bool). cond d (later_call c.answer (in_turn m ns c.left)) c) (eq-eqb c.answer.stop BUDGET-SPENT e) in
    record {
      machine = ap (λ (r : Called Ran Lent). r.left) q ∙ i.machine;
      steps = ap (λ (r : Called Ran Lent). r.answer.steps) q ∙ ap (λ (k : ℕ). c.answer.steps + k) i.steps;
      stop = ap (λ (r : Called Ran Lent). r.answer.stop) q ∙ i.stop;
    }

-- ---- a seat's turns are such runs

record Paces (x : Seated) (ns : List ℕ) (y : Seated) : Type 0 where
  starts : some ns ≡ true → can_go_on x.seat ≡ true
  paused : Paused ns x.machine
  within : sum ns ≤ x.seat.limit - x.seat.used
  -- a seat that can go on has taken every step of its budgets
  spent : can_go_on y.seat ≡ true → y.seat.used ≡ x.seat.used + sum ns

can-stop : (s : Seat) → can_go_on s ≡ true → s.stop ≡ 0
unfolding can_go_on
can-stop s h = eqb-true s.stop 0 (and_left _ (ltb s.used s.limit) h)

no-turn : (x : Seated) → Paces x [] x
unfolding some
no-turn x = record { starts = λ e. absurd (true≢false (sym e)); paused = no_run; within = omega arith; spent = λ e. omega arith }

same-can : (x y : Seated) → Reached x [] y → can_go_on y.seat ≡ can_go_on x.seat
unfolding can_go_on answers all_steps last_stop
same-can x y r =
    let u : y.seat.used ≡ x.seat.used = let v = r.used in omega (arith, v) in
    λ i. eqb (r.stop i) 0 && ltb (u i) (r.limit i)

joined : (x y z : Seated) (ns ms : List ℕ) → Reached x ns y → Reached y ms z → Paces x ns y → Paces y ms z → Paces x (ns ++ ms) z
unfolding some
joined x y z ns ms r r' p q = record {
  starts = starts ns r p;
  paused = paused-append x.seat.stop ns ms x.machine p.paused (subst (Paused ms) r.machine q.paused) (λ e. sym r.stop ∙ can-stop y.seat (q.starts e));
  within = within ms q;
  spent = spent ms r' q;
}
  where
    starts : (ns : List ℕ) → Reached x ns y → Paces x ns y → some (ns ++ ms) ≡ true → can_go_on x.seat ≡ true
    starts [] r p e = sym (same-can x y r) ∙ q.starts e
    starts (n ∷ ns) r p e = p.starts refl

    within : (ms : List ℕ) → Paces y ms z → sum (ns ++ ms) ≤ x.seat.limit - x.seat.used
    within [] q = omega (arith, sum-append ns [], p.within)
    within (m ∷ ms) q =
        let c = q.starts refl in
        omega (arith, sum-append ns (m ∷ ms), p.spent c, q.within, can-below y.seat c, r.limit)

    spent : (ms : List ℕ) → Reached y ms z → Paces y ms z → can_go_on z.seat ≡ true → z.seat.used ≡ x.seat.used + sum (ns ++ ms)
    spent [] r' q c = omega (arith, sum-append ns [], p.spent (sym (same-can y z r') ∙ c), q.spent c)
    spent (m ∷ ms) r' q c = omega (arith, sum-append ns (m ∷ ms), p.spent (q.starts refl), q.spent c)

turn-paces : (t : ℕ) (x : Seated) → Accepted x.machine → Paces x (budget_of t x) (turned t x)
unfolding budget_of turned some
turn-paces t x a =
    either2 (Paces x) (takes_turn t x)
    (λ h. record {
      starts = λ e. takes-can t x h;
      paused = last;
      within = omega (arith, budget-limit x.seat t);
      spent = λ c. omega (arith, can-then t x a c);
    })
    (λ h. no-turn x)

round-paces : (i t : ℕ) (xs : List Seated) → AllAccepted xs → Paces (seat_at i xs) (budgets_in_round i t xs) (seat_at i (round t xs).seats)
unfolding budgets_in_round round
round-paces i t [] ps = no-turn (seat_at i [])
round-paces zero t (x ∷ xs) (also a ps) = turn-paces t x a
round-paces (suc i) t (x ∷ xs) (also a ps) = round-paces i (t - taken t x) xs ps

rounds-paces : (n i : ℕ) (b : Bench) → AllAccepted b.seats → Paces (seat_at i b.seats) (budgets_in n i b) (seat_at i (rounds n b).seats)
unfolding budgets_in rounds
rounds-paces zero i b ps = no-turn (seat_at i b.seats)
rounds-paces (suc n) i b ps =
    either2 (λ (ns : List ℕ) (e : Bench). Paces (seat_at i b.seats) ns (seat_at i e.seats)) (goes_on b)
    (λ h. joined _ _ _ (budgets_in_round i b.total b.seats) (budgets_in n i (round_of b)) (round-reached i b.total b.seats) (rounds-reached n i (round_of b))
    (round-paces i b.total b.seats ps) (rounds-paces n i (round_of b) (round-accepted b.total b.seats ps)))
    (λ h. no-turn (seat_at i b.seats))

pub in-one-run : InOneRun
unfolding finished
in-one-run b ps i n ns e =
    let x = seat_at i b.seats in
    let l = x.machine in
    let r = by_itself b i in
    let p = subst (λ (ms : List ℕ). Paces (seat_at i b.seats) ms (seat_at i (finished b).seats)) e (rounds-paces (fuel b) i b ps) in
    let q = in-turn x.seat.stop n ns l p.paused in
    let w = budgets-add.all n ns l in
    record {
      machine = r.machine ∙ ap (λ (ms : List ℕ). calls ms l) e ∙ sym q.machine ∙ ap (λ (c : Called Ran Lent). c.left) w;
      used = r.used ∙ ap (λ (k : ℕ). x.seat.used + k) (ap (λ (ms : List ℕ). all_steps (answers ms l)) e ∙ sym q.steps ∙ ap (λ (c : Called Ran Lent). c.answer.steps) w);
      stop = r.stop ∙ ap (λ (ms : List ℕ). last_stop x.seat.stop (answers ms l)) e ∙ sym q.stop ∙ ap (λ (c : Called Ran Lent). c.answer.stop) w;
      fits = p.within;
    }
