-- What holds of every bench.
use mathlib.Core.Path.{◌≡◌, refl, sym, ap, ◌∙◌}
use mathlib.Core.Bool.{Bool, true, false, cond, ◌&&◌, ◌||◌, true≢false}
use mathlib.Core.Logic.{◌≢◌}
use mathlib.Core.List.{List, [], ◌∷◌, ◌++◌}
use Prim.Native.Nat.{ℕ, zero, suc, ◌+◌, ◌-◌, ◌<◌, ◌≤◌}
use native.Mathlib.Omega.{arith}
use native.Mathlib.Nat.{zero-add, suc-add}
use lib.ListN.{length}
use lib.Dec.{ltb, eqb}
use borrow.Author.Tests.{ltb-true, ltb-false, lt-ltb, eqb-true}
use Rattle.definition.specs.declared.Ran.{Ran}
use Rattle.definition.specs.Calls.{Lent, Called, called, run_call, calls, answers}
use Rattle.definition.specs.UserMode.{Accepted}
use Rattle.definition.proofs.Verdict.{and_left, and_right, and_both}
use Rattle.definition.proofs.Accepted.{runs-accepted}
use Rattle.definition.proofs.UserMode.{user-mode}
use Rattle.bench.specs.declared.Seat.{Seat}
use Rattle.bench.specs.declared.Benched.{Benched}
use Rattle.bench.specs.Seat.{can_go_on, least, turn_budget, after}
use Rattle.bench.specs.Bench.{Seated, seated, Bench, bench, takes_turn, turn, turned, taken, round, round_of, some_can, goes_on, rounds, going, fuel, finished, bench_check, bench_of, bench_call, list_of, buffers_of, benched}
use Rattle.bench.specs.Laws.{seat_at, AllAccepted, none, also, TurnsFall, BenchEnds, all_used, AddsUp, Waited, EachWaited, Waits, AllWait, budget_of, budgets_in_round, budgets_in, turn_budgets, all_steps, last_stop, Turns, Reached, ByItself, SeatBySeat, RefusedKeeps}

-- ---- a choice, by its cases

pub either : {A : Type 0} (P : A → Type 0) (c : Bool) {x y : A} → (c ≡ true → P x) → (c ≡ false → P y) → P (cond c x y)
either P true p q = p refl
either P false p q = q refl

pub either2 : {A B : Type 0} (P : A → B → Type 0) (c : Bool) {x y : A} {u v : B} → (c ≡ true → P x u) → (c ≡ false → P y v) → P (cond c x y) (cond c u v)
either2 P true p q = p refl
either2 P false p q = q refl

-- ---- a turn's budget

least-below : (a b : ℕ) → (least a b ≤ a) × (least a b ≤ b)
unfolding least
least-below a b = go (ltb a b) refl
  where
    go : (c : Bool) → ltb a b ≡ c → (cond c a b ≤ a) × (cond c a b ≤ b)
    go true h = let l = ltb-true a b h in (omega arith, omega arith)
    go false h = let l = ltb-false a b h in (omega arith, omega arith)

least-some : (a b : ℕ) → 1 ≤ a → 1 ≤ b → 1 ≤ least a b
unfolding least
least-some a b p q = go (ltb a b)
  where
    go : (c : Bool) → 1 ≤ cond c a b
    go true = p
    go false = q

pub budget-most : (s : Seat) (t : ℕ) → turn_budget s t ≤ 100
unfolding turn_budget
budget-most s t = (least-below 100 (least (s.limit - s.used) t)).0

pub budget-limit : (s : Seat) (t : ℕ) → turn_budget s t ≤ s.limit - s.used
unfolding turn_budget
budget-limit s t = let p = (least-below 100 (least (s.limit - s.used) t)).1 in let q = (least-below (s.limit - s.used) t).0 in omega arith

pub budget-total : (s : Seat) (t : ℕ) → turn_budget s t ≤ t
unfolding turn_budget
budget-total s t = let p = (least-below 100 (least (s.limit - s.used) t)).1 in let q = (least-below (s.limit - s.used) t).1 in omega arith

pub can-below : (s : Seat) → can_go_on s ≡ true → s.used < s.limit
unfolding can_go_on
can-below s h = ltb-true s.used s.limit (and_right (eqb s.stop 0) _ h)

pub takes-some : (t : ℕ) (x : Seated) → takes_turn t x ≡ true → 0 < t
unfolding takes_turn
takes-some t x h = ltb-true 0 t (and_left _ (can_go_on x.seat) h)

pub takes-can : (t : ℕ) (x : Seated) → takes_turn t x ≡ true → can_go_on x.seat ≡ true
unfolding takes_turn
takes-can t x h = and_right (ltb 0 t) _ h

pub budget-least : (t : ℕ) (x : Seated) → takes_turn t x ≡ true → 1 ≤ turn_budget x.seat t
unfolding turn_budget
budget-least t x h =
    let u = can-below x.seat (takes-can t x h) in
    least-some 100 (least (x.seat.limit - x.seat.used) t) (omega arith) (least-some (x.seat.limit - x.seat.used) t (omega arith) (takes-some t x h))

-- ---- by itself

calls-append : (ns ms : List ℕ) (l : Lent) → calls (ns ++ ms) l ≡ calls ms (calls ns l)
unfolding calls
calls-append [] ms l = refl
calls-append (n ∷ ns) ms l = calls-append ns ms (run_call n l).left

answers-append : (ns ms : List ℕ) (l : Lent) → answers (ns ++ ms) l ≡ answers ns l ++ answers ms (calls ns l)
unfolding calls answers
answers-append [] ms l = refl
answers-append (n ∷ ns) ms l = ap {B = List Ran} (λ (r : List Ran). (run_call n l).answer ∷ r) (answers-append ns ms (run_call n l).left)

steps-append : (rs qs : List Ran) → all_steps (rs ++ qs) ≡ all_steps rs + all_steps qs
unfolding all_steps
steps-append [] qs = omega arith
steps-append (r ∷ rs) qs = let e = steps-append rs qs in omega arith

stop-append : (s : ℕ) (rs qs : List Ran) → last_stop s (rs ++ qs) ≡ last_stop (last_stop s rs) qs
unfolding last_stop
stop-append s [] qs = refl
stop-append s (r ∷ rs) qs = stop-append r.stop rs qs

turns-append : {ns ms : List ℕ} → Turns ns → Turns ms → Turns (ns ++ ms)
turns-append none q = q
turns-append (also a b p) q = also a b (turns-append p q)

stays : (x : Seated) → Reached x [] x
unfolding calls answers all_steps last_stop
stays x = record { turns = none; machine = refl; used = omega arith; stop = refl; limit = refl }

then : (x y z : Seated) (ns ms : List ℕ) → Reached x ns y → Reached y ms z → Reached x (ns ++ ms) z
then x y z ns ms p q =
    let l = x.machine in
    let a = answers-append ns ms l in
    let m : answers ms y.machine ≡ answers ms (calls ns l) = ap (answers ms) p.machine in
    let s : all_steps (answers (ns ++ ms) l) ≡ all_steps (answers ns l) + all_steps (answers ms y.machine) = ap all_steps a ∙ steps-append (answers ns l) (answers ms (calls ns l)) ∙ ap (λ (rs : List Ran). all_steps (answers ns l) + all_steps rs) (sym m) in
    record {
      turns = turns-append p.turns q.turns;
      machine = q.machine ∙ ap (calls ms) p.machine ∙ sym (calls-append ns ms l);
      used = let u = p.used in let v = q.used in omega (arith, s);
      stop = q.stop ∙ ap (λ (k : ℕ). last_stop k (answers ms y.machine)) p.stop ∙ ap (last_stop (last_stop x.seat.stop (answers ns l))) m ∙ sym (stop-append x.seat.stop (answers ns l) (answers ms (calls ns l))) ∙ ap (last_stop x.seat.stop) (sym a);
      limit = q.limit ∙ p.limit;
    }

turn-reached : (t : ℕ) (x : Seated) → Reached x (budget_of t x) (turned t x)
unfolding budget_of turned turn calls answers all_steps last_stop
turn-reached t x = go (takes_turn t x) refl
  where
    n : ℕ
    n = turn_budget x.seat t

    go : (b : Bool) → takes_turn t x ≡ b → Reached x (cond b (turn_budget x.seat t ∷ []) []) (cond b (seated (record { limit = x.seat.limit; used = x.seat.used + (run_call (turn_budget x.seat t) x.machine).answer.steps; stop = (run_call (turn_budget x.seat t) x.machine).answer.stop }) (run_call (turn_budget x.seat t) x.machine).left) x)
    go true h = record { turns = also (budget-least t x h) (budget-most x.seat t) none; machine = refl; used = omega arith; stop = refl; limit = refl }
    go false h = stays x

pub round-reached : (i t : ℕ) (xs : List Seated) → Reached (seat_at i xs) (budgets_in_round i t xs) (seat_at i (round t xs).seats)
unfolding budgets_in_round round
round-reached i t [] = stays (seat_at i [])
round-reached zero t (x ∷ xs) = turn-reached t x
round-reached (suc i) t (x ∷ xs) = round-reached i (t - taken t x) xs

pub rounds-reached : (n i : ℕ) (b : Bench) → Reached (seat_at i b.seats) (budgets_in n i b) (seat_at i (rounds n b).seats)
unfolding budgets_in rounds
rounds-reached zero i b = stays (seat_at i b.seats)
rounds-reached (suc n) i b =
    either2 (λ (ns : List ℕ) (e : Bench). Reached (seat_at i b.seats) ns (seat_at i e.seats)) (goes_on b)
    (λ h. then _ _ _ (budgets_in_round i b.total b.seats) (budgets_in n i (round_of b)) (round-reached i b.total b.seats) (rounds-reached n i (round_of b)))
    (λ h. stays (seat_at i b.seats))

pub by_itself : ByItself
unfolding finished
by_itself b i = rounds-reached (fuel b) i b

pub seat-by-seat : SeatBySeat
seat-by-seat b₁ b₂ i₁ i₂ e p q s a g = record {
  whole = user-mode (seat_at i₁ b₁.seats).machine (seat_at i₂ b₂.seats).machine p q s a (turn_budgets i₁ b₁) g;
  left₁ = (by_itself b₁ i₁).machine;
  left₂ = (by_itself b₂ i₂).machine ∙ ap (λ (ns : List ℕ). calls ns (seat_at i₂ b₂.seats).machine) (sym e);
}

-- ---- a turn of an accepted machine

module _ (t : ℕ) (x : Seated) (a : Accepted x.machine) where
  abbrev seat_after : Seat
  seat_after = after (turn t x).answer.steps (turn t x).answer.stop x.seat

  pub turn-within : (turn t x).answer.steps ≤ turn_budget x.seat t
  unfolding turn
  turn-within = (runs-accepted (turn_budget x.seat t) x.machine a).within

  turn-spent : (turn t x).answer.stop ≡ 0 → (turn t x).answer.steps ≡ turn_budget x.seat t
  unfolding turn
  turn-spent = (runs-accepted (turn_budget x.seat t) x.machine a).spent

  pub turned-accepted : Accepted (turned t x).machine
  unfolding turned turn
  turned-accepted = go (takes_turn t x)
    where
      go : (b : Bool) → Accepted (cond b (seated seat_after (turn t x).left) x).machine
      go true = (runs-accepted (turn_budget x.seat t) x.machine a).stays
      go false = a

  pub taken-within : taken t x ≤ t
  unfolding taken
  taken-within = go (takes_turn t x)
    where
      go : (b : Bool) → cond b (turn t x).answer.steps 0 ≤ t
      go true = let p = turn-within in let q = budget-total x.seat t in omega arith
      go false = omega arith

  -- its steps are added, and at most 100
  pub turned-used : (turned t x).seat.used ≡ x.seat.used + taken t x
  unfolding turned taken
  turned-used = go (takes_turn t x)
    where
      go : (b : Bool) → (cond b (seated seat_after (turn t x).left) x).seat.used ≡ x.seat.used + cond b (turn t x).answer.steps 0
      go true = refl
      go false = omega arith

  taken-most : taken t x ≤ 100
  unfolding taken
  taken-most = go (takes_turn t x)
    where
      go : (b : Bool) → cond b (turn t x).answer.steps 0 ≤ 100
      go true = let p = turn-within in let q = budget-most x.seat t in omega arith
      go false = omega arith

  waited : Waited x (turned t x)
  waited = let u = turned-used in let m = taken-most in record { no_less = omega arith; at_most = omega arith }

  -- what falls
  pub can-then : can_go_on seat_after ≡ true → (turn t x).answer.steps ≡ turn_budget x.seat t
  unfolding can_go_on
  can-then c = turn-spent (eqb-true (turn t x).answer.stop 0 (and_left _ (ltb (x.seat.used + (turn t x).answer.steps) x.seat.limit) c))

  pub one-falls : takes_turn t x ≡ true → (t - taken t x) + cond (can_go_on (turned t x).seat) 1 0 < t + cond (can_go_on x.seat) 1 0
  unfolding turned taken
  one-falls h = rw (takes-can t x h) (rw h (go (can_go_on seat_after) refl))
    where
      go : (c : Bool) → can_go_on seat_after ≡ c → (t - (turn t x).answer.steps) + cond c 1 0 < t + 1
      go true c = let s = can-then c in let l = budget-least t x h in let m = budget-total x.seat t in omega arith
      go false c = omega arith

pub turns-fall : TurnsFall
unfolding fuel going
turns-fall t x a h = let p = one-falls t x a h in omega arith

-- ---- rounds of accepted machines

pub round-accepted : (t : ℕ) (xs : List Seated) → AllAccepted xs → AllAccepted (round t xs).seats
unfolding round
round-accepted t [] none = none
round-accepted t (x ∷ xs) (also a ps) = also (turned-accepted t x a) (round-accepted (t - taken t x) xs ps)

round-adds : (t : ℕ) (xs : List Seated) → AllAccepted xs → all_used (round t xs).seats + (round t xs).total ≡ all_used xs + t
unfolding round all_used
round-adds t [] none = refl
round-adds t (x ∷ xs) (also a ps) = let e = round-adds (t - taken t x) xs ps in let u = turned-used t x a in let w = taken-within t x a in omega arith

rounds-adds : (n : ℕ) (b : Bench) → AllAccepted b.seats → all_used (rounds n b).seats + (rounds n b).total ≡ all_used b.seats + b.total
unfolding rounds
rounds-adds zero b ps = refl
rounds-adds (suc n) b ps =
    either (λ (e : Bench). all_used e.seats + e.total ≡ all_used b.seats + b.total) (goes_on b)
    (λ h. rounds-adds n (round_of b) (round-accepted b.total b.seats ps) ∙ round-adds b.total b.seats ps)
    (λ h. refl)

pub adds-up : AddsUp
unfolding finished
adds-up b ps = rounds-adds (fuel b) b ps

-- a seat that is passed over
pub passed : (t : ℕ) (x : Seated) → takes_turn t x ≡ false → (turned t x ≡ x) × (taken t x ≡ 0)
unfolding turned taken
passed t x h = (rw h, rw h)

-- ---- rounds end

round-within : (t : ℕ) (xs : List Seated) → AllAccepted xs → (round t xs).total + going (round t xs).seats ≤ t + going xs
unfolding round going
round-within t [] none = omega arith
round-within t (x ∷ xs) (also a ps) = go (takes_turn t x) refl (round-within (t - taken t x) xs ps)
  where
    go : (c : Bool) → takes_turn t x ≡ c → (round (t - taken t x) xs).total + going (round (t - taken t x) xs).seats ≤ (t - taken t x) + going xs
        → (round (t - taken t x) xs).total + (cond (can_go_on (turned t x).seat) 1 0 + going (round (t - taken t x) xs).seats) ≤ t + (cond (can_go_on x.seat) 1 0 + going xs)
    go true h i = let f = one-falls t x a h in omega arith
    go false h i =
        let e : cond {A = ℕ} (can_go_on (turned t x).seat) 1 0 ≡ cond (can_go_on x.seat) 1 0 = ap (λ (y : Seated). cond {A = ℕ} (can_go_on y.seat) 1 0) (passed t x h).0 in omega arith

-- nobody's turn, though the total lasts
cannot : (t : ℕ) (x : Seated) → 0 < t → takes_turn t x ≡ false → can_go_on x.seat ≡ false
unfolding takes_turn
cannot t x p h = sym (ap (λ (c : Bool). c && can_go_on x.seat) (lt-ltb 0 t p)) ∙ h

round-falls : (t : ℕ) (xs : List Seated) → AllAccepted xs → 0 < t → some_can xs ≡ true → (round t xs).total + going (round t xs).seats < t + going xs
unfolding round going some_can
round-falls t [] none p s = absurd (true≢false (sym s))
round-falls t (x ∷ xs) (also a ps) p s = go (takes_turn t x) refl (round-within (t - taken t x) xs ps) (λ e. round-falls (t - taken t x) xs ps e)
  where
    go : (c : Bool) → takes_turn t x ≡ c → (round (t - taken t x) xs).total + going (round (t - taken t x) xs).seats ≤ (t - taken t x) + going xs
        → (0 < t - taken t x → some_can xs ≡ true → (round (t - taken t x) xs).total + going (round (t - taken t x) xs).seats < (t - taken t x) + going xs)
        → (round (t - taken t x) xs).total + (cond (can_go_on (turned t x).seat) 1 0 + going (round (t - taken t x) xs).seats) < t + (cond (can_go_on x.seat) 1 0 + going xs)
    go true h i j = let f = one-falls t x a h in omega arith
    go false h i j =
        let e : cond {A = ℕ} (can_go_on (turned t x).seat) 1 0 ≡ cond (can_go_on x.seat) 1 0 = ap (λ (y : Seated). cond {A = ℕ} (can_go_on y.seat) 1 0) (passed t x h).0 in
        let z = (passed t x h).1 in
        let k = j (omega arith) (sym (ap (λ (c : Bool). c || some_can xs) (cannot t x p h)) ∙ s) in omega arith

pub fuel-falls : (b : Bench) → AllAccepted b.seats → goes_on b ≡ true → fuel (round_of b) < fuel b
unfolding fuel goes_on
fuel-falls b ps h = round-falls b.total b.seats ps (ltb-true 0 b.total (and_left _ (some_can b.seats) h)) (and_right (ltb 0 b.total) _ h)

settles : (n : ℕ) (b : Bench) → AllAccepted b.seats → fuel b ≤ n → goes_on (rounds n b) ≡ false
unfolding rounds
settles zero b ps f = go (goes_on b) refl
  where
    go : (c : Bool) → goes_on b ≡ c → goes_on b ≡ false
    go true h = let l = fuel-falls b ps h in absurd (omega arith)
    go false h = h
settles (suc n) b ps f =
    either (λ (e : Bench). goes_on e ≡ false) (goes_on b)
    (λ h. let l = fuel-falls b ps h in settles n (round_of b) (round-accepted b.total b.seats ps) (omega arith))
    (λ h. h)

pub settled-stays : (k : ℕ) (b : Bench) → goes_on b ≡ false → rounds k b ≡ b
unfolding rounds
settled-stays zero b h = refl
settled-stays (suc k) b h = rw h

more : (n k : ℕ) (b : Bench) → goes_on (rounds n b) ≡ false → rounds (n + k) b ≡ rounds n b
unfolding rounds
more zero k b h = ap (λ (m : ℕ). rounds m b) (zero-add k) ∙ settled-stays k b h
more (suc n) k b h = ap (λ (m : ℕ). rounds m b) (suc-add n k) ∙ go (goes_on b) h (more n k (round_of b))
  where
    go : (c : Bool) → goes_on (cond c (rounds n (round_of b)) b) ≡ false → (goes_on (rounds n (round_of b)) ≡ false → rounds (n + k) (round_of b) ≡ rounds n (round_of b))
        → cond c (rounds (n + k) (round_of b)) b ≡ cond c (rounds n (round_of b)) b
    go true h i = i h
    go false h i = refl

pub bench-ends : BenchEnds
unfolding finished
bench-ends b ps = let s = settles (fuel b) b ps (omega arith) in record { settled = s; enough = λ n. more (fuel b) n b s }

-- ---- waiting

no-turn : (x : Seated) → Waited x x
no-turn x = record { no_less = omega arith; at_most = omega arith }

waited-same : (xs : List Seated) → EachWaited xs xs
waited-same [] = none
waited-same (x ∷ xs) = also (no-turn x) (waited-same xs)

waited-append : {xs ys zs ws : List Seated} → EachWaited xs ys → EachWaited zs ws → EachWaited (xs ++ zs) (ys ++ ws)
waited-append none q = q
waited-append (also w p) q = also w (waited-append p q)

round-waited : (t : ℕ) (xs : List Seated) → AllAccepted xs → EachWaited xs (round t xs).seats
unfolding round
round-waited t [] none = none
round-waited t (x ∷ xs) (also a ps) = also (waited t x a) (round-waited (t - taken t x) xs ps)

pub round-append : (t : ℕ) (xs ys : List Seated) → round t (xs ++ ys) ≡ bench ((round t xs).seats ++ (round (round t xs).total ys).seats) (round (round t xs).total ys).total
unfolding round
round-append t [] ys = refl
round-append t (x ∷ xs) ys = ap (λ (b : Bench). bench (turned t x ∷ b.seats) b.total) (round-append (t - taken t x) xs ys)

accepted-left : (xs ys : List Seated) → AllAccepted (xs ++ ys) → AllAccepted xs
accepted-left [] ys p = none
accepted-left (x ∷ xs) ys (also a p) = also a (accepted-left xs ys p)

accepted-right : (xs ys : List Seated) → AllAccepted (xs ++ ys) → AllAccepted ys
accepted-right [] ys p = p
accepted-right (x ∷ xs) ys (also a p) = accepted-right xs ys p

serves : (t : ℕ) (x : Seated) → can_go_on x.seat ≡ true → 0 < t → takes_turn t x ≡ true
unfolding takes_turn
serves t x c p = and_both (ltb 0 t) (can_go_on x.seat) (lt-ltb 0 t p) c

pub all-wait : AllWait
unfolding round
all-wait t before x after ps = go (accepted-right before (x ∷ after) ps)
  where
    go : AllAccepted (x ∷ after) → Waits t before x after
    go (also a qs) =
        let r = round t before in
        let d = round (r.total - taken r.total x) after in
        let bs = accepted-left before (x ∷ after) ps in
        record {
          in-turn = round-append t before (x ∷ after);
          at_first = waited-append (round-waited t before bs) (waited-same (x ∷ after));
          between = waited-append (round-waited d.total r.seats (round-accepted t before bs)) (also (no-turn (turned r.total x)) (round-waited (r.total - taken r.total x) after qs));
          served = serves r.total x;
          served_again = serves (round d.total r.seats).total (turned r.total x);
        }

-- ---- refusals

pub refused-keeps : RefusedKeeps
unfolding bench_call
refused-keeps n t list b =
    let e = finished (bench_of n t list b) in
    either (λ (r : Called Benched (List Seat × Lent)). r.answer.refusal ≢ 0 → r.left ≡ (list, b)) (eqb (bench_check n (length list) b).refusal 0) {x = called (benched 0 0 0 e.total) (list_of e.seats, buffers_of e.seats)}
    (λ c z. absurd (z refl))
    (λ c z. refl)
