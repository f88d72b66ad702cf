-- What holds of every bench. The proofs are proofs/Laws.
use Rattle.std.specs.Prelude.{◌≡◌, ◌≢◌, true, false, cond, ℕ, zero, suc, ◌+◌, ◌-◌, ◌<◌, ◌≤◌, get_or}
use mathlib.Core.List.{List, [], ◌∷◌, ◌++◌, foldr}
use Rattle.definition.specs.declared.Ran.{Ran}
use Rattle.definition.specs.Calls.{Lent, lent, lent_supervisor, run_call, calls, answers}
use Rattle.definition.specs.UserMode.{Accepted, Alike, GoesNoFurther, Whole}
use Rattle.bench.specs.declared.Seat.{Seat}
use Rattle.bench.specs.Seat.{no_seat, can_go_on, turn_budget}
use Rattle.bench.specs.Bench.{Seated, seated, Bench, bench, takes_turn, turned, taken, round, round_of, goes_on, rounds, fuel, finished, bench_call}

-- The seat at place i, from 0.
abbrev pub seat_at : ℕ → List Seated → Seated
seat_at i xs = get_or xs i (seated no_seat (lent [] [] [] []))

-- The bench is not refused: run would accept every seat's machine.
pub data AllAccepted : List Seated → Type 0 where
  none : AllAccepted []
  also : {x : Seated} {xs : List Seated} → Accepted x.machine → AllAccepted xs → AllAccepted (x ∷ xs)

-- ---- every call ends

pub record Ends (b : Bench) : Type 0 where
  -- "until the total is spent or nobody can go on"
  pub settled : goes_on (finished b) ≡ false
  -- More rounds would change nothing.
  pub enough : (n : ℕ) → rounds (fuel b + n) b ≡ finished b

-- What falls at each turn.
abbrev pub TurnsFall : Type 0
TurnsFall = (t : ℕ) (x : Seated) → Accepted x.machine → takes_turn t x ≡ true → fuel (bench (turned t x ∷ []) (t - taken t x)) < fuel (bench (x ∷ []) t)

abbrev pub BenchEnds : Type 0
BenchEnds = (b : Bench) → AllAccepted b.seats → Ends b

-- ---- "Steps used add up to what left the total, counted from what the list held before."

unfoldable pub all_used : List Seated → ℕ
all_used [] = 0
all_used (x ∷ xs) = x.seat.used + all_used xs

abbrev pub AddsUp : Type 0
AddsUp = (b : Bench) → AllAccepted b.seats → all_used (finished b).seats + (finished b).total ≡ all_used b.seats + b.total

-- ---- "A seat that can go on waits for at most 100 steps of each other seat while the total lasts."

pub record Waited (x y : Seated) : Type 0 where
  pub no_less : x.seat.used ≤ y.seat.used
  pub at_most : y.seat.used ≤ x.seat.used + 100

pub data EachWaited : List Seated → List Seated → Type 0 where
  none : EachWaited [] []
  also : {x y : Seated} {xs ys : List Seated} → Waited x y → EachWaited xs ys → EachWaited (x ∷ xs) (y ∷ ys)

-- The seat x with those before and after it, where a round begins with t left.
module _ (t : ℕ) (before : List Seated) (x : Seated) (after : List Seated) where
  -- The seats before it have had their turns; it has its own, with this much left; then those after it have theirs.
  abbrev pub first : Bench
  first = round t before

  abbrev pub own : Seated
  own = turned first.total x

  abbrev pub rest : Bench
  rest = round (first.total - taken first.total x) after

  -- In the next round those before it have theirs, and then it is its turn again.
  abbrev pub next : Bench
  next = round rest.total first.seats

  pub record Waits : Type 0 where
    pub in-turn : round t (before ++ x ∷ after) ≡ bench (first.seats ++ own ∷ rest.seats) rest.total
    -- From the round's beginning to its turn.
    pub at_first : EachWaited (before ++ x ∷ after) (first.seats ++ x ∷ after)
    -- From the end of its turn to its next turn.
    pub between : EachWaited (first.seats ++ own ∷ after) (next.seats ++ own ∷ rest.seats)
    -- It has both where it can go on and the total lasts.
    pub served : can_go_on x.seat ≡ true → 0 < first.total → takes_turn first.total x ≡ true
    pub served_again : can_go_on own.seat ≡ true → 0 < next.total → takes_turn next.total own ≡ true

abbrev pub AllWait : Type 0
AllWait = (t : ℕ) (before : List Seated) (x : Seated) (after : List Seated) → AllAccepted (before ++ x ∷ after) → Waits t before x after

-- ---- "A seat's machine is the one it would reach by itself in runs of the same turn budgets"

-- The budget of the turn that a seat takes, if it does.
unfoldable pub budget_of : ℕ → Seated → List ℕ
budget_of t x = cond (takes_turn t x) (turn_budget x.seat t ∷ []) []

-- That of the seat at place i in a round, and in at most n rounds.
unfoldable pub budgets_in_round : ℕ → ℕ → List Seated → List ℕ
budgets_in_round i t [] = []
budgets_in_round zero t (x ∷ xs) = budget_of t x
budgets_in_round (suc i) t (x ∷ xs) = budgets_in_round i (t - taken t x) xs

unfoldable pub budgets_in : ℕ → ℕ → Bench → List ℕ
budgets_in zero i b = []
budgets_in (suc n) i b = cond (goes_on b) (budgets_in_round i b.total b.seats ++ budgets_in n i (round_of b)) []

-- The turn budgets of the seat at place i.
abbrev pub turn_budgets : ℕ → Bench → List ℕ
turn_budgets i b = budgets_in (fuel b) i b

unfoldable pub all_steps : List Ran → ℕ
all_steps [] = 0
all_steps (r ∷ rs) = r.steps + all_steps rs

-- The last stop, where it was s before.
unfoldable pub last_stop : ℕ → List Ran → ℕ
last_stop s [] = s
last_stop s (r ∷ rs) = last_stop r.stop rs

-- Turn budgets are 1 to 100.
pub data Turns : List ℕ → Type 0 where
  none : Turns []
  also : {n : ℕ} {ns : List ℕ} → 1 ≤ n → n ≤ 100 → Turns ns → Turns (n ∷ ns)

-- The seat y is x after single runs on these budgets.
pub record Reached (x : Seated) (ns : List ℕ) (y : Seated) : Type 0 where
  pub turns : Turns ns
  pub machine : y.machine ≡ calls ns x.machine
  pub used : y.seat.used ≡ x.seat.used + all_steps (answers ns x.machine)
  pub stop : y.seat.stop ≡ last_stop x.seat.stop (answers ns x.machine)
  pub limit : y.seat.limit ≡ x.seat.limit

abbrev pub ByItself : Type 0
ByItself = (b : Bench) (i : ℕ) → Reached (seat_at i b.seats) (turn_budgets i b) (seat_at i (finished b).seats)

-- The seat y is x after one run on this budget.
pub record ReachedAtOnce (x : Seated) (n : ℕ) (y : Seated) : Type 0 where
  pub machine : y.machine ≡ (run_call n x.machine).left
  pub used : y.seat.used ≡ x.seat.used + (run_call n x.machine).answer.steps
  pub stop : y.seat.stop ≡ (run_call n x.machine).answer.stop
  -- A call can be given it: no more than the limit's rest.
  pub fits : n ≤ x.seat.limit - x.seat.used

-- With "Budgets that add" (Card 12) a seat that had turns is where one run on their sum would bring it.
abbrev pub InOneRun : Type 0
InOneRun =
    (b : Bench) → AllAccepted b.seats → (i n : ℕ) (ns : List ℕ) → turn_budgets i b ≡ n ∷ ns → ReachedAtOnce (seat_at i b.seats) (n + foldr ◌+◌ 0 ns) (seat_at i (finished b).seats)

-- "so the third demand holds seat by seat": of a seat of each of two benches, or of one, that had the same turn budgets.
module _ (b₁ b₂ : Bench) (i₁ i₂ : ℕ) where
  abbrev pub before₁ : Lent
  before₁ = (seat_at i₁ b₁.seats).machine

  abbrev pub before₂ : Lent
  before₂ = (seat_at i₂ b₂.seats).machine

  pub record PairedSeats : Type 0 where
    pub whole : Whole before₁ before₂ (turn_budgets i₁ b₁)
    -- What it says of the machines that the list of runs leaves, it says of those that the benches leave.
    pub left₁ : (seat_at i₁ (finished b₁).seats).machine ≡ calls (turn_budgets i₁ b₁) before₁
    pub left₂ : (seat_at i₂ (finished b₂).seats).machine ≡ calls (turn_budgets i₁ b₁) before₂

abbrev pub SeatBySeat : Type 0
SeatBySeat =
    (b₁ b₂ : Bench) (i₁ i₂ : ℕ) → turn_budgets i₁ b₁ ≡ turn_budgets i₂ b₂ → Accepted (before₁ b₁ b₂ i₁ i₂) → Accepted (before₂ b₁ b₂ i₁ i₂) → lent_supervisor (before₁ b₁ b₂ i₁ i₂) ≡ false
    → Alike (before₁ b₁ b₂ i₁ i₂) (before₂ b₁ b₂ i₁ i₂) → GoesNoFurther (turn_budgets i₁ b₁) (before₁ b₁ b₂ i₁ i₂) → PairedSeats b₁ b₂ i₁ i₂

-- ---- refusals

-- "A refusal gives number and place [...] and changes nothing."
abbrev pub RefusedKeeps : Type 0
RefusedKeeps = (n t : ℕ) (list : List Seat) (b : Lent) → (bench_call n t list b).answer.refusal ≢ 0 → (bench_call n t list b).left ≡ (list, b)
