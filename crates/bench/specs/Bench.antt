-- "One bench, sixteen seats. A whole class runs under one step total."
use Rattle.std.specs.Prelude.{Bool, false, cond, ◌&&◌, ◌||◌, List, [], ◌∷◌, ◌++◌, ℕ, zero, suc, ◌+◌, ◌*◌, ◌-◌, ◌/◌, ◌%◌, length, take, drop, ltb, leb, eqb}
use Rattle.definition.specs.declared.Ran.{Ran}
use Rattle.definition.specs.Calls.{Lent, lent, Called, called, passes, run_check, run_call}
use Rattle.bench.specs.declared.Seat.{Seat}
use Rattle.bench.specs.declared.Benched.{Benched}
use Rattle.bench.specs.Seat.{can_go_on, turn_budget, after}

-- A seat: its record of the bench list and its machine.
pub record Seated : Type 0 where
  pub seat : Seat
  pub machine : Lent

abbrev pub seated : Seat → Lent → Seated
seated s l = record { seat = s; machine = l }

pub record Bench : Type 0 where
  pub seats : List Seated
  -- What is left of the step total.
  pub total : ℕ

abbrev pub bench : List Seated → ℕ → Bench
bench xs t = record { seats = xs; total = t }

-- ---- turns and rounds

-- Is it the seat's turn, with so much left of the total? "until the total is spent or nobody can go on"
unfoldable pub takes_turn : ℕ → Seated → Bool
takes_turn t x = ltb 0 t && can_go_on x.seat

-- "each a run on the least of 100, its limit's rest and the total's"
unfoldable pub turn : ℕ → Seated → Called Ran Lent
turn t x = run_call (turn_budget x.seat t) x.machine

-- The seat after it, and what it took off the total. A seat that is passed over stays as it is.
unfoldable pub turned : ℕ → Seated → Seated
turned t x =
    let r = turn t x in
    cond (takes_turn t x) (seated (after r.answer.steps r.answer.stop x.seat) r.left) x

unfoldable pub taken : ℕ → Seated → ℕ
taken t x = cond (takes_turn t x) (turn t x).answer.steps 0

-- "Turns go round from seat 1": one round.
unfoldable pub round : ℕ → List Seated → Bench
round t [] = bench [] t
round t (x ∷ xs) = let b = round (t - taken t x) xs in bench (turned t x ∷ b.seats) b.total

abbrev pub round_of : Bench → Bench
round_of b = round b.total b.seats

unfoldable pub some_can : List Seated → Bool
some_can [] = false
some_can (x ∷ xs) = can_go_on x.seat || some_can xs

-- "until the total is spent or nobody can go on"
unfoldable pub goes_on : Bench → Bool
goes_on b = ltb 0 b.total && some_can b.seats

-- At most so many rounds.
unfoldable pub rounds : ℕ → Bench → Bench
rounds zero b = b
rounds (suc n) b = cond (goes_on b) (rounds n (round_of b)) b

-- How many can go on.
unfoldable pub going : List Seated → ℕ
going [] = 0
going (x ∷ xs) = cond (can_go_on x.seat) 1 0 + going xs

-- What falls at each turn, and so in each round in which somebody can go on: a turn takes a step off the total, or its seat cannot go on.
unfoldable pub fuel : Bench → ℕ
fuel b = b.total + going b.seats

-- All the rounds that there are: Laws says that more would change nothing.
unfoldable pub finished : Bench → Bench
finished b = rounds (fuel b) b

-- ---- the four lent buffers

-- "Four lent buffers hold the cells, rows, queues and outputs of 1 to 16 seats, each in equal parts, seat 1 first." They are a `Lent`, like
-- those of one machine. The part of place k, from 0, of n:
abbrev pub part_of : {A : Type 0} → ℕ → ℕ → List A → List A
part_of n k xs = take (length xs / n) (drop (k * (length xs / n)) xs)

abbrev pub machine_at : ℕ → ℕ → Lent → Lent
machine_at n k b = lent (part_of n k b.cells) (part_of n k b.queue) (part_of n k b.output) (part_of n k b.row)

-- So many machines of n, from place k on.
unfoldable pub machines : ℕ → ℕ → ℕ → Lent → List Lent
machines n zero k b = []
machines n (suc j) k b = machine_at n k b ∷ machines n j (suc k) b

-- Each record with its machine.
unfoldable pub seats_of : List Seat → List Lent → List Seated
seats_of [] ls = []
seats_of (s ∷ ss) [] = []
seats_of (s ∷ ss) (l ∷ ls) = seated s l ∷ seats_of ss ls

-- The buffers and the list again.
unfoldable pub buffers_of : List Seated → Lent
buffers_of [] = lent [] [] [] []
buffers_of (x ∷ xs) =
    let l = x.machine in
    let b = buffers_of xs in
    lent (l.cells ++ b.cells) (l.queue ++ b.queue) (l.output ++ b.output) (l.row ++ b.row)

unfoldable pub list_of : List Seated → List Seat
list_of [] = []
list_of (x ∷ xs) = x.seat ∷ list_of xs

-- ---- what is turned back

abbrev pub benched : ℕ → ℕ → ℕ → ℕ → Benched
benched n p s t = record { refusal = n; place = p; seat = s; left = t }

-- "19 seats not 1 to 16, the list not one record a seat, or a buffer not divisible by seats": n seats, m records, and the buffers' lengths.
unfoldable pub seats_fit : ℕ → ℕ → ℕ → ℕ → ℕ → ℕ → Bool
seats_fit n m cells queues outputs rows =
    leb 1 n && (leb n 16 && (eqb m n && (eqb (cells % n) 0 && (eqb (queues % n) 0 && (eqb (outputs % n) 0 && eqb (rows % n) 0)))))

-- "The others are then checked seat by seat, lowest first, places within the seat." The first is seat k, from 1.
unfoldable pub seat_by_seat : ℕ → List Lent → Benched
seat_by_seat k [] = benched 0 0 0 0
seat_by_seat k (l ∷ ls) = let d = run_check l in cond (passes d) (seat_by_seat (suc k) ls) (benched d.refusal d.place k 0)

-- A list of m records, n seats.
unfoldable pub bench_check : ℕ → ℕ → Lent → Benched
bench_check n m b =
    cond
    (seats_fit n m (length b.cells) (length b.queue) (length b.output) (length b.row))
    (seat_by_seat 1 (machines n n 0 b))
    (benched 19 0 0 0)

-- ---- the call

-- Where it starts.
abbrev pub bench_of : ℕ → ℕ → List Seat → Lent → Bench
bench_of n t list b = bench (seats_of list (machines n n 0 b)) t

-- "The answer is what is left of the total."
unfoldable pub bench_call : ℕ → ℕ → List Seat → Lent → Called Benched (List Seat × Lent)
bench_call n t list b =
    let d = bench_check n (length list) b in
    let e = finished (bench_of n t list b) in
    cond (eqb d.refusal 0) (called (benched 0 0 0 e.total) (list_of e.seats, buffers_of e.seats)) (called d (list, b))
