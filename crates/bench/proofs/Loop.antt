-- A bench turn by turn and round by round, with its list and its four buffers whole.
use mathlib.Core.Path.{◌≡◌, refl, sym, ap, ◌∙◌, subst}
use mathlib.Core.Bool.{Bool, true, false, cond, ◌&&◌, ◌||◌, true≢false}
use mathlib.Core.Logic.{◌≢◌}
use mathlib.Core.List.{List, [], ◌∷◌, ◌++◌, append-nil}
use Prim.Native.Nat.{ℕ, zero, suc, ◌+◌, ◌*◌, ◌-◌, ◌/◌, ◌%◌, ◌<◌, ◌≤◌}
use native.Mathlib.Omega.{arith}
use native.Mathlib.Numerals.{add-one}
use native.Mathlib.Nat.{zero-add, zero-mul, not-suc-le-zero, le_of_suc-le-suc}
use lib.ListN.{length, get_or, set, take, drop, length-set, drop_of_length-le}
use lib.Seq.{take-length, drop-length, drop-cons}
use lib.Dec.{ltb, leb, eqb}
use borrow.Author.Tests.{lt-ltb, le-ltb, leb-true, eqb-true, eqb-false, eq-eqb, ne_eqb}
use Rattle.definition.specs.Calls.{Lent, lent, Called, called, passes, run_check}
use Rattle.definition.specs.UserMode.{Accepted}
use Rattle.std.specs.List.{list_any}
use Rattle.definition.proofs.Verdict.{and_left, and_right, and_both}
use Rattle.bench.specs.declared.Seat.{Seat}
use Rattle.bench.specs.declared.Benched.{Benched}
use Rattle.bench.specs.Seat.{no_seat, can_go_on}
use Rattle.bench.specs.Bench.{Seated, seated, Bench, bench, takes_turn, turned, taken, round, round_of, some_can, goes_on, rounds, fuel, finished, machine_at, machines, seats_of, buffers_of, list_of, benched, seats_fit, seat_by_seat, bench_check, bench_of, bench_call}
use Rattle.bench.specs.Turn.{with_machine, turn_at}
use Rattle.bench.specs.Laws.{seat_at, AllAccepted, none, also}
use Rattle.bench.proofs.Laws.{either, passed, turned-accepted, taken-within, fuel-falls, round-accepted, bench-ends, settled-stays}
use Rattle.bench.proofs.Parts.{AllSized, machine-is, with-machine, sized-after, start-joined, start-sized, start-list, start-length, divided, buffers-are, list_at, list_set}

-- ---- what is left of a round, from place k on

pub finish : ℕ → List Seated → ℕ → Bench
finish k xs t = let r = round t (drop k xs) in bench (take k xs ++ r.seats) r.total

-- a turn at place k
pub finish-step : (k : ℕ) (xs : List Seated) (t : ℕ) → k < length xs → finish k xs t ≡ finish (suc k) (set xs k (turned t (seat_at k xs))) (t - taken t (seat_at k xs))
unfolding finish round
finish-step k [] t h = absurd (not-suc-le-zero h)
finish-step zero (x ∷ xs) t h = refl
finish-step (suc k) (x ∷ xs) t h = ap (λ (b : Bench). bench (x ∷ b.seats) b.total) (finish-step k xs t (le_of_suc-le-suc h))

pub finish-end : (xs : List Seated) (t : ℕ) → finish (length xs) xs t ≡ bench xs t
unfolding finish round
finish-end xs t =
    ap (λ (r : List Seated). bench (take (length xs) xs ++ (round t r).seats) (round t r).total) (drop-length xs)
    ∙ ap (λ (r : List Seated). bench r t) (append-nil (take (length xs) xs) ∙ take-length xs)

pub finish-start : (xs : List Seated) (t : ℕ) → finish 0 xs t ≡ round t xs
unfolding finish
finish-start xs t = refl

-- ---- nobody's turn

idle-first : (t : ℕ) (x : Seated) (xs : List Seated) → goes_on (bench (x ∷ xs) t) ≡ false → takes_turn t x ≡ false
unfolding goes_on some_can takes_turn
idle-first t x xs h = go (ltb 0 t) (can_go_on x.seat) h
  where
    go : (a b : Bool) → a && (b || some_can xs) ≡ false → a && b ≡ false
    go true true e = e
    go true false e = refl
    go false b e = refl

idle-rest : (t : ℕ) (x : Seated) (xs : List Seated) → goes_on (bench (x ∷ xs) t) ≡ false → goes_on (bench xs t) ≡ false
unfolding goes_on some_can
idle-rest t x xs h = go (ltb 0 t) (can_go_on x.seat) h
  where
    go : (a b : Bool) → a && (b || some_can xs) ≡ false → a && some_can xs ≡ false
    go true true e = absurd (true≢false e)
    go true false e = e
    go false b e = refl

round-idle : (t : ℕ) (xs : List Seated) → goes_on (bench xs t) ≡ false → round t xs ≡ bench xs t
unfolding round
round-idle t [] h = refl
round-idle t (x ∷ xs) h =
    let q = passed t x (idle-first t x xs h) in
    let e : t - taken t x ≡ t = omega (arith, q.1) in
    ap (λ (j : ℕ). bench (turned t x ∷ (round j xs).seats) (round j xs).total) e
    ∙ ap (λ (b : Bench). bench (turned t x ∷ b.seats) b.total) (round-idle t xs (idle-rest t x xs h))
    ∙ ap (λ (y : Seated). bench (y ∷ xs) t) q.0

finish-idle : (k : ℕ) (xs : List Seated) (t : ℕ) → goes_on (bench xs t) ≡ false → finish k xs t ≡ bench xs t
unfolding finish
finish-idle zero xs t h = round-idle t xs h
finish-idle (suc k) [] t h = round-idle t [] h
finish-idle (suc k) (x ∷ xs) t h = ap (λ (b : Bench). bench (x ∷ b.seats) b.total) (finish-idle k xs t (idle-rest t x xs h))

-- ---- a round more

finished-idle : (b : Bench) → goes_on b ≡ false → finished b ≡ b
unfolding finished
finished-idle b h = settled-stays (fuel b) b h

some-fuel : (n : ℕ) (b : Bench) → 0 < n → goes_on b ≡ true → rounds n b ≡ rounds (n - 1) (round_of b)
unfolding rounds
some-fuel zero b h g = absurd (not-suc-le-zero h)
some-fuel (suc n) b h g =
    let e : n ≡ suc n - 1 = omega arith in ap (λ (c : Bool). cond c (rounds n (round_of b)) b) g ∙ ap (λ (j : ℕ). rounds j (round_of b)) e

pub finished-round : (b : Bench) → AllAccepted b.seats → finished (round_of b) ≡ finished b
unfolding finished
finished-round b ps = go (goes_on b) refl
  where
    go : (c : Bool) → goes_on b ≡ c → rounds (fuel (round_of b)) (round_of b) ≡ rounds (fuel b) b
    go true g =
        let l = fuel-falls b ps g in
        let e : fuel (round_of b) + (fuel b - 1 - fuel (round_of b)) ≡ fuel b - 1 = omega (arith, l) in
        sym ((bench-ends (round_of b) (round-accepted b.total b.seats ps)).enough (fuel b - 1 - fuel (round_of b))) ∙ ap (λ (j : ℕ). rounds j (round_of b)) e ∙ sym (some-fuel (fuel b) b (omega (arith, l)) g)
    go false g = ap (λ (e : Bench). rounds (fuel e) e) (round-idle b.total b.seats g)

-- ---- one seat set

accepted-at : (k : ℕ) (xs : List Seated) → AllAccepted xs → k < length xs → Accepted (seat_at k xs).machine
accepted-at k [] ps h = absurd (not-suc-le-zero h)
accepted-at zero (x ∷ xs) (also a ps) h = a
accepted-at (suc k) (x ∷ xs) (also a ps) h = accepted-at k xs ps (le_of_suc-le-suc h)

accepted-set : (k : ℕ) (xs : List Seated) (y : Seated) → AllAccepted xs → Accepted y.machine → AllAccepted (set xs k y)
accepted-set k [] y ps a = ps
accepted-set zero (x ∷ xs) y (also p ps) a = also a ps
accepted-set (suc k) (x ∷ xs) y (also p ps) a = also p (accepted-set k xs y ps a)

some-can-list : (xs : List Seated) → some_can xs ≡ list_any can_go_on (list_of xs)
unfolding some_can list_of
some-can-list [] = refl
some-can-list (x ∷ xs) = ap (λ (c : Bool). can_go_on x.seat || c) (some-can-list xs)

-- ---- the seats of a list and four buffers

abbrev pub seats : ℕ → List Seat → Lent → List Seated
seats n list b = seats_of list (machines n n 0 b)

-- those of the list and the buffers that seats of equal sizes leave
module _ (n : ℕ) (xs : List Seated) (some : 1 ≤ n) (long : length xs ≡ n) (c q o r : ℕ) (z : AllSized c q o r xs) where
  again-from : (j k : ℕ) → k + j ≡ n → seats_of (list_of (drop k xs)) (machines n j k (buffers_of xs)) ≡ drop k xs
  unfolding seats_of machines list_of
  again-from zero k h =
      let e : drop k xs ≡ [] = drop_of_length-le xs {i = k} (omega (arith, long, h)) in
      ap (λ (ys : List Seated). seats_of (list_of ys) (machines n zero k (buffers_of xs))) e ∙ sym e
  again-from (suc j) k h =
      let l : k < n = omega (arith, h) in
      let e : drop k xs ≡ seat_at k xs ∷ drop (suc k) xs = drop-cons xs k _ (omega (arith, l, long)) in
      let m = machine-is n k xs some long l c q o r z in
      ap (λ (ys : List Seated). seats_of (list_of ys) (machines n (suc j) k (buffers_of xs))) e
      ∙ (λ i. seated (seat_at k xs).seat (m i) ∷ again-from j (suc k) (omega (arith, h)) i)
      ∙ sym e

  seats-again : seats n (list_of xs) (buffers_of xs) ≡ xs
  seats-again = again-from n 0 (zero-add n)

-- ---- a bench that is not refused

-- the tests of 19, passed
pub record Fit (n m : ℕ) (b : Lent) : Type 0 where
  pub some : 1 ≤ n
  pub few : n ≤ 16
  pub records : m ≡ n
  pub cells : length b.cells % n ≡ 0
  pub queue : length b.queue % n ≡ 0
  pub output : length b.output % n ≡ 0
  pub row : length b.row % n ≡ 0

fit : (n m : ℕ) (b : Lent) → seats_fit n m (length b.cells) (length b.queue) (length b.output) (length b.row) ≡ true → Fit n m b
unfolding seats_fit
fit n m b h =
    let h₁ = and_right (leb 1 n) _ h in
    let h₂ = and_right (leb n 16) _ h₁ in
    let h₃ = and_right (eqb m n) _ h₂ in
    let h₄ = and_right (eqb (length b.cells % n) 0) _ h₃ in
    let h₅ = and_right (eqb (length b.queue % n) 0) _ h₄ in
    record {
      some = leb-true 1 n (and_left _ _ h);
      few = leb-true n 16 (and_left _ _ h₁);
      records = eqb-true m n (and_left _ _ h₂);
      cells = eqb-true (length b.cells % n) 0 (and_left _ _ h₃);
      queue = eqb-true (length b.queue % n) 0 (and_left _ _ h₄);
      output = eqb-true (length b.output % n) 0 (and_left _ _ h₅);
      row = eqb-true (length b.row % n) 0 (and_right (eqb (length b.output % n) 0) _ h₅);
    }

pub record Going (n : ℕ) (list : List Seat) (b : Lent) : Type 0 where
  pub fits : seats_fit n (length list) (length b.cells) (length b.queue) (length b.output) (length b.row) ≡ true
  pub all_in : AllAccepted (seats n list b)

accepted-from : (k : ℕ) (ls : List Lent) (list : List Seat) → (seat_by_seat k ls).refusal ≡ 0 → AllAccepted (seats_of list ls)
unfolding seat_by_seat seats_of
accepted-from k ls [] e = none
accepted-from k [] (s ∷ list) e = none
accepted-from k (l ∷ ls) (s ∷ list) e = go (passes (run_check l)) refl e (λ z. accepted-from (suc k) ls list z)
  where
    go : (c : Bool) → passes (run_check l) ≡ c → (cond c (seat_by_seat (suc k) ls) (benched (run_check l).refusal (run_check l).place k 0)).refusal ≡ 0 → ((seat_by_seat (suc k) ls).refusal ≡ 0 → AllAccepted (seats_of list ls))
        → AllAccepted (seated s l ∷ seats_of list ls)
    go true h z f = also h (f z)
    go false h z f = absurd (eqb-false (run_check l).refusal 0 h z)

check-from : (k : ℕ) (ls : List Lent) (list : List Seat) → length list ≡ length ls → AllAccepted (seats_of list ls) → (seat_by_seat k ls).refusal ≡ 0
unfolding seat_by_seat seats_of
check-from k [] list e ps = refl
check-from k (l ∷ ls) [] e ps = absurd (omega (arith, e))
check-from k (l ∷ ls) (s ∷ list) e (also a ps) = rw a (check-from (suc k) ls list (omega (arith, e)) ps)

machines-length : (n j k : ℕ) (b : Lent) → length (machines n j k b) ≡ j
unfolding machines
machines-length n zero k b = refl
machines-length n (suc j) k b = ap suc (machines-length n j (suc k) b)

pub going : (n : ℕ) (list : List Seat) (b : Lent) → (bench_check n (length list) b).refusal ≡ 0 → Going n list b
unfolding bench_check
going n list b =
    either (λ (d : Benched). d.refusal ≡ 0 → Going n list b) (seats_fit n (length list) (length b.cells) (length b.queue) (length b.output) (length b.row))
    (λ h e. record { fits = h; all_in = accepted-from 1 (machines n n 0 b) list e })
    (λ h e. absurd (omega (arith, e)))

pub not-refused : (n : ℕ) (list : List Seat) (b : Lent) → Going n list b → (bench_check n (length list) b).refusal ≡ 0
unfolding bench_check
not-refused n list b g =
    let f = fit n (length list) b g.fits in
    rw g.fits (check-from 1 (machines n n 0 b) list (f.records ∙ sym (machines-length n n 0 b)) g.all_in)

from_first : {A : Type 0} (l : List A) (m : ℕ) → drop (0 * m) l ≡ l
from_first l m = ap (λ (j : ℕ). drop j l) (zero-mul m)

module _ (n : ℕ) (list : List Seat) (b : Lent) (g : Going n list b) where
  abbrev f : Fit n (length list) b
  f = fit n (length list) b g.fits

  abbrev xs : List Seated
  xs = seats n list b

  pub some : 1 ≤ n
  some = f.some

  pub records : length list ≡ n
  records = f.records

  long : length xs ≡ n
  long = start-length n b n 0 list f.records

  pub round-end : (k t : ℕ) → k ≡ n → finish k xs t ≡ bench xs t
  round-end k t h = ap (λ (j : ℕ). finish j xs t) (h ∙ sym long) ∙ finish-end xs t

  sized : AllSized (length b.cells / n) (length b.queue / n) (length b.output / n) (length b.row / n) xs
  sized =
      let z : 0 + n ≡ n = zero-add n in
      record {
        cells = start-sized n b (λ l. l.cells) (λ k. refl) (divided n (length b.cells) f.cells) n 0 list z;
        queue = start-sized n b (λ l. l.queue) (λ k. refl) (divided n (length b.queue) f.queue) n 0 list z;
        output = start-sized n b (λ l. l.output) (λ k. refl) (divided n (length b.output) f.output) n 0 list z;
        row = start-sized n b (λ l. l.row) (λ k. refl) (divided n (length b.row) f.row) n 0 list z;
      }

  pub list-is : list ≡ list_of xs
  list-is = sym (start-list n b n 0 list f.records)

  pub buffers-is : b ≡ buffers_of xs
  buffers-is =
      let z : 0 + n ≡ n = zero-add n in
      sym (buffers-are xs ∙ (λ i. lent
      ((start-joined n b (λ l. l.cells) (λ k. refl) (divided n (length b.cells) f.cells) n 0 list f.records z ∙ from_first b.cells (length b.cells / n)) i)
      ((start-joined n b (λ l. l.queue) (λ k. refl) (divided n (length b.queue) f.queue) n 0 list f.records z ∙ from_first b.queue (length b.queue / n)) i)
      ((start-joined n b (λ l. l.output) (λ k. refl) (divided n (length b.output) f.output) n 0 list f.records z ∙ from_first b.output (length b.output / n)) i)
      ((start-joined n b (λ l. l.row) (λ k. refl) (divided n (length b.row) f.row) n 0 list f.records z ∙ from_first b.row (length b.row / n)) i)))

  -- whether somebody can go on, asked of the list
  pub goes-on-if : (t : ℕ) → 0 < t → list_any can_go_on list ≡ true → goes_on (bench xs t) ≡ true
  unfolding goes_on
  goes-on-if t h can = and_both (ltb 0 t) (some_can xs) (lt-ltb 0 t h) (some-can-list xs ∙ sym (ap (list_any can_go_on) list-is) ∙ can)

  pub nothing_left : (t : ℕ) → t ≤ 0 → goes_on (bench xs t) ≡ false
  unfolding goes_on
  nothing_left t h = ap (λ (c : Bool). c && some_can xs) (le-ltb 0 t h)

  pub no_one : (t : ℕ) → list_any can_go_on list ≡ false → goes_on (bench xs t) ≡ false
  unfolding goes_on
  no_one t h = go (ltb 0 t) (some_can xs) (some-can-list xs ∙ sym (ap (list_any can_go_on) list-is) ∙ h)
    where
      go : (a c : Bool) → c ≡ false → a && c ≡ false
      go true c e = e
      go false c e = refl

  -- ---- the turn at place k, with t left
  module _ (k : ℕ) (h : k < n) where
    abbrev x : Seated
    x = seat_at k xs

    abbrev s : Seat
    s = get_or list k no_seat

    here : k < length xs
    here = omega (arith, long, h)

    seat-is : s ≡ x.seat
    seat-is = ap (λ (l : List Seat). get_or l k no_seat) list-is ∙ list_at k xs here no_seat

    machine-here : machine_at n k b ≡ x.machine
    machine-here = ap (machine_at n k) buffers-is ∙ machine-is n k xs f.some long h (length b.cells / n) (length b.queue / n) (length b.output / n) (length b.row / n) sized

    pub accepted-here : Accepted (machine_at n k b)
    accepted-here = subst Accepted (sym machine-here) (accepted-at k xs g.all_in here)

    module _ (t : ℕ) (z : Called ℕ (Seat × Lent)) (e : z ≡ turn_at n k t s b) where
      abbrev y : Seated
      y = turned t x

      abbrev ys : List Seated
      ys = set xs k y

      abbrev pub list' : List Seat
      list' = set list k z.left.0

      abbrev pub b' : Lent
      b' = z.left.1

      seated-is : seated s (machine_at n k b) ≡ x
      seated-is i = seated (seat-is i) (machine-here i)

      took : z.answer ≡ taken t x
      unfolding turn_at
      took = ap (λ (c : Called ℕ (Seat × Lent)). c.answer) e ∙ ap (taken t) seated-is

      pub took-within : z.answer ≤ t
      took-within = subst (λ (j : ℕ). j ≤ t) (sym took) (taken-within t x (accepted-at k xs g.all_in here))

      list-after : list' ≡ list_of ys
      unfolding turn_at
      list-after =
          ap (λ (c : Called ℕ (Seat × Lent)). set list k c.left.0) e
          ∙ (λ i. set (list-is i) k (turned t (seated-is i)).seat)
          ∙ sym (list_set k xs y)

      buffers-after : b' ≡ buffers_of ys
      unfolding turn_at
      buffers-after =
          ap (λ (c : Called ℕ (Seat × Lent)). c.left.1) e
          ∙ (λ i. with_machine n k (turned t (seated-is i)).machine (buffers-is i))
          ∙ with-machine n k xs f.some long h (length b.cells / n) (length b.queue / n) (length b.output / n) (length b.row / n) sized y

      module _ (lc : length b'.cells ≡ length b.cells) (lq : length b'.queue ≡ length b.queue) (lo : length b'.output ≡ length b.output) (lr : length b'.row ≡ length b.row) where
        sized-now : AllSized (length b.cells / n) (length b.queue / n) (length b.output / n) (length b.row / n) ys
        sized-now =
            let p = buffers-after in
            let q = buffers-is in
            sized-after n k xs f.some long h (length b.cells / n) (length b.queue / n) (length b.output / n) (length b.row / n) sized y
            (sym (ap (λ (l : Lent). length l.cells) p) ∙ lc ∙ ap (λ (l : Lent). length l.cells) q)
            (sym (ap (λ (l : Lent). length l.queue) p) ∙ lq ∙ ap (λ (l : Lent). length l.queue) q)
            (sym (ap (λ (l : Lent). length l.output) p) ∙ lo ∙ ap (λ (l : Lent). length l.output) q)
            (sym (ap (λ (l : Lent). length l.row) p) ∙ lr ∙ ap (λ (l : Lent). length l.row) q)

        seats-after : seats n list' b' ≡ ys
        seats-after =
            (λ i. seats n (list-after i) (buffers-after i))
            ∙ seats-again n ys f.some (length-set xs k y ∙ long) (length b.cells / n) (length b.queue / n) (length b.output / n) (length b.row / n) sized-now

        pub going-after : Going n list' b'
        going-after = record {
          fits = (λ i. seats_fit n (length-set list k z.left.0 i) (lc i) (lq i) (lo i) (lr i)) ∙ g.fits;
          all_in = subst AllAccepted (sym seats-after) (accepted-set k xs y g.all_in (turned-accepted t x (accepted-at k xs g.all_in here)));
        }

        -- what is left of the round
        pub finish-after : finish k xs t ≡ finish (k + 1) (seats n list' b') (t - z.answer)
        finish-after = finish-step k xs t here ∙ sym (λ i. finish (add-one k i) (seats-after i) (t - took i))

-- ---- the end

-- nobody can go on, or nothing is left
pub ended : (n t : ℕ) (list : List Seat) (b : Lent) (list' : List Seat) (b' : Lent) (left : ℕ) → (bench_check n (length list) b).refusal ≡ 0 → Going n list' b'
    → finished (bench_of n left list' b') ≡ finished (bench_of n t list b) → goes_on (bench_of n left list' b') ≡ false → called (benched 0 0 0 left) (list', b') ≡ bench_call n t list b
unfolding bench_call
ended n t list b list' b' left ok g same h =
    let e : bench_of n left list' b' ≡ finished (bench_of n t list b) = sym (finished-idle (bench_of n left list' b') h) ∙ same in
    let d = bench_check n (length list) b in
    let f = finished (bench_of n t list b) in
    let w : Called Benched (List Seat × Lent) = called (benched 0 0 0 f.total) (list_of f.seats, buffers_of f.seats) in
    let z : Called Benched (List Seat × Lent) = called d (list, b) in
    (λ i. called (benched 0 0 0 left) (list-is n list' b' g i, buffers-is n list' b' g i))
    ∙ ap (λ (k : Bench). called (benched 0 0 0 k.total) (list_of k.seats, buffers_of k.seats)) e
    ∙ sym (ap (λ (k : Bool). cond k w z) (eq-eqb d.refusal 0 ok))

pub refusal_is : (n t : ℕ) (list : List Seat) (b : Lent) → (bench_check n (length list) b).refusal ≢ 0 → called (bench_check n (length list) b) (list, b) ≡ bench_call n t list b
unfolding bench_call
refusal_is n t list b h =
    let d = bench_check n (length list) b in
    let f = finished (bench_of n t list b) in
    let w : Called Benched (List Seat × Lent) = called (benched 0 0 0 f.total) (list_of f.seats, buffers_of f.seats) in
    let z : Called Benched (List Seat × Lent) = called d (list, b) in
    sym (ap (λ (k : Bool). cond k w z) (ne_eqb d.refusal 0 h))
