-- The four lent buffers in equal parts, and the seats' machines.
use mathlib.Core.Path.{◌≡◌, refl, sym, ap, ◌∙◌}
use mathlib.Core.List.{List, [], ◌∷◌, ◌++◌, append_assoc}
use Prim.Native.Nat.{ℕ, zero, suc, ◌+◌, ◌*◌, ◌/◌, ◌%◌, ◌<◌, ◌≤◌}
use native.Mathlib.Omega.{arith}
use native.Mathlib.Nat.{zero-mul, suc-mul, mul-le-mul_right, mul-div-le, div-add-mod, add-mul-div_left, zero-div, zero-add, not-suc-le-zero, le_of_suc-le-suc}
use lib.ListN.{length, get_or, set, take, drop, length-append, length-drop, take-append-drop, drop_of_length-le}
use lib.Seq.{length-take-le, take_at, drop_at, take-append-add, drop-append-add, drop-drop}
use Rattle.definition.specs.Calls.{Lent, lent}
use Rattle.bench.specs.declared.Seat.{Seat}
use Rattle.bench.specs.Bench.{Seated, part_of, machine_at, machines, seats_of, buffers_of, list_of}
use Rattle.bench.specs.Turn.{with_part, with_machine}
use Rattle.bench.specs.Laws.{seat_at}

-- a part lies within
pub part-within : (len n k : ℕ) → k < n → k * (len / n) + len / n ≤ len
part-within len n k h = let m = len / n in omega (arith, mul-le-mul_right m h, suc-mul k m, mul-div-le len n)

module _ {A : Type 0} (f : Seated → List A) where
  abbrev pub joined : List Seated → List A
  joined [] = []
  joined (x ∷ xs) = f x ++ joined xs

  -- each has a part of so many
  abbrev pub Sized : ℕ → List Seated → Type 0
  Sized m [] = Unit {0}
  Sized m (x ∷ xs) = (length (f x) ≡ m) × Sized m xs

  next-at : (m k : ℕ) (x : Seated) → length (f x) ≡ m → suc k * m ≡ length (f x) + k * m
  next-at m k x e = omega (arith, suc-mul k m, e)

  pub joined-part : (m k : ℕ) (xs : List Seated) → Sized m xs → k < length xs → take m (drop (k * m) (joined xs)) ≡ f (seat_at k xs)
  joined-part m k [] z h = absurd (not-suc-le-zero h)
  joined-part m zero (x ∷ xs) z h = ap (λ (j : ℕ). take m (drop j (f x ++ joined xs))) (zero-mul m) ∙ take_at (f x) (joined xs) m z.0
  joined-part m (suc k) (x ∷ xs) z h =
      ap (λ (j : ℕ). take m (drop j (f x ++ joined xs))) (next-at m k x z.0) ∙ ap (take m) (drop-append-add (f x) (joined xs) (k * m)) ∙ joined-part m k xs z.1 (le_of_suc-le-suc h)

  pub joined-set : (m k : ℕ) (xs : List Seated) (y : Seated) → Sized m xs → k < length xs → take (k * m) (joined xs) ++ (f y ++ drop m (drop (k * m) (joined xs))) ≡ joined (set xs k y)
  joined-set m k [] y z h = absurd (not-suc-le-zero h)
  joined-set m zero (x ∷ xs) y z h =
      ap (λ (j : ℕ). take j (f x ++ joined xs) ++ (f y ++ drop m (drop j (f x ++ joined xs)))) (zero-mul m) ∙ ap (λ (r : List A). f y ++ r) (drop_at (f x) (joined xs) m z.0)
  joined-set m (suc k) (x ∷ xs) y z h =
      ap (λ (j : ℕ). take j (f x ++ joined xs) ++ (f y ++ drop m (drop j (f x ++ joined xs)))) (next-at m k x z.0)
      ∙ ap (λ (r : List A). r ++ (f y ++ drop m (drop (length (f x) + k * m) (f x ++ joined xs)))) (take-append-add (f x) (joined xs) (k * m))
      ∙ ap (λ (r : List A). (f x ++ take (k * m) (joined xs)) ++ (f y ++ drop m r)) (drop-append-add (f x) (joined xs) (k * m))
      ∙ append_assoc (f x) (take (k * m) (joined xs)) (f y ++ drop m (drop (k * m) (joined xs)))
      ∙ ap (λ (r : List A). f x ++ r) (joined-set m k xs y z.1 (le_of_suc-le-suc h))

  pub joined_length : (m : ℕ) (xs : List Seated) → Sized m xs → length (joined xs) ≡ length xs * m
  joined_length m [] z = sym (zero-mul m)
  joined_length m (x ∷ xs) z = omega (arith, length-append (f x) (joined xs), z.0, joined_length m xs z.1, suc-mul (length xs) m)

  -- a seat that is set, where the whole is as long as before
  pub set-sized : (m k : ℕ) (xs : List Seated) (y : Seated) → Sized m xs → k < length xs → length (joined (set xs k y)) ≡ length (joined xs) → Sized m (set xs k y)
  set-sized m k [] y z h e = absurd (not-suc-le-zero h)
  set-sized m zero (x ∷ xs) y z h e = (omega (arith, e, length-append (f x) (joined xs), length-append (f y) (joined xs), z.0), z.1)
  set-sized m (suc k) (x ∷ xs) y z h e =
      (z.0, set-sized m k xs y z.1 (le_of_suc-le-suc h) (omega (arith, e, length-append (f x) (joined xs), length-append (f x) (joined (set xs k y)))))

-- the size of n equal parts
pub size_is : (n m len : ℕ) → 1 ≤ n → len ≡ n * m → len / n ≡ m
size_is n m len h e = ap (λ (k : ℕ). k / n) (e ∙ sym (zero-add (n * m))) ∙ add-mul-div_left 0 m h ∙ omega (arith, zero-div n)

-- ---- the four buffers

abbrev pub cells_in : Seated → List lib.IntN.ℤ
cells_in x = x.machine.cells

abbrev pub queue_in : Seated → List ℕ
queue_in x = x.machine.queue

abbrev pub output_in : Seated → List ℕ
output_in x = x.machine.output

abbrev pub row_in : Seated → List lib.IntN.ℤ
row_in x = x.machine.row

pub buffers-are : (xs : List Seated) → buffers_of xs ≡ lent (joined cells_in xs) (joined queue_in xs) (joined output_in xs) (joined row_in xs)
unfolding buffers_of
buffers-are [] = refl
buffers-are (x ∷ xs) = ap (λ (b : Lent). lent (cells_in x ++ b.cells) (queue_in x ++ b.queue) (output_in x ++ b.output) (row_in x ++ b.row)) (buffers-are xs)

-- each seat's parts are of these sizes
pub record AllSized (c q o r : ℕ) (xs : List Seated) : Type 0 where
  pub cells : Sized cells_in c xs
  pub queue : Sized queue_in q xs
  pub output : Sized output_in o xs
  pub row : Sized row_in r xs

module _ (n k : ℕ) (xs : List Seated) (some : 1 ≤ n) (long : length xs ≡ n) (within : k < n) where
  module _ {A : Type 0} (f : Seated → List A) (m : ℕ) (z : Sized f m xs) where
    here : k < length xs
    here = omega (arith, long)

    size : length (joined f xs) / n ≡ m
    size = size_is n m (length (joined f xs)) some (joined_length f m xs z ∙ ap (λ (j : ℕ). j * m) long)

    part-is : part_of n k (joined f xs) ≡ f (seat_at k xs)
    part-is = ap (λ (j : ℕ). take j (drop (k * j) (joined f xs))) size ∙ joined-part f m k xs z here

    with-is : (y : Seated) → with_part n k (f y) (joined f xs) ≡ joined f (set xs k y)
    unfolding with_part
    with-is y = ap (λ (j : ℕ). take (k * j) (joined f xs) ++ (f y ++ drop j (drop (k * j) (joined f xs)))) size ∙ joined-set f m k xs y z here

  module _ (c q o r : ℕ) (z : AllSized c q o r xs) where
    abbrev b : Lent
    b = lent (joined cells_in xs) (joined queue_in xs) (joined output_in xs) (joined row_in xs)

    pub machine-is : machine_at n k (buffers_of xs) ≡ (seat_at k xs).machine
    machine-is =
        ap (machine_at n k) (buffers-are xs)
        ∙ (λ i. lent (part-is cells_in c z.cells i) (part-is queue_in q z.queue i) (part-is output_in o z.output i) (part-is row_in r z.row i))

    pub with-machine : (y : Seated) → with_machine n k y.machine (buffers_of xs) ≡ buffers_of (set xs k y)
    with-machine y =
        ap (with_machine n k y.machine) (buffers-are xs)
        ∙ (λ i. lent (with-is cells_in c z.cells y i) (with-is queue_in q z.queue y i) (with-is output_in o z.output y i) (with-is row_in r z.row y i))
        ∙ sym (buffers-are (set xs k y))

    -- a machine put in that leaves the buffers' lengths has the seat's sizes
    pub sized-after : (y : Seated) → length (buffers_of (set xs k y)).cells ≡ length (buffers_of xs).cells → length (buffers_of (set xs k y)).queue ≡ length (buffers_of xs).queue
        → length (buffers_of (set xs k y)).output ≡ length (buffers_of xs).output → length (buffers_of (set xs k y)).row ≡ length (buffers_of xs).row → AllSized c q o r (set xs k y)
    sized-after y ec eq eo er =
        let g = buffers-are (set xs k y) in
        let h = buffers-are xs in
        record {
          cells = set-sized cells_in c k xs y z.cells (here cells_in c z.cells) (sym (ap (λ (l : Lent). length l.cells) g) ∙ ec ∙ ap (λ (l : Lent). length l.cells) h);
          queue = set-sized queue_in q k xs y z.queue (here queue_in q z.queue) (sym (ap (λ (l : Lent). length l.queue) g) ∙ eq ∙ ap (λ (l : Lent). length l.queue) h);
          output = set-sized output_in o k xs y z.output (here output_in o z.output) (sym (ap (λ (l : Lent). length l.output) g) ∙ eo ∙ ap (λ (l : Lent). length l.output) h);
          row = set-sized row_in r k xs y z.row (here row_in r z.row) (sym (ap (λ (l : Lent). length l.row) g) ∙ er ∙ ap (λ (l : Lent). length l.row) h);
        }

-- ---- where a bench starts

module _ (n : ℕ) (b : Lent) where
  module _ {A : Type 0} (g : Lent → List A) (law : (k : ℕ) → g (machine_at n k b) ≡ part_of n k (g b)) (whole : n * (length (g b) / n) ≡ length (g b)) where
    abbrev m : ℕ
    m = length (g b) / n

    pub start-joined : (j k : ℕ) (list : List Seat) → length list ≡ j → k + j ≡ n → joined (λ x. g x.machine) (seats_of list (machines n j k b)) ≡ drop (k * m) (g b)
    unfolding seats_of machines
    start-joined zero k [] e h = let p : n ≤ k = omega (arith, h) in sym (drop_of_length-le (g b) {i = k * m} (omega (arith, whole, mul-le-mul_right m p)))
    start-joined zero k (s ∷ list) e h = absurd (omega (arith, e))
    start-joined (suc j) k [] e h = absurd (omega (arith, e))
    start-joined (suc j) k (s ∷ list) e h =
        ap (λ (r : List A). r ++ joined (λ x. g x.machine) (seats_of list (machines n j (suc k) b))) (law k)
        ∙ ap (λ (r : List A). part_of n k (g b) ++ r) (start-joined j (suc k) list (omega (arith, e)) (omega (arith, h)))
        ∙ ap (λ (i : ℕ). part_of n k (g b) ++ drop i (g b)) (suc-mul k m)
        ∙ ap (λ (r : List A). part_of n k (g b) ++ r) (sym (drop-drop m (k * m) (g b)))
        ∙ take-append-drop m (drop (k * m) (g b))

    pub start-sized : (j k : ℕ) (list : List Seat) → k + j ≡ n → Sized (λ x. g x.machine) m (seats_of list (machines n j k b))
    unfolding seats_of machines
    start-sized j k [] h = tt
    start-sized zero k (s ∷ list) h = tt
    start-sized (suc j) k (s ∷ list) h =
        (ap length (law k) ∙ length-take-le m (drop (k * m) (g b)) (omega (arith, length-drop (k * m) (g b), part-within (length (g b)) n k (omega (arith, h)))), start-sized j (suc k) list (omega (arith, h)))

  pub start-list : (j k : ℕ) (list : List Seat) → length list ≡ j → list_of (seats_of list (machines n j k b)) ≡ list
  unfolding seats_of machines list_of
  start-list j k [] e = refl
  start-list zero k (s ∷ list) e = absurd (omega (arith, e))
  start-list (suc j) k (s ∷ list) e = ap {B = List Seat} (λ (r : List Seat). s ∷ r) (start-list j (suc k) list (omega (arith, e)))

  pub start-length : (j k : ℕ) (list : List Seat) → length list ≡ j → length (seats_of list (machines n j k b)) ≡ j
  unfolding seats_of machines
  start-length j k [] e = e
  start-length zero k (s ∷ list) e = absurd (omega (arith, e))
  start-length (suc j) k (s ∷ list) e = ap suc (start-length j (suc k) list (omega (arith, e)))

-- the whole divides
pub divided : (n len : ℕ) → len % n ≡ 0 → n * (len / n) ≡ len
divided n len e = omega (arith, div-add-mod len n, e)

-- ---- the list

pub list_at : (k : ℕ) (xs : List Seated) → k < length xs → (d : Seat) → get_or (list_of xs) k d ≡ (seat_at k xs).seat
unfolding list_of
list_at k [] h d = absurd (not-suc-le-zero h)
list_at zero (x ∷ xs) h d = refl
list_at (suc k) (x ∷ xs) h d = list_at k xs (le_of_suc-le-suc h) d

pub list_set : (k : ℕ) (xs : List Seated) (y : Seated) → list_of (set xs k y) ≡ set (list_of xs) k y.seat
unfolding list_of
list_set k [] y = refl
list_set zero (x ∷ xs) y = refl
list_set (suc k) (x ∷ xs) y = ap {B = List Seat} (λ (r : List Seat). x.seat ∷ r) (list_set k xs y)

pub list_length : (xs : List Seated) → length (list_of xs) ≡ length xs
unfolding list_of
list_length [] = refl
list_length (x ∷ xs) = ap suc (list_length xs)
