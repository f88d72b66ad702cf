-- A seat's turn, by whether it takes one.
use mathlib.Core.Path.{◌≡◌, refl, sym, ap, ◌∙◌}
use mathlib.Core.Bool.{Bool, true, false, cond, ◌&&◌}
use mathlib.Core.List.{List, ◌++◌}
use Prim.Native.Nat.{ℕ, ◌*◌, ◌/◌, ◌<◌, ◌≤◌, ◌^◌}
use native.Mathlib.Omega.{arith}
use lib.Dec.{ltb}
use lib.ListN.{length, take, drop, take-append-drop}
use borrow.Author.Tests.{lt-ltb}
use Rattle.definition.specs.declared.Ran.{Ran}
use Rattle.definition.specs.Calls.{Lent, Called, called, run_call}
use Rattle.definition.specs.UserMode.{Accepted}
use Rattle.definition.proofs.Verdict.{and_both}
use Rattle.definition.proofs.Accepted.{runs-accepted}
use Rattle.bench.specs.declared.Seat.{Seat}
use Rattle.bench.specs.Seat.{can_go_on, turn_budget, after}
use Rattle.bench.specs.Bench.{Seated, seated, part_of, machine_at, takes_turn, turn, turned, taken}
use Rattle.bench.specs.Turn.{with_part, with_machine, turn_at}
use Rattle.seats.specs.Meaning.{ran_at}
use Rattle.seats.proofs.Stops.{call-few}

-- a part that is put back as it was
same-part : {A : Type 0} (n k : ℕ) (xs : List A) → with_part n k (part_of n k xs) xs ≡ xs
unfolding with_part
same-part {A = A} n k xs =
    ap (λ (r : List A). take (k * (length xs / n)) xs ++ r) (take-append-drop (length xs / n) (drop (k * (length xs / n)) xs)) ∙ take-append-drop (k * (length xs / n)) xs

same-machine : (n k : ℕ) (b : Lent) → with_machine n k (machine_at n k b) b ≡ b
same-machine n k b i = record {
  cells = same-part n k b.cells i;
  queue = same-part n k b.queue i;
  output = same-part n k b.output i;
  row = same-part n k b.row i;
}

module _ (n k t : ℕ) (s : Seat) (b : Lent) where
  abbrev x : Seated
  x = seated s (machine_at n k b)

  abbrev by_turn : Bool → Called ℕ (Seat × Lent)
  by_turn c =
      let r = run_call (turn_budget s t) (machine_at n k b) in
      let y = cond c (seated (after r.answer.steps r.answer.stop s) r.left) x in
      called (cond c r.answer.steps 0) (y.seat, with_machine n k y.machine b)

  turn_is : turn_at n k t s b ≡ by_turn (takes_turn t x)
  unfolding turn_at taken turned turn
  turn_is = refl

  passed : takes_turn t x ≡ false → called 0 (s, b) ≡ turn_at n k t s b
  passed h = ap (λ (l : Lent). called {A = ℕ} 0 (s, l)) (sym (same-machine n k b)) ∙ sym (turn_is ∙ ap by_turn h)

  pub none_left : t ≡ 0 → called 0 (s, b) ≡ turn_at n k t s b
  unfolding takes_turn
  none_left h = passed (ap (λ (j : ℕ). ltb 0 j && can_go_on s) h)

  pub cannot_go_on : can_go_on s ≡ false → called 0 (s, b) ≡ turn_at n k t s b
  unfolding takes_turn
  cannot_go_on h = passed (go (ltb 0 t))
    where
      go : (c : Bool) → c && can_go_on s ≡ false
      go true = h
      go false = refl

  -- it runs, and is the seat u then
  pub turn-taken : {r : Ran} {l : Lent} {u : Seat} → called r l ≡ ran_at n k (turn_budget s t) b → 0 < t → can_go_on s ≡ true → u ≡ after r.steps r.stop s → called r.steps (u, l) ≡ turn_at n k t s b
  unfolding takes_turn
  turn-taken {r} {l} {u} ran h can is =
      (λ i. called r.steps (is i, l))
      ∙ ap (λ (y : Called Ran Lent). called y.answer.steps (after y.answer.steps y.answer.stop s, y.left)) ran
      ∙ sym (turn_is ∙ ap by_turn (and_both (ltb 0 t) (can_go_on s) (lt-ltb 0 t h) can))

-- what a run answers: its stop fits 32 bits, and its steps are within the budget
module _ (n k budget : ℕ) (b : Lent) {r : Ran} {l : Lent} (ran : called r l ≡ ran_at n k budget b) where
  pub stop-fits : r.stop < 2 ^ 32
  stop-fits =
      let f = call-few budget (machine_at n k b) in
      let e = ap (λ (y : Called Ran Lent). y.answer.stop) ran in
      omega (arith, f, e)

  pub steps-within : Accepted (machine_at n k b) → r.steps ≤ budget
  steps-within a =
      let f = (runs-accepted budget (machine_at n k b) a).within in
      let e = ap (λ (y : Called Ran Lent). y.answer.steps) ran in
      omega (arith, f, e)
