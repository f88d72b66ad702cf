-- A seat's parts of the four buffers: lent to a run, and back.
use mathlib.Core.Path.{◌≡◌, ap, ◌∙◌}
use mathlib.Core.List.{List, ◌++◌}
use Prim.Native.Nat.{ℕ, ◌+◌, ◌*◌, ◌-◌, ◌/◌, ◌≤◌}
use native.Mathlib.Omega.{arith}
use lib.ListN.{length, take, drop}
use Rattle.std.specs.declared.ops.Range.{Range}
use Rattle.definition.specs.declared.Ran.{Ran}
use Rattle.definition.specs.Calls.{Lent, lent, Called, called, run_call}
use Rattle.bench.specs.Bench.{part_of, machine_at}
use Rattle.bench.specs.Turn.{with_part, with_machine}
use Rattle.seats.specs.Meaning.{ran_at}

-- what `range` says of its bounds
abbrev pub IsPart : ℕ → ℕ → ℕ → Range ℕ → Type 0
IsPart n k len p = (p.start ≡ k * (len / n)) × ((p.end ≡ k * (len / n) + len / n) × (p.end ≤ len))

range-size : (start size from to : ℕ) → from ≡ start → to ≡ start + size → to - from ≡ size
range-size start size from to f t = omega arith

module _ {A : Type 0} (n k : ℕ) (xs : List A) (p : Range ℕ) (h : IsPart n k (length xs) p) where
  size : p.end - p.start ≡ length xs / n
  size = range-size (k * (length xs / n)) (length xs / n) p.start p.end h.0 h.1.0

  pub part-lent : take (p.end - p.start) (drop p.start xs) ≡ part_of n k xs
  part-lent i = take (size i) (drop (h.0 i) xs)

  pub part-back : (ys : List A) → take p.start xs ++ (ys ++ drop (p.end - p.start) (drop p.start xs)) ≡ with_part n k ys xs
  unfolding with_part
  part-back ys i = take (h.0 i) xs ++ (ys ++ drop (size i) (drop (h.0 i) xs))

-- all four
module _ (n k : ℕ) (b : Lent) (c q o r : Range ℕ) (hc : IsPart n k (length b.cells) c) (hq : IsPart n k (length b.queue) q) (ho : IsPart n k (length b.output) o) (hr : IsPart n k (length b.row) r) where
  abbrev pub lent_part : {A : Type 0} → Range ℕ → List A → List A
  lent_part p xs = take (p.end - p.start) (drop p.start xs)

  abbrev pub back_part : {A : Type 0} → Range ℕ → List A → List A → List A
  back_part p ys xs = take p.start xs ++ (ys ++ drop (p.end - p.start) (drop p.start xs))

  abbrev pub lent_parts : Lent
  lent_parts = lent (lent_part c b.cells) (lent_part q b.queue) (lent_part o b.output) (lent_part r b.row)

  abbrev pub back_parts : Lent → Lent
  back_parts l = lent (back_part c l.cells b.cells) (back_part q l.queue b.queue) (back_part o l.output b.output) (back_part r l.row b.row)

  parts-lent : lent_parts ≡ machine_at n k b
  parts-lent i =
      lent (part-lent n k b.cells c hc i) (part-lent n k b.queue q hq i) (part-lent n k b.output o ho i) (part-lent n k b.row r hr i)

  parts-back : (l : Lent) → back_parts l ≡ with_machine n k l b
  parts-back l i =
      lent (part-back n k b.cells c hc l.cells i) (part-back n k b.queue q hq l.queue i) (part-back n k b.output o ho l.output i) (part-back n k b.row r hr l.row i)

  pub parts-ran : (budget : ℕ) {x : Ran} {l : Lent} → called x l ≡ run_call budget lent_parts → called x (back_parts l) ≡ ran_at n k budget b
  parts-ran budget {x} {l} e =
      ap (called x) (parts-back l) ∙ ap (λ (y : Called Ran Lent). called y.answer (with_machine n k y.left b)) (e ∙ ap (run_call budget) parts-lent)
