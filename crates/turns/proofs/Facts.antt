-- What the proofs say of a call: how it begins, a round more, and how it ends.
use mathlib.Core.Path.{◌≡◌, refl, sym, ap, subst, ◌∙◌}
use mathlib.Core.Bool.{true, false}
use mathlib.Core.List.{List}
use Prim.Native.Nat.{ℕ, ◌<◌, ◌≤◌}
use native.Mathlib.Omega.{arith}
use lib.ListN.{length}
use borrow.Author.Tests.{eqb-false}
use Rattle.std.specs.List.{list_any}
use Rattle.definition.specs.Calls.{Lent, called}
use Rattle.definition.specs.Answers.{number_of}
use Rattle.definition.proofs.Checked.{number_some}
use Rattle.bench.specs.declared.Seat.{Seat}
use Rattle.bench.specs.declared.Benched.{Benched}
use Rattle.bench.specs.declared.Refused.{Refused}
use Rattle.bench.specs.declared.Refused.TheVariants.{Seats, Machine}
use Rattle.bench.specs.Seat.{can_go_on}
use Rattle.bench.specs.Refused.{refused}
use Rattle.bench.specs.Bench.{Bench, round_of, goes_on, fuel, finished, benched, bench_check, bench_of, bench_call}
use Rattle.bench.proofs.Laws.{fuel-falls}
use Rattle.bench.proofs.Loop.{Going, going, records, goes-on-if, no_one, nothing_left, finished-round, ended, refusal_is}
use Rattle.seats.specs.declared.Buffers.{Buffers}
use Rattle.seats.specs.Meaning.{AreSame}
use Rattle.turns.specs.Turn.{lent_bench, IsAccepted}

refused-some : (e : Refused) → (refused e).refusal ≡ 0 → ⊥
refused-some Seats h = absurd (omega (arith, h))
refused-some (Machine k e) h = eqb-false (number_of e) 0 (number_some e) h

-- ---- buffers that are the same

pub same-buffers : (x : Buffers) → AreSame x x
same-buffers x = record { cells = refl; queues = refl; outputs = refl; rows = refl; cells_long = refl; queues_long = refl; outputs_long = refl; rows_long = refl }

pub still-same : {x y z : Buffers} → AreSame x y → AreSame y z → AreSame x z
still-same p q = record {
  cells = q.cells ∙ p.cells;
  queues = q.queues ∙ p.queues;
  outputs = q.outputs ∙ p.outputs;
  rows = q.rows ∙ p.rows;
  cells_long = q.cells_long ∙ p.cells_long;
  queues_long = q.queues_long ∙ p.queues_long;
  outputs_long = q.outputs_long ∙ p.outputs_long;
  rows_long = q.rows_long ∙ p.rows_long;
}

-- ---- a round more
module _ (list : List Seat) (b : Lent) (accepted : IsAccepted list b) (t : ℕ) where
  abbrev g : Going (length list) list b
  g = going (length list) list b accepted

  module _ (some : 0 < t) (can : list_any can_go_on list ≡ true) (after : Bench) (is : after ≡ round_of (lent_bench t list b)) where
    pub more-same : finished after ≡ finished (lent_bench t list b)
    more-same = ap finished is ∙ finished-round (lent_bench t list b) g.all_in

    pub more-falls : fuel after < fuel (lent_bench t list b)
    more-falls = subst (λ (x : Bench). fuel x < fuel (lent_bench t list b)) (sym is) (fuel-falls (lent_bench t list b) g.all_in (goes-on-if (length list) list b g t some can))

  pub none-left : t ≤ 0 → goes_on (lent_bench t list b) ≡ false
  none-left h = nothing_left (length list) list b g t h

  pub none-can : list_any can_go_on list ≡ false → goes_on (lent_bench t list b) ≡ false
  none-can h = no_one (length list) list b g t h

-- ---- the call
module _ (n t : ℕ) (list : List Seat) (b : Lent) where
  pub turned-back : (e : Refused) → refused e ≡ bench_check n (length list) b → called (refused e) (list, b) ≡ bench_call n t list b
  turned-back e h =
      ap (λ (d : Benched). called d (list, b)) h ∙ refusal_is n t list b (λ z. refused-some e (ap (λ (d : Benched). d.refusal) h ∙ z))

  module _ (passed : benched 0 0 0 0 ≡ bench_check n (length list) b) where
    ok : (bench_check n (length list) b).refusal ≡ 0
    ok = ap (λ (d : Benched). d.refusal) (sym passed)

    same-count : length list ≡ n
    same-count = records n list b (going n list b ok)

    pub at-start : IsAccepted list b
    at-start = ap (λ (k : ℕ). (bench_check k (length list) b).refusal) same-count ∙ ok

    pub at-end : (left : ℕ) (list' : List Seat) (b' : Lent) → length list' ≡ length list → IsAccepted list' b' → finished (lent_bench left list' b') ≡ finished (lent_bench t list b)
        → goes_on (lent_bench left list' b') ≡ false → called (benched 0 0 0 left) (list', b') ≡ bench_call n t list b
    at-end left list' b' long accepted same halts =
        let m : n ≡ length list' = sym (long ∙ same-count) in
        let is : bench_of n left list' b' ≡ lent_bench left list' b' = ap (λ (k : ℕ). bench_of k left list' b') m in
        ended n t list b list' b' left ok
        (going n list' b' (ap (λ (k : ℕ). (bench_check k (length list') b').refusal) m ∙ accepted))
        (ap finished is ∙ same ∙ ap (λ (k : ℕ). finished (bench_of k t list b)) same-count)
        (ap goes_on is ∙ halts)
