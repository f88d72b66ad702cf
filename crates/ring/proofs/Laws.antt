-- What the test says to the code, and a record remembered in two parts.
use mathlib.Core.Path.{◌≡◌, refl, sym, ap, ◌∙◌}
use mathlib.Core.Bool.{Bool, true, false, cond}
use mathlib.Core.List.{List}
use Prim.Native.Nat.{ℕ, suc, ◌+◌, ◌-◌, ◌<◌, ◌≤◌}
use native.Mathlib.Omega.{arith}
use lib.IntN.{ℤ, pos, nat_abs}
use lib.ListN.{length, set}
use lib.Dec.{ltb}
use borrow.Author.Tests.{ltb-true, le-ltb}
use Rattle.definition.specs.Io.{around}
use Rattle.journal.specs.Journal.{start_of, count_of, with_start, with_count, records, put_record, kept_place, remember, is_journal}
use Rattle.journal.proofs.Ring.{journal-in, place_in, put-length, put_front, records-length}
use Rattle.ring.specs.Meaning.{next_place, advanced}

pub next-in : (j : List ℤ) → is_journal j ≡ true → next_place j < records j
unfolding next_place kept_place
next-in j h = go (ltb (count_of j) (records j)) refl
  where
    go : (b : Bool) → ltb (count_of j) (records j) ≡ b → cond b (around (records j) (start_of j + count_of j)) (start_of j) < records j
    go true e = place_in (records j) (start_of j) (count_of j) (journal-in j h).start_in (ltb-true _ _ e)
    go false e = (journal-in j h).start_in

pub remember-is : (r j : List ℤ) → is_journal j ≡ true → length r ≡ 37 → advanced (put_record (next_place j) r j) ≡ remember r j
unfolding advanced remember next_place
remember-is r j h l =
    let J = journal-in j h in
    let p = next_place j in
    let b = next-in j h in
    let k = put_record p r j in
    let c : count_of k ≡ count_of j = ap nat_abs (put_front j r p J b l 1 (omega arith)) in
    let s : start_of k ≡ start_of j = ap nat_abs (put_front j r p J b l 0 (omega arith)) in
    let n : records k ≡ records j = records-length k j (put-length j r p J b l) in
    (λ i. cond (ltb (c i) (n i)) (with_count (suc (c i)) k) (with_start (around (n i) (suc (s i))) k))
    ∙ go (ltb (count_of j) (records j))
  where
    go : (b : Bool) → cond b (with_count (suc (count_of j)) (put_record (cond b (kept_place (count_of j) j) (start_of j)) r j)) (with_start (around (records j) (suc (start_of j))) (put_record (cond b (kept_place (count_of j) j) (start_of j)) r j)) ≡ cond b (with_count (suc (count_of j)) (put_record (kept_place (count_of j) j) r j)) (with_start (around (records j) (suc (start_of j))) (put_record (start_of j) r j))
    go true = refl
    go false = refl

-- ---- start and count

module _ (j : List ℤ) (n k : ℕ) (c : n ≡ count_of j) (r : k ≡ records j) where
  full : k ≤ n → ltb (count_of j) (records j) ≡ false
  full h = sym (λ i. ltb (c i) (r i)) ∙ le-ltb n k h

  pub start-on : (s x : ℕ) → k ≤ n → s ≡ start_of j → x ≡ around k (s + 1) → set j 0 (pos x) ≡ advanced j
  unfolding advanced
  start-on s x h e f =
      let g : s + 1 ≡ suc (start_of j) = omega arith in
      ap (λ (i : ℕ). set j 0 (pos i)) (f ∙ (λ i. around (r i) (g i)))
      ∙ sym (ap (λ (b : Bool). cond b (with_count (suc (count_of j)) j) (with_start (around (records j) (suc (start_of j))) j)) (full h))

pub small : (j : List ℤ) → is_journal j ≡ true → (start_of j < records j) × ((records j ≤ 4096) × (count_of j ≤ records j))
small j h = let J = journal-in j h in (J.start_in, (J.few, J.count_in))

around-small : (n i : ℕ) → i ≤ n + n → around n i ≤ n
unfolding around
around-small n i h = go (ltb i n) refl
  where
    go : (b : Bool) → ltb i n ≡ b → cond b i (i - n) ≤ n
    go true e = let l : i < n = ltb-true i n e in omega arith
    go false e = omega arith

-- a start moved on is small
pub start_small : (j : List ℤ) → is_journal j ≡ true → (k i x : ℕ) → k ≡ records j → x ≡ around k i → i ≤ k + k → x ≤ 4096
start_small j h k i x e g l =
    let d = (small j h).1.0 in
    let z : around k i ≤ k = around-small k i l in
    omega arith
