-- The newest record, what its test says of it, and what going back leaves.
use mathlib.Core.Path.{◌≡◌, refl, sym, ap, ◌∙◌, subst}
use mathlib.Core.Bool.{Bool, true, false, ◌&&◌, ◌||◌}
use mathlib.Core.List.{List, [], ◌∷◌, ◌++◌}
use Prim.Native.Nat.{ℕ, zero, suc, ◌+◌, ◌*◌, ◌-◌, ◌<◌, ◌≤◌}
use native.Mathlib.Omega.{arith}
use native.Mathlib.Decide.{ℕ_discrete}
use lib.IntN.{ℤ, pos, nat_abs}
use lib.ListN.{length, get_or, take, drop}
use lib.Dec.{leb, eqb}
use Rattle.std.specs.List.{list_all, range_with_len}
use borrow.Author.Tests.{leb-true, ne_eqb}
use Rattle.definition.specs.Constants.{QUEUE-MOST, OUTPUT-MOST, ROW}
use Rattle.definition.specs.Memory.{cell_count, put_cell}
use Rattle.definition.specs.Encoding.{sound}
use Rattle.definition.specs.Calls.{Test, test, verdict, passes, is_below, cells_test, length_test, row_tests, accepted}
use Rattle.definition.proofs.Verdict.{and_left, and_right, passes-left, passes-right, numbered}
use Rattle.definition.proofs.Row.{row_fits, below_in}
use Rattle.definition.proofs.Checked.{accepted-passes}
use Rattle.journal.specs.Journal.{row_in, writes_in, held_in, put_back, start_of, count_of, records, record_at, kept_place, newest, is_journal}
use Rattle.journal.specs.Calls.{Backward, held_fit, is_record, back_check}
use Rattle.journal.proofs.Ring.{journal-in, place_in}

-- ---- the newest record

module _ (j : List ℤ) (h : is_journal j ≡ true) (k : 1 ≤ count_of j) where
  pub newest-in : kept_place (count_of j - 1) j < records j
  unfolding kept_place
  newest-in =
      let J = journal-in j h in
      let c = J.count_in in
      place_in (records j) (start_of j) (count_of j - 1) J.start_in (omega arith)

  -- where it ends
  pub newest-room : (n p : ℕ) → n ≡ count_of j → p ≡ kept_place (n - 1) j → 2 + 37 * p + 37 ≤ length j
  newest-room n p e f =
      let J = journal-in j h in
      let l = J.long in
      let g : p ≡ kept_place (count_of j - 1) j = f ∙ ap (λ (i : ℕ). kept_place (i - 1) j) e in
      let i = newest-in in
      omega arith

  pub newest-few : (n p : ℕ) → n ≡ count_of j → p ≡ kept_place (n - 1) j → p < 4096
  newest-few n p e f =
      let r = newest-room n p e f in
      let J = journal-in j h in
      let l = J.long in
      let m = J.few in
      omega arith

  pub newest-part : (n p : ℕ) → n ≡ count_of j → p ≡ kept_place (n - 1) j → take (2 + 37 * p + 37 - (2 + 37 * p)) (drop (2 + 37 * p) j) ≡ newest 0 j
  unfolding newest record_at
  newest-part n p e f =
      let s : 2 + 37 * p + 37 - (2 + 37 * p) ≡ 37 = omega arith in
      let g : p ≡ kept_place (count_of j - 1) j = f ∙ ap (λ (i : ℕ). kept_place (i - 1) j) e in
      λ i. take (s i) (drop (2 + 37 * g i) j)

-- ---- the tests

and-swap : (x y z : Bool) → (x && (y && z)) ≡ (y && (x && z))
and-swap true y z = refl
and-swap false true z = refl
and-swap false false z = refl

all-last : (t : ℕ → Bool) (a i j : ℕ) → a + i ≡ j → list_all t (range_with_len a (suc i)) ≡ (t j && list_all t (range_with_len a i))
all-last t a zero j e = let f : a ≡ j = omega arith in ap (λ (x : ℕ). t x && true) f
all-last t a (suc i) j e =
    ap (λ (y : Bool). t a && y) (all-last t (a + 1) i j (omega arith)) ∙ and-swap (t a) (t j) (list_all t (range_with_len (a + 1) i))

module _ (n : ℕ) (r : List ℤ) where
  abbrev pub fits_at : ℕ → Bool
  fits_at i = is_below n (get_or r (21 + 4 * i) (pos 0)) && sound (held_in r i).cell

  and-and : (x y z : Bool) → (x && (y && z)) ≡ ((x && y) && z)
  and-and true y z = refl
  and-and false y z = refl

  fit_more : (i : ℕ) → held_fit n r (suc i) ≡ (fits_at i && held_fit n r i)
  unfolding held_fit
  fit_more i = and-and (is_below n (get_or r (21 + 4 * i) (pos 0))) (sound (held_in r i).cell) (held_fit n r i)

  pub fit-list : (k : ℕ) → list_all fits_at (range_with_len 0 k) ≡ held_fit n r k
  unfolding held_fit
  fit-list zero = refl
  fit-list (suc i) = all-last fits_at 0 i i (omega arith) ∙ ap (λ (x : Bool). fits_at i && x) (fit-list i) ∙ sym (fit_more i)

-- its number of cells
pub few-cells : (r : List ℤ) {b : Bool} → b ≡ is_below 5 (get_or r ROW (pos 0)) → b ≡ true → {k : ℕ} → k ≡ writes_in r → k ≤ 4
few-cells r e t f = let l = (below_in 5 (get_or r ROW (pos 0)) (sym e ∙ t)).1 in omega arith

-- a cell among k that fit
held_in_lem : (n : ℕ) (r : List ℤ) (k i : ℕ) → held_fit n r k ≡ true → i < k → (held_in r i).address < n
unfolding held_fit held_in
held_in_lem n r zero i h l = omega arith
held_in_lem n r (suc k) i h l =
    go (ℕ_discrete i k) (held_in_lem n r k i (and_right (sound (held_in r k).cell) _ (and_right (is_below n (get_or r (suc ROW + 4 * k) (pos 0))) _ h)))
  where
    go : Dec (i ≡ k) → (i < k → nat_abs (get_or r (suc ROW + 4 * i) (pos 0)) < n) → nat_abs (get_or r (suc ROW + 4 * i) (pos 0)) < n
    go (yes e) f = subst (λ (y : ℕ). nat_abs (get_or r (suc ROW + 4 * y) (pos 0)) < n) (sym e) (below_in n (get_or r (suc ROW + 4 * k) (pos 0)) (and_left (is_below n (get_or r (suc ROW + 4 * k) (pos 0))) _ h)).1
    go (no e) f = f (omega arith)

-- in cells that have become others, as many
pub held-within : (l l₀ r : List ℤ) (k i : ℕ) → length l ≡ length l₀ → held_fit (cell_count l₀) r k ≡ true → i < k → (held_in r i).address < cell_count l
held-within l l₀ r k i e h b = let a = held_in_lem (cell_count l₀) r k i h b in omega arith

-- what the test says of it
pub few-in : (n : ℕ) (r : List ℤ) → is_record n r ≡ true → writes_in r ≤ 4
unfolding is_record
few-in n r h = few-cells r refl (and_left (is_below 5 (get_or r ROW (pos 0))) _ h) refl

pub cells_in : (n : ℕ) (r : List ℤ) → is_record n r ≡ true → held_fit n r (writes_in r) ≡ true
unfolding is_record
cells_in n r h =
    and_right (passes (verdict (row_tests QUEUE-MOST OUTPUT-MOST n (row_in r)))) _ (and_right (is_below 5 (get_or r ROW (pos 0))) _ h)

-- ---- the cells put back

pub put-more : (r l : List ℤ) (k : ℕ) → 0 < k → put_back (k - 1) r (put_cell l (held_in r (k - 1)).address (held_in r (k - 1)).cell) ≡ put_back k r l
unfolding put_back
put-more r l zero h = absurd (omega arith)
put-more r l (suc i) h =
    let e : suc i - 1 ≡ i = omega arith in
    ap (λ (x : ℕ). put_back x r (put_cell l (held_in r x).address (held_in r x).cell)) e

pub put-none : (r l : List ℤ) (k : ℕ) → k ≤ 0 → l ≡ put_back k r l
unfolding put_back
put-none r l zero h = refl
put-none r l (suc i) h = absurd (omega arith)

-- ---- the call

-- what its check says of the things lent, where it passes
pub record BackPassed (b : Backward) : Type 0 where
  pub row-long : length b.row ≡ ROW
  pub is-journal : is_journal b.journal ≡ true
  pub some : 1 ≤ count_of b.journal
  pub is-record : is_record (cell_count b.cells) (newest 0 b.journal) ≡ true

pub back-passed : (b : Backward) → accepted ≡ back_check b → BackPassed b
unfolding back_check
back-passed b h =
    let n = cell_count b.cells in
    let j = b.journal in
    let t : List Test = test 20 0 (is_journal j && (eqb (count_of j) 0 || is_record n (newest 0 j))) ∷ test 21 0 (leb 1 (count_of j)) ∷ [] in
    let rows = row_tests QUEUE-MOST OUTPUT-MOST n b.row in
    let ts : List Test = cells_test b.cells ∷ (rows ++ t) in
    let m : numbered ts ≡ true = unfold cells_test row_tests length_test in refl in
    let p = accepted-passes ts m h in
    let q = passes-right rows t p.1 in
    let some : 1 ≤ count_of j = leb-true 1 (count_of j) q.1.0 in
    let kept : eqb (count_of j) 0 ≡ false = ne_eqb (count_of j) 0 (λ z. omega arith) in
    record {
      row-long = (row_fits QUEUE-MOST OUTPUT-MOST n b.row (passes-left rows t p.1)).long;
      is-journal = and_left (is_journal j) _ q.0;
      some = some;
      is-record = sym (ap (λ (x : Bool). x || is_record n (newest 0 j)) kept) ∙ and_right (is_journal j) _ q.0;
    }
