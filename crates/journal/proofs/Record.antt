-- A record read back: its row, its cells, and that going back takes it.
use mathlib.Core.Path.{◌≡◌, refl, sym, ap, ◌∙◌}
use mathlib.Core.Bool.{true}
use mathlib.Core.List.{List, [], ◌∷◌, ◌++◌}
use Prim.Native.Nat.{ℕ, suc, ◌+◌, ◌*◌, ◌-◌, ◌<◌, ◌≤◌}
use native.Mathlib.Omega.{arith}
use lib.IntN.{ℤ, pos, nat_abs}
use lib.ListN.{length, get_or, drop, replicate, length-append, length-replicate}
use lib.Seq.{get_or-drop, drop-drop, drop_at, take_at, get_or_at}
use borrow.Author.Tests.{lt-ltb}
use Rattle.definition.specs.Constants.{ROW, QUEUE-MOST, OUTPUT-MOST}
use Rattle.definition.specs.Memory.{cell, put_cell}
use Rattle.definition.specs.Encoding.{sound}
use Rattle.definition.specs.Calls.{verdict, passes, is_below, row_tests}
use Rattle.definition.proofs.Verdict.{and_both, Passes, passes-verdict}
use Rattle.journal.specs.Writes.{Held, held, undone}
use Rattle.journal.specs.Journal.{WRITES-MOST, RECORD, numbers, record_of, row_in, writes_in, held_in, put_back}
use Rattle.journal.specs.Calls.{held_fit, is_record}
use Rattle.journal.proofs.Step.{Fit}

pub below-is : (n k : ℕ) → k < n → is_below n (pos k) ≡ true
unfolding is_below
below-is n k h = lt-ltb k n h

-- the cells of r from number p on are hs
abbrev Reads : List ℤ → ℕ → List Held → Type 0
Reads r p [] = Unit {0}
Reads r p (h ∷ hs) = ((get_or r (suc ROW + 4 * p) (pos 0) ≡ pos h.address) × (held_in r p ≡ h)) × Reads r (suc p) hs

module _ (r : List ℤ) where
  reads : (hs : List Held) (x : List ℤ) (p : ℕ) → drop (suc ROW + 4 * p) r ≡ numbers hs ++ x → Reads r p hs
  unfolding numbers held_in
  reads [] x p e = tt
  reads (h ∷ hs) x p e =
      let q = suc ROW + 4 * p in
      let at : (i : ℕ) → get_or r (q + i) (pos 0) ≡ get_or (numbers (h ∷ hs) ++ x) i (pos 0) = λ i. sym (get_or-drop q r i (pos 0)) ∙ ap (λ (y : List ℤ). get_or y i (pos 0)) e in
      let z : q ≡ q + 0 = omega arith in
      let e₀ : get_or r q (pos 0) ≡ pos h.address = ap (λ (i : ℕ). get_or r i (pos 0)) z ∙ at 0 in
      let e₁ = at 1 in
      let e₂ = at 2 in
      let e₃ = at 3 in
      let f : suc ROW + 4 * suc p ≡ q + 4 = omega arith in
      ((e₀, λ i. held (nat_abs (e₀ i)) (cell (e₁ i) (e₂ i) (e₃ i))), reads hs x (suc p) (ap (λ (n : ℕ). drop n r) f ∙ sym (drop-drop 4 q r) ∙ ap (drop 4) e))

  -- "last written cell first"
  put_all : (hs : List Held) (p : ℕ) (l : List ℤ) → Reads r p hs → put_back (p + length hs) r l ≡ put_back p r (undone hs l)
  unfolding undone put_back
  put_all [] p l q = let e : p + 0 ≡ p = omega arith in ap (λ (n : ℕ). put_back n r l) e
  put_all (h ∷ hs) p l q =
      let e : p + suc (length hs) ≡ suc p + length hs = omega arith in
      ap (λ (n : ℕ). put_back n r l) e
      ∙ put_all hs (suc p) l q.1
      ∙ ap (λ (v : Held). put_back p r (put_cell (undone hs l) v.address v.cell)) q.0.1

  fit_all : (n : ℕ) (hs : List Held) (p : ℕ) → held_fit n r p ≡ true → Reads r p hs → Fit n hs → held_fit n r (p + length hs) ≡ true
  unfolding held_fit
  fit_all n [] p t q f = let e : p + 0 ≡ p = omega arith in ap (λ (i : ℕ). held_fit n r i) e ∙ t
  fit_all n (h ∷ hs) p t q f =
      let e : p + suc (length hs) ≡ suc p + length hs = omega arith in
      let a : is_below n (get_or r (suc ROW + 4 * p) (pos 0)) ≡ true = ap (is_below n) q.0.0 ∙ below-is n h.address f.0.0 in
      let b : sound (held_in r p).cell ≡ true = ap (λ (v : Held). sound v.cell) q.0.1 ∙ f.0.1 in
      ap (λ (i : ℕ). held_fit n r i) e ∙ fit_all n hs (suc p) (and_both _ _ a (and_both _ _ b t)) q.1 f.1

numbers-length : (hs : List Held) → length (numbers hs) ≡ 4 * length hs
unfolding numbers
numbers-length [] = omega arith
numbers-length (h ∷ hs) = let e = numbers-length hs in omega arith

module _ (row : List ℤ) (hs : List Held) (long : length row ≡ ROW) where
  abbrev tail : List ℤ
  tail = replicate (4 * (WRITES-MOST - length hs)) (pos 0)

  pub record-length : length hs ≤ WRITES-MOST → length (record_of row hs) ≡ RECORD
  unfolding record_of
  record-length few =
      let a = length-append row (pos (length hs) ∷ (numbers hs ++ tail)) in
      let b = length-append (numbers hs) tail in
      let c = numbers-length hs in
      let d = length-replicate (4 * (WRITES-MOST - length hs)) (pos 0) in
      let e : length (row ++ pos (length hs) ∷ (numbers hs ++ tail)) ≡ RECORD = omega arith in
      e

  pub record-row : row_in (record_of row hs) ≡ row
  unfolding record_of
  record-row = take_at row (pos (length hs) ∷ (numbers hs ++ tail)) ROW long

  count-is : get_or (record_of row hs) ROW (pos 0) ≡ pos (length hs)
  unfolding record_of
  count-is = get_or_at row (pos (length hs)) (numbers hs ++ tail) (pos 0) ROW long

  behind : drop (suc ROW + 4 * 0) (record_of row hs) ≡ numbers hs ++ tail
  unfolding record_of
  behind =
      let f : suc ROW + 4 * 0 ≡ ROW + 1 = omega arith in
      let r = row ++ pos (length hs) ∷ (numbers hs ++ tail) in
      ap (λ (n : ℕ). drop n r) f ∙ sym (drop-drop 1 ROW r) ∙ ap (drop 1) (drop_at row (pos (length hs) ∷ (numbers hs ++ tail)) ROW long)

  record-reads : Reads (record_of row hs) 0 hs
  record-reads = reads (record_of row hs) hs tail 0 behind

  from-none : (k : ℕ) → 0 + k ≡ k
  from-none k = omega arith

  pub record-back : (l : List ℤ) → put_back (writes_in (record_of row hs)) (record_of row hs) l ≡ undone hs l
  unfolding put_back
  record-back l =
      ap (λ (z : ℤ). put_back (nat_abs z) (record_of row hs) l) count-is
      ∙ ap (λ (k : ℕ). put_back k (record_of row hs) l) (sym (from-none (length hs)))
      ∙ put_all (record_of row hs) hs 0 l record-reads

  pub record-fits : (n : ℕ) → length hs ≤ WRITES-MOST → Passes (row_tests QUEUE-MOST OUTPUT-MOST n row) → Fit n hs → is_record n (record_of row hs) ≡ true
  unfolding is_record held_fit
  record-fits n few p f =
      let r = record_of row hs in
      let a : is_below 5 (get_or r ROW (pos 0)) ≡ true = ap (is_below 5) count-is ∙ below-is 5 (length hs) (omega arith) in
      let b : passes (verdict (row_tests QUEUE-MOST OUTPUT-MOST n (row_in r))) ≡ true = ap (λ (x : List ℤ). passes (verdict (row_tests QUEUE-MOST OUTPUT-MOST n x))) record-row ∙ ap passes (passes-verdict (row_tests QUEUE-MOST OUTPUT-MOST n row) p) in
      let c : held_fit n r (0 + length hs) ≡ true = fit_all r n hs 0 refl record-reads f in
      let d : held_fit n r (writes_in r) ≡ true = ap (λ (z : ℤ). held_fit n r (nat_abs z)) count-is ∙ ap (held_fit n r) (sym (from-none (length hs))) ∙ c in
      and_both _ _ a (and_both _ _ b d)
