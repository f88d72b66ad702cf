-- What going back leaves, whatever the journal holds, and what the other calls leave of the journal.
use mathlib.Core.Path.{◌≡◌, refl, sym, ap, ◌∙◌, subst}
use mathlib.Core.Bool.{Bool, true, false, cond, ◌&&◌, ◌||◌, true≢false}
use mathlib.Core.List.{List, [], ◌∷◌, ◌++◌}
use Prim.Native.Nat.{ℕ, zero, suc, ◌+◌, ◌*◌, ◌-◌, ◌/◌, ◌%◌, ◌<◌, ◌≤◌}
use native.Mathlib.Omega.{arith}
use native.Mathlib.Decide.{ℕ_discrete}
use lib.IntN.{ℤ, pos, nat_abs}
use lib.ListN.{length, get_or, set, length-set}
use lib.Seq.{get_or-set_same, get_or-set_other}
use lib.Dec.{leb, eqb}
use borrow.Author.Tests.{eqb-true, eq-eqb, ne_eqb, leb-true}
use Rattle.definition.specs.declared.Cell.{Cell}
use Rattle.definition.specs.declared.Done.{Done}
use Rattle.definition.specs.Constants.{ROW, QUEUE-MOST, OUTPUT-MOST}
use Rattle.definition.specs.Memory.{cell_count, cell_at, put_cell}
use Rattle.definition.specs.Encoding.{sound}
use Rattle.definition.specs.Calls.{Test, test, accepted, verdict, passes, called, is_below, cells_test, length_test, row_tests}
use Rattle.definition.specs.Accepted.{Sound}
use Rattle.definition.proofs.Verdict.{and_left, and_right, passes-right, verdict-passes}
use Rattle.definition.proofs.Cells.{length-put, count-put, cell_same, cell_other}
use Rattle.definition.proofs.Row.{below_in}
use Rattle.journal.specs.Journal.{WRITES-MOST, row_in, writes_in, held_in, put_back, start_of, count_of, records, newest, forget_newest, whole_records, is_journal}
use Rattle.journal.specs.Calls.{emptied, held_fit, is_record, Backward, back_check, backed, back}
use Rattle.journal.specs.StepBack.{SoundCells, NoDamage, Emptied}
use Rattle.journal.proofs.Ring.{JournalIn, journal-in, journal-is, forgotten}

-- ---- cells put back

sound-put : (l : List ℤ) (k : ℕ) (v : Cell) → k < cell_count l → Sound v → SoundCells l → SoundCells (put_cell l k v)
sound-put l k v hk s h n hn = go (ℕ_discrete n k)
  where
    go : Dec (n ≡ k) → Sound (cell_at (put_cell l k v) n)
    go (yes e) = ap sound (ap (cell_at (put_cell l k v)) e ∙ cell_same l k v hk) ∙ s
    go (no e) = ap sound (cell_other l k n v e) ∙ h n (rw (count-put l k v) at hn)

module _ (r : List ℤ) where
  back-length : (k : ℕ) (l : List ℤ) → length (put_back k r l) ≡ length l
  unfolding put_back
  back-length zero l = refl
  back-length (suc k) l = back-length k (put_cell l (held_in r k).address (held_in r k).cell) ∙ length-put l (held_in r k).address (held_in r k).cell

  back-sound : (k n : ℕ) (l : List ℤ) → cell_count l ≡ n → held_fit n r k ≡ true → SoundCells l → SoundCells (put_back k r l)
  unfolding put_back held_fit held_in
  back-sound zero n l e t s = s
  back-sound (suc k) n l e t s =
      let b = is_below n (get_or r (suc ROW + 4 * k) (pos 0)) in
      let a : (held_in r k).address < n = (below_in n (get_or r (suc ROW + 4 * k) (pos 0)) (and_left b (sound (held_in r k).cell && held_fit n r k) t)).1 in
      let u = and_right b (sound (held_in r k).cell && held_fit n r k) t in
      let v : Sound (held_in r k).cell = and_left (sound (held_in r k).cell) (held_fit n r k) u in
      back-sound k n (put_cell l (held_in r k).address (held_in r k).cell) (count-put l (held_in r k).address (held_in r k).cell ∙ e) (and_right (sound (held_in r k).cell) (held_fit n r k) u) (sound-put l (held_in r k).address (held_in r k).cell (omega arith) v s)

-- ---- going back

either_left : (a b : Bool) → (a || b) ≡ true → a ≡ false → b ≡ true
either_left true b h e = absurd (true≢false e)
either_left false b h e = h

not-refused : (b : Backward) → (back b).answer.refusal ≡ 0 → passes (back_check b) ≡ true
unfolding back
not-refused b = go (passes (back_check b)) (back_check b) refl
  where
    go : (t : Bool) (d : Done) → passes d ≡ t → (cond t (called accepted (backed b)) (called d b)).answer.refusal ≡ 0 → t ≡ true
    go true d p e = refl
    go false d p e = sym p ∙ eq-eqb d.refusal 0 e

-- the two tests of the journal
journal-tests : (b : Backward) → passes (back_check b) ≡ true → (is_journal b.journal ≡ true) × ((is_record (cell_count b.cells) (newest 0 b.journal) ≡ true) × (1 ≤ count_of b.journal))
unfolding back_check row_tests cells_test length_test
journal-tests b h =
    let n = cell_count b.cells in
    let j = b.journal in
    let rs : List Test = row_tests QUEUE-MOST OUTPUT-MOST n b.row in
    let ts : List Test = test 20 0 (is_journal j && (eqb (count_of j) 0 || is_record n (newest 0 j))) ∷ test 21 0 (leb 1 (count_of j)) ∷ [] in
    let p = verdict-passes (cells_test b.cells ∷ (rs ++ ts)) refl h in
    let q = passes-right rs ts p.1 in
    let c : 1 ≤ count_of j = leb-true 1 (count_of j) q.1.0 in
    let z : eqb (count_of j) 0 ≡ false = ne_eqb (count_of j) 0 (λ e. omega arith) in
    (and_left (is_journal j) _ q.0, (either_left (eqb (count_of j) 0) _ (and_right (is_journal j) _ q.0) z, c))

pub no-damage : NoDamage
unfolding back backed is_record
no-damage b h =
    let p = not-refused b h in
    let t = journal-tests b p in
    let n = cell_count b.cells in
    let r = newest 0 b.journal in
    let J = journal-in b.journal t.0 in
    let f = forgotten b.journal J in
    let w = t.1.0 in
    let u = and_right (is_below (suc WRITES-MOST) (get_or r ROW (pos 0))) _ w in
    let row : passes (verdict (row_tests QUEUE-MOST OUTPUT-MOST n (row_in r))) ≡ true = and_left _ (held_fit n r (writes_in r)) u in
    let held : held_fit n r (writes_in r) ≡ true = and_right (passes (verdict (row_tests QUEUE-MOST OUTPUT-MOST n (row_in r)))) _ u in
    let e : (back b).left ≡ backed b = ap (λ (c : Bool). (cond c (called accepted (backed b)) (called (back_check b) b)).left) p in
    let l : length (put_back (writes_in r) r b.cells) ≡ length b.cells = back-length r (writes_in r) b.cells in
    let few = t.1.1 in
    let c = f.count in
    record {
      row = subst (λ (x : Backward). passes (verdict (row_tests QUEUE-MOST OUTPUT-MOST (cell_count x.cells) x.row)) ≡ true) (sym e) (subst (λ (k : ℕ). passes (verdict (row_tests QUEUE-MOST OUTPUT-MOST (k / 3) (row_in r))) ≡ true) (sym l) row);
      size = ap (λ (x : Backward). length x.cells) e ∙ l;
      undamaged = λ s. subst (λ (x : Backward). SoundCells x.cells) (sym e) (back-sound r (writes_in r) n b.cells refl held s);
      journal = ap (λ (x : Backward). is_journal x.journal) e ∙ journal-is (forget_newest b.journal) f.good;
      count = (let z : count_of b.journal ≡ suc (count_of (forget_newest b.journal)) = omega arith in z) ∙ sym (ap (λ (x : Backward). suc (count_of x.journal)) e);
    }

-- ---- emptied

none_kept : (j : List ℤ) → count_of (emptied j) ≡ 0
unfolding emptied
none_kept [] = refl
none_kept (x ∷ []) = refl
none_kept (x ∷ y ∷ j) = refl

-- a journal of the same length with the start s and nothing kept
made : (j k : List ℤ) (s : ℕ) → whole_records j ≡ true → length k ≡ length j → get_or k 0 (pos 0) ≡ pos s → s < records j → get_or k 1 (pos 0) ≡ pos 0 → JournalIn k
unfolding whole_records
made j k s w l e b f =
    let n = length j in
    let two : 2 ≤ n = leb-true 2 n (and_left _ (eqb ((n - 2) % 37) 0 && (leb 1 (records j) && leb (records j) 4096)) w) in
    let v = and_right (leb 2 n) _ w in
    let z : (n - 2) % 37 ≡ 0 = eqb-true _ 0 (and_left _ (leb 1 (records j) && leb (records j) 4096) v) in
    let u = and_right (eqb ((n - 2) % 37) 0) _ v in
    let some : 1 ≤ records j = leb-true 1 (records j) (and_left _ (leb (records j) 4096) u) in
    let few : records j ≤ 4096 = leb-true (records j) 4096 (and_right (leb 1 (records j)) _ u) in
    let same : records k ≡ records j = ap (λ (m : ℕ). (m - 2) / 37) l in
    let st : start_of k ≡ s = ap nat_abs e in
    let co : count_of k ≡ 0 = ap nat_abs f in
    record {
      long = (let x : length k ≡ 2 + 37 * records k = omega arith in x);
      some = omega arith;
      few = omega arith;
      start_is = e ∙ ap pos (sym st);
      start_in = omega arith;
      count-is = f ∙ ap pos (sym co);
      count_in = omega arith;
    }

whole-two : (j : List ℤ) → whole_records j ≡ true → 2 ≤ length j
unfolding whole_records
whole-two j w = leb-true 2 (length j) (and_left (leb 2 (length j)) _ w)

whole-some : (j : List ℤ) → whole_records j ≡ true → 1 ≤ records j
unfolding whole_records
whole-some j w =
    let n = length j in
    let u = and_right (eqb ((n - 2) % 37) 0) (leb 1 (records j) && leb (records j) 4096) (and_right (leb 2 n) _ w) in
    leb-true 1 (records j) (and_left _ (leb (records j) 4096) u)

count_set : (j : List ℤ) → get_or (set j 1 (pos 0)) 1 (pos 0) ≡ pos 0
count_set [] = refl
count_set (x ∷ []) = refl
count_set (x ∷ y ∷ j) = refl

pub emptied-fits : Emptied
unfolding emptied is_journal
emptied-fits =
    record {
      by_fresh = λ j w.
          (let k = set (set j 1 (pos 0)) 0 (pos 0) in
          let two : 2 ≤ length j = whole-two j w in
          let some : 1 ≤ records j = whole-some j w in
          let l : length k ≡ length j = length-set (set j 1 (pos 0)) 0 (pos 0) ∙ length-set j 1 (pos 0) in
          let l₁ : length (set j 1 (pos 0)) ≡ length j = length-set j 1 (pos 0) in
          journal-is k (made j k 0 w l (get_or-set_same (set j 1 (pos 0)) 0 (pos 0) (pos 0) (omega arith)) (omega arith) (get_or-set_other (set j 1 (pos 0)) 0 1 (pos 0) (pos 0) (λ (e : 1 ≡ 0). omega arith) ∙ count_set j)));
      by_others = λ j h.
          (let J = journal-in j h in
          let k = set j 1 (pos 0) in
          journal-is k (made j k (start_of j) (and_left (whole_records j) _ h) (length-set j 1 (pos 0)) (get_or-set_other j 1 0 (pos 0) (pos 0) (λ (e : 0 ≡ 1). omega arith) ∙ J.start_is) J.start_in (count_set j)));
      none_kept = none_kept;
    }
