-- The journal's ring: the record remembered last is the newest, and the older ones stay.
use mathlib.Core.Path.{◌≡◌, refl, sym, ap, ◌∙◌}
use mathlib.Core.Logic.{◌≢◌}
use mathlib.Core.Bool.{Bool, true, false, cond, ◌&&◌}
use mathlib.Core.List.{List, ◌++◌}
use Prim.Native.Nat.{ℕ, suc, ◌+◌, ◌*◌, ◌-◌, ◌/◌, ◌%◌, ◌<◌, ◌≤◌}
use native.Mathlib.Omega.{arith}
use native.Mathlib.Decide.{ℕ_discrete}
use lib.IntN.{ℤ, pos, nat_abs}
use lib.ListN.{length, get_or, set, take, drop, length-set, length-append, length-drop}
use lib.Seq.{ext_get_or, get_or-append-add, get_or-drop, length-take-le, get_or-set_same, get_or-set_other, drop-set-lt, take_at, drop_at, get_or-take}
use lib.Dec.{ltb, leb, eqb}
use borrow.Author.Tests.{ltb-true, ltb-false, lt-ltb, le-ltb, leb-true, le-leb, eqb-true, eq-eqb}
use Rattle.definition.specs.Io.{around}
use Rattle.definition.specs.Calls.{is_below}
use Rattle.definition.proofs.Verdict.{and_left, and_right, and_both}
use Rattle.definition.proofs.Row.{below_in}
use Rattle.journal.specs.Journal.{start_of, count_of, records, record_from, record_at, put_record, kept_place, newest, remember, forget_newest, whole_records, is_journal}
use Rattle.journal.specs.StepBack.{Ring}
use Rattle.journal.proofs.Record.{below-is}

-- what test 20 says of a journal, whichever record is gone back to
pub record JournalIn (j : List ℤ) : Type 0 where
  pub long : length j ≡ 2 + 37 * records j
  pub some : 1 ≤ records j
  pub few : records j ≤ 4096
  pub start_is : get_or j 0 (pos 0) ≡ pos (start_of j)
  pub start_in : start_of j < records j
  pub count-is : get_or j 1 (pos 0) ≡ pos (count_of j)
  pub count_in : count_of j ≤ records j

pub journal-in : (j : List ℤ) → is_journal j ≡ true → JournalIn j
unfolding is_journal whole_records
journal-in j h =
    let n = length j in
    let w = and_left (leb 2 n && (eqb ((n - 2) % 37) 0 && (leb 1 (records j) && leb (records j) 4096))) _ h in
    let b = and_right (leb 2 n && (eqb ((n - 2) % 37) 0 && (leb 1 (records j) && leb (records j) 4096))) _ h in
    let two : 2 ≤ n = leb-true 2 n (and_left _ (eqb ((n - 2) % 37) 0 && (leb 1 (records j) && leb (records j) 4096)) w) in
    let v = and_right (leb 2 n) _ w in
    let z : (n - 2) % 37 ≡ 0 = eqb-true _ 0 (and_left _ (leb 1 (records j) && leb (records j) 4096) v) in
    let u = and_right (eqb ((n - 2) % 37) 0) _ v in
    let s = below_in _ _ (and_left _ (is_below (suc (records j)) (get_or j 1 (pos 0))) b) in
    let c = below_in _ _ (and_right (is_below (records j) (get_or j 0 (pos 0))) _ b) in
    record {
      long = omega arith;
      some = leb-true 1 (records j) (and_left _ (leb (records j) 4096) u);
      few = leb-true (records j) 4096 (and_right (leb 1 (records j)) _ u);
      start_is = s.0;
      start_in = s.1;
      count-is = c.0;
      count_in = let d : count_of j < suc (records j) = c.1 in omega arith;
    }

-- start and count are there
pub journal_head : (j : List ℤ) → is_journal j ≡ true → 2 ≤ length j
journal_head j h = let l = (journal-in j h).long in omega arith

pub journal-is : (j : List ℤ) → JournalIn j → is_journal j ≡ true
unfolding is_journal whole_records
journal-is j J =
    let n = length j in
    let l = J.long in
    let z : (n - 2) % 37 ≡ 0 = omega arith in
    let c = J.count_in in
    and_both
    _
    _
    (and_both _ _ (le-leb 2 n (omega arith)) (and_both _ _ (eq-eqb _ 0 z) (and_both _ _ (le-leb 1 _ J.some) (le-leb _ 4096 J.few))))
    (and_both _ _ (ap (is_below (records j)) J.start_is ∙ below-is _ _ J.start_in) (ap (is_below (suc (records j))) J.count-is ∙ below-is _ _ (omega arith)))

-- ---- a record put into its place

module _ (j r : List ℤ) (p : ℕ) (J : JournalIn j) (h : p < records j) (l : length r ≡ 37) where
  room : record_from p + 37 ≤ length j
  room = let n = J.long in omega arith

  front : length (take (record_from p) j) ≡ record_from p
  front = let n = room in length-take-le (record_from p) j (omega arith)

  pub put-length : length (put_record p r j) ≡ length j
  unfolding put_record
  put-length =
      let n = room in
      let a = length-append (take (record_from p) j) (r ++ drop (record_from p + length r) j) in
      let b = length-append r (drop (record_from p + length r) j) in
      let c = length-drop (record_from p + length r) j in
      let d = front in
      let e : length (take (record_from p) j ++ (r ++ drop (record_from p + length r) j)) ≡ length j = omega arith in
      e

  pub put-here : record_at p (put_record p r j) ≡ r
  unfolding record_at put_record
  put-here =
      ap (take 37) (drop_at (take (record_from p) j) (r ++ drop (record_from p + length r) j) (record_from p) front) ∙ take_at r (drop (record_from p + length r) j) 37 l

  -- the other numbers stay
  put_low : (i : ℕ) → i < record_from p → get_or (put_record p r j) i (pos 0) ≡ get_or j i (pos 0)
  unfolding put_record
  put_low i q =
      let f = front in
      sym (get_or-take (record_from p) (take (record_from p) j ++ (r ++ drop (record_from p + length r) j)) i (pos 0) q) ∙ ap (λ (x : List ℤ). get_or x i (pos 0)) (take_at (take (record_from p) j) (r ++ drop (record_from p + length r) j) (record_from p) f) ∙ get_or-take (record_from p) j i (pos 0) q

  put-high : (t : ℕ) → get_or (put_record p r j) (record_from p + 37 + t) (pos 0) ≡ get_or j (record_from p + 37 + t) (pos 0)
  unfolding put_record
  put-high t =
      let f = front in
      let w = r ++ drop (record_from p + length r) j in
      let a : record_from p + 37 + t ≡ length (take (record_from p) j) + (length r + t) = omega arith in
      let b : record_from p + length r + t ≡ record_from p + 37 + t = omega arith in
      ap (λ (i : ℕ). get_or (take (record_from p) j ++ w) i (pos 0)) a ∙ get_or-append-add (take (record_from p) j) w (length r + t) (pos 0) ∙ get_or-append-add r (drop (record_from p + length r) j) t (pos 0) ∙ get_or-drop (record_from p + length r) j t (pos 0) ∙ ap (λ (i : ℕ). get_or j i (pos 0)) b

  put-apart : (i : ℕ) → record_from p + 37 ≤ i → get_or (put_record p r j) i (pos 0) ≡ get_or j i (pos 0)
  put-apart i h =
      let e : i ≡ record_from p + 37 + (i - (record_from p + 37)) = omega arith in
      ap (λ (x : ℕ). get_or (put_record p r j) x (pos 0)) e ∙ put-high (i - (record_from p + 37)) ∙ sym (ap (λ (x : ℕ). get_or j x (pos 0)) e)

  pub put_other : (q : ℕ) → q < records j → q ≢ p → record_at q (put_record p r j) ≡ record_at q j
  unfolding record_at
  put_other q b e =
      let n = J.long in
      let len : length (put_record p r j) ≡ length j = put-length in
      let d₁ = length-drop (record_from q) (put_record p r j) in
      let d₂ = length-drop (record_from q) j in
      let l₁ : length (take 37 (drop (record_from q) (put_record p r j))) ≡ 37 = length-take-le 37 (drop (record_from q) (put_record p r j)) (omega arith) in
      let l₂ : length (take 37 (drop (record_from q) j)) ≡ 37 = length-take-le 37 (drop (record_from q) j) (omega arith) in
      ext_get_or
      (pos 0)
      (take 37 (drop (record_from q) (put_record p r j)))
      (take 37 (drop (record_from q) j))
      (l₁ ∙ sym l₂)
      (λ i h. (let k : i < 37 = omega arith in get_or-take 37 (drop (record_from q) (put_record p r j)) i (pos 0) k ∙ get_or-drop (record_from q) (put_record p r j) i (pos 0) ∙ at i k (ℕ_discrete (suc q) (suc p)) ∙ sym (get_or-take 37 (drop (record_from q) j) i (pos 0) k ∙ get_or-drop (record_from q) j i (pos 0))))
    where
      at : (i : ℕ) → i < 37 → Dec (suc q ≡ suc p) → get_or (put_record p r j) (record_from q + i) (pos 0) ≡ get_or j (record_from q + i) (pos 0)
      at i k (yes z) = absurd (e (let y : q ≡ p = omega arith in y))
      at i k (no z) = side (ltb q p) refl
        where
          side : (t : Bool) → ltb q p ≡ t → get_or (put_record p r j) (record_from q + i) (pos 0) ≡ get_or j (record_from q + i) (pos 0)
          side true y = let x : q < p = ltb-true q p y in put_low (record_from q + i) (omega arith)
          side false y = let x : p ≤ q = ltb-false q p y in let v : p < q = omega arith in put-apart (record_from q + i) (omega arith)

  -- start and count stand in front
  pub put_front : (i : ℕ) → i < 2 → get_or (put_record p r j) i (pos 0) ≡ get_or j i (pos 0)
  unfolding put_record
  put_front i b =
      let f = front in
      let q : i < record_from p = omega arith in
      sym (get_or-take (record_from p) (take (record_from p) j ++ (r ++ drop (record_from p + length r) j)) i (pos 0) q) ∙ ap (λ (x : List ℤ). get_or x i (pos 0)) (take_at (take (record_from p) j) (r ++ drop (record_from p + length r) j) (record_from p) f) ∙ get_or-take (record_from p) j i (pos 0) q

-- ---- around the ring

around-low : (n i : ℕ) → i < n → around n i ≡ i
unfolding around
around-low n i h = ap (λ (b : Bool). cond b i (i - n)) (lt-ltb i n h)

around-high : (n i : ℕ) → n ≤ i → around n i ≡ i - n
unfolding around
around-high n i h = ap (λ (b : Bool). cond b i (i - n)) (le-ltb i n h)

-- ---- the record remembered last

-- a number that is not negative
is_number : (j : List ℤ) (i n : ℕ) → get_or j i (pos 0) ≡ pos n → get_or j i (pos 0) ≡ pos (nat_abs (get_or j i (pos 0)))
is_number j i n e = e ∙ ap pos (sym (ap nat_abs e))

-- the place of the newest, and that record, from the two numbers in front
newest-at : (j : List ℤ) (n s c p : ℕ) → records j ≡ n → start_of j ≡ s → count_of j ≡ suc c → around n (s + c) ≡ p → newest 0 j ≡ record_at p j
unfolding newest kept_place
newest-at j n s c p a b d e =
    let q : count_of j - 1 ≡ c = omega arith in
    ap (λ (x : ℕ). record_at x j) ((λ i. around (a i) (b i + q i)) ∙ e)

-- a number in front changed leaves the records
record-set : (p i : ℕ) (z : ℤ) (j : List ℤ) → i < 2 → record_at p (set j i z) ≡ record_at p j
unfolding record_at
record-set p i z j h = ap (take 37) (drop-set-lt (record_from p) j i z (omega arith))

pub records-length : (j k : List ℤ) → length j ≡ length k → records j ≡ records k
records-length j k e = ap (λ (n : ℕ). (n - 2) / 37) e

-- a place in the ring
pub place_in : (n s c : ℕ) → s < n → c < n → around n (s + c) < n
unfolding around
place_in n s c a b = go (ltb (s + c) n) refl
  where
    go : (t : Bool) → ltb (s + c) n ≡ t → cond t (s + c) (s + c - n) < n
    go true e = ltb-true _ _ e
    go false e = let m : n ≤ s + c = ltb-false _ _ e in omega arith

module _ (j r : List ℤ) (J : JournalIn j) (l : length r ≡ 37) where
  full : records j ≤ count_of j → newest 0 (set (put_record (start_of j) r j) 0 (pos (around (records j) (suc (start_of j))))) ≡ r
  full h =
      let s = start_of j in
      let b = J.start_in in
      let k = put_record s r j in
      let w = set k 0 (pos (around (records j) (suc s))) in
      let len : length k ≡ length j = put-length j r s J b l in
      let two : 2 + 37 * records j ≡ length j = sym J.long in
      let c : count_of w ≡ count_of j = ap nat_abs (get_or-set_other k 0 1 (pos (around (records j) (suc s))) (pos 0) (λ (e : 1 ≡ 0). omega arith) ∙ put_front j r s J b l 1 (omega arith)) in
      let st : start_of w ≡ around (records j) (suc s) = ap nat_abs (get_or-set_same k 0 (pos (around (records j) (suc s))) (pos 0) (omega arith)) in
      let rec : records w ≡ records j = records-length w j (length-set k 0 _ ∙ len) in
      let cj : count_of j ≡ suc (records j - 1) = (let x = J.count_in in let y = J.some in omega arith) in
      newest-at w (records j) (around (records j) (suc s)) (records j - 1) s rec st (c ∙ cj) (turn s b) ∙ record-set s 0 _ k (omega arith) ∙ put-here j r s J b l
    where
      turn : (s : ℕ) → s < records j → around (records j) (around (records j) (suc s) + (records j - 1)) ≡ s
      turn s b = go (ℕ_discrete (suc s) (records j))
        where
          go : Dec (suc s ≡ records j) → around (records j) (around (records j) (suc s) + (records j - 1)) ≡ s
          go (yes e) =
              let a : around (records j) (suc s) ≡ 0 = around-high (records j) (suc s) (omega arith) ∙ (let z : suc s - records j ≡ 0 = omega arith in z) in
              let q : 0 + (records j - 1) ≡ s = omega arith in
              ap (λ (x : ℕ). around (records j) (x + (records j - 1))) a ∙ around-low (records j) (0 + (records j - 1)) (omega arith) ∙ q
          go (no e) =
              let a : around (records j) (suc s) ≡ suc s = around-low (records j) (suc s) (omega arith) in
              let q : suc s + (records j - 1) - records j ≡ s = omega arith in
              ap (λ (x : ℕ). around (records j) (x + (records j - 1))) a ∙ around-high (records j) (suc s + (records j - 1)) (omega arith) ∙ q

  free : count_of j < records j → newest 0 (set (put_record (kept_place (count_of j) j) r j) 1 (pos (suc (count_of j)))) ≡ r
  unfolding kept_place
  free h =
      let p = around (records j) (start_of j + count_of j) in
      let b = place_in (records j) (start_of j) (count_of j) J.start_in h in
      let k = put_record p r j in
      let w = set k 1 (pos (suc (count_of j))) in
      let len : length k ≡ length j = put-length j r p J b l in
      let two : 2 + 37 * records j ≡ length j = sym J.long in
      let c : count_of w ≡ suc (count_of j) = ap nat_abs (get_or-set_same k 1 (pos (suc (count_of j))) (pos 0) (omega arith)) in
      let st : start_of w ≡ start_of j = ap nat_abs (get_or-set_other k 1 0 (pos (suc (count_of j))) (pos 0) (λ (e : 0 ≡ 1). omega arith) ∙ put_front j r p J b l 0 (omega arith)) in
      let rec : records w ≡ records j = records-length w j (length-set k 1 _ ∙ len) in
      newest-at w (records j) (start_of j) (count_of j) p rec st c refl ∙ record-set p 1 _ k (omega arith) ∙ put-here j r p J b l

  pub newest-remember : newest 0 (remember r j) ≡ r
  unfolding remember
  newest-remember = go (ltb (count_of j) (records j)) refl
    where
      go : (b : Bool) → ltb (count_of j) (records j) ≡ b → newest 0 (cond b (set (put_record (kept_place (count_of j) j) r j) 1 (pos (suc (count_of j)))) (set (put_record (start_of j) r j) 0 (pos (around (records j) (suc (start_of j)))))) ≡ r
      go true e = free (ltb-true _ _ e)
      go false e = full (ltb-false _ _ e)

-- ---- the older records

-- the kept record x back, from the three numbers
newest-is : (j : List ℤ) (x n s c p : ℕ) → records j ≡ n → start_of j ≡ s → count_of j ≡ c → around n (s + (c - suc x)) ≡ p → newest x j ≡ record_at p j
unfolding newest kept_place
newest-is j x n s c p a b d e = ap (λ (y : ℕ). record_at y j) ((λ i. around (a i) (b i + (d i - suc x))) ∙ e)

-- two places a part of a turn away from each other are not the same
apart : (n s a b : ℕ) → s < n → a < b → b ≤ n → b < a + n → around n (s + a) ≢ around n (s + b)
unfolding around
apart n s a b h l m w = go (ltb (s + a) n) refl (ltb (s + b) n) refl
  where
    go : (t : Bool) → ltb (s + a) n ≡ t → (u : Bool) → ltb (s + b) n ≡ u → cond t (s + a) (s + a - n) ≢ cond u (s + b) (s + b - n)
    go true x true y = λ e. omega arith
    go true x false y = let q : n ≤ s + b = ltb-false _ _ y in let r : s + a < n = ltb-true _ _ x in λ e. omega arith
    go false x true y = let q : n ≤ s + a = ltb-false _ _ x in let r : s + b < n = ltb-true _ _ y in λ e. omega arith
    go false x false y = let q : n ≤ s + a = ltb-false _ _ x in let r : n ≤ s + b = ltb-false _ _ y in λ e. omega arith

next-in : (n s : ℕ) → s < n → around n (suc s) < n
unfolding around
next-in n s h = go (ltb (suc s) n) refl
  where
    go : (t : Bool) → ltb (suc s) n ≡ t → cond t (suc s) (suc s - n) < n
    go true e = ltb-true _ _ e
    go false e = let m : n ≤ suc s = ltb-false _ _ e in omega arith

-- the start moved on by one, and one place less from there
next_place : (n s x : ℕ) → s < n → suc x < n → around n (around n (suc s) + (n - suc (suc x))) ≡ around n (s + (n - suc x))
next_place n s x h d = go (ℕ_discrete (suc s) n)
  where
    go : Dec (suc s ≡ n) → around n (around n (suc s) + (n - suc (suc x))) ≡ around n (s + (n - suc x))
    go (yes e) =
        let a : around n (suc s) ≡ 0 = around-high n (suc s) (omega arith) ∙ (let z : suc s - n ≡ 0 = omega arith in z) in
        let q : 0 + (n - suc (suc x)) ≡ s + (n - suc x) - n = omega arith in
        ap (λ (y : ℕ). around n (y + (n - suc (suc x)))) a ∙ around-low n (0 + (n - suc (suc x))) (omega arith) ∙ q ∙ sym (around-high n (s + (n - suc x)) (omega arith))
    go (no e) =
        let a : around n (suc s) ≡ suc s = around-low n (suc s) (omega arith) in
        let q : suc s + (n - suc (suc x)) ≡ s + (n - suc x) = omega arith in
        ap (λ (y : ℕ). around n (y + (n - suc (suc x)))) a ∙ ap (around n) q

pub record Remembered (j k : List ℤ) : Type 0 where
  pub good : JournalIn k
  pub size : records k ≡ records j
  pub more : count_of j < records j → count_of k ≡ suc (count_of j)
  pub full : count_of j ≡ records j → count_of k ≡ records j
  pub older : (x : ℕ) → x < count_of j → suc x < records j → newest (suc x) k ≡ newest x j

module _ (j r : List ℤ) (J : JournalIn j) (l : length r ≡ 37) where
  older-free : count_of j < records j → Remembered j (set (put_record (kept_place (count_of j) j) r j) 1 (pos (suc (count_of j))))
  unfolding kept_place
  older-free h =
      let n = records j in
      let s = start_of j in
      let c = count_of j in
      let p = around n (s + c) in
      let b = place_in n s c J.start_in h in
      let k = put_record p r j in
      let w = set k 1 (pos (suc c)) in
      let len : length k ≡ length j = put-length j r p J b l in
      let lw : length w ≡ length j = length-set k 1 _ ∙ len in
      let two : 2 + 37 * records j ≡ length j = sym J.long in
      let cw : count_of w ≡ suc (count_of j) = ap nat_abs (get_or-set_same k 1 (pos (suc c)) (pos 0) (omega arith)) in
      let sw : start_of w ≡ start_of j = ap nat_abs (get_or-set_other k 1 0 (pos (suc c)) (pos 0) (λ (e : 0 ≡ 1). omega arith) ∙ put_front j r p J b l 0 (omega arith)) in
      let rw' : records w ≡ records j = records-length w j lw in
      let si = J.start_in in
      let so = J.some in
      let fe = J.few in
      record {
        good = record { long = (let a : length w ≡ 2 + 37 * records w = omega arith in a); some = omega arith; few = omega arith; start_is = is_number w 0 _ (get_or-set_other k 1 0 (pos (suc c)) (pos 0) (λ (e : 0 ≡ 1). omega arith) ∙ put_front j r p J b l 0 (omega arith) ∙ J.start_is); start_in = omega arith; count-is = is_number w 1 _ (get_or-set_same k 1 (pos (suc c)) (pos 0) (omega arith)); count_in = omega arith };
        size = rw';
        more = λ a. omega arith;
        full = λ a. omega arith;
        older = λ x a d.
            (let o : suc (count_of j) - suc (suc x) ≡ count_of j - suc x = omega arith in
            let q = around n (s + (c - suc x)) in
            let qi : q < n = place_in n s (c - suc x) si (omega arith) in
            newest-is w (suc x) n s (suc c) q rw' sw cw (ap (λ (y : ℕ). around n (s + y)) o) ∙ record-set q 1 _ k (omega arith) ∙ put_other j r p J b l q qi (apart n s (c - suc x) c si (omega arith) (omega arith) (omega arith)) ∙ sym (newest-is j x n s c q refl refl refl refl));
      }

  older-full : records j ≤ count_of j → Remembered j (set (put_record (start_of j) r j) 0 (pos (around (records j) (suc (start_of j)))))
  older-full h =
      let n = records j in
      let s = start_of j in
      let c = count_of j in
      let b = J.start_in in
      let k = put_record s r j in
      let w = set k 0 (pos (around n (suc s))) in
      let len : length k ≡ length j = put-length j r s J b l in
      let lw : length w ≡ length j = length-set k 0 _ ∙ len in
      let two : 2 + 37 * records j ≡ length j = sym J.long in
      let cw : count_of w ≡ count_of j = ap nat_abs (get_or-set_other k 0 1 (pos (around n (suc s))) (pos 0) (λ (e : 1 ≡ 0). omega arith) ∙ put_front j r s J b l 1 (omega arith)) in
      let sw : start_of w ≡ around n (suc s) = ap nat_abs (get_or-set_same k 0 (pos (around n (suc s))) (pos 0) (omega arith)) in
      let rw' : records w ≡ records j = records-length w j lw in
      let so = J.some in
      let fe = J.few in
      let ci = J.count_in in
      let cn : count_of j ≡ records j = omega arith in
      let ni : around n (suc s) < n = next-in n s b in
      record {
        good = record { long = (let a : length w ≡ 2 + 37 * records w = omega arith in a); some = omega arith; few = omega arith; start_is = is_number w 0 _ (get_or-set_same k 0 (pos (around n (suc s))) (pos 0) (omega arith)); start_in = omega arith; count-is = is_number w 1 _ (get_or-set_other k 0 1 (pos (around n (suc s))) (pos 0) (λ (e : 1 ≡ 0). omega arith) ∙ put_front j r s J b l 1 (omega arith) ∙ J.count-is); count_in = omega arith };
        size = rw';
        more = λ a. omega arith;
        full = λ a. omega arith;
        older = λ x a d.
            (let q = around n (s + (n - suc x)) in
            let qi : q < n = place_in n s (n - suc x) b (omega arith) in
            let here : around n (s + 0) ≡ s = (let z : s + 0 ≡ s = omega arith in ap (around n) z ∙ around-low n s b) in
            newest-is w (suc x) n (around n (suc s)) n q rw' sw (cw ∙ cn) (next_place n s x b d) ∙ record-set q 0 _ k (omega arith) ∙ put_other j r s J b l q qi (λ (e : q ≡ s). apart n s 0 (n - suc x) b (omega arith) (omega arith) (omega arith) (here ∙ sym e)) ∙ sym (newest-is j x n s n q refl refl cn refl));
      }

  pub remembered : Remembered j (remember r j)
  unfolding remember
  remembered = go (ltb (count_of j) (records j)) refl
    where
      go : (b : Bool) → ltb (count_of j) (records j) ≡ b → Remembered j (cond b (set (put_record (kept_place (count_of j) j) r j) 1 (pos (suc (count_of j)))) (set (put_record (start_of j) r j) 0 (pos (around (records j) (suc (start_of j))))))
      go true e = older-free (ltb-true _ _ e)
      go false e = older-full (ltb-false _ _ e)

-- ---- the newest taken off

pub record Forgotten (j k : List ℤ) : Type 0 where
  pub good : JournalIn k
  pub size : records k ≡ records j
  pub count : count_of k ≡ count_of j - 1
  pub less : (x : ℕ) → suc x < count_of j → x < count_of k
  pub older : (x : ℕ) → newest x k ≡ newest (suc x) j

pub forgotten : (j : List ℤ) → JournalIn j → Forgotten j (forget_newest j)
unfolding forget_newest
forgotten j J =
    let w = set j 1 (pos (count_of j - 1)) in
    let lw : length w ≡ length j = length-set j 1 _ in
    let two : 2 + 37 * records j ≡ length j = sym J.long in
    let cw : count_of w ≡ count_of j - 1 = ap nat_abs (get_or-set_same j 1 (pos (count_of j - 1)) (pos 0) (omega arith)) in
    let sw : start_of w ≡ start_of j = ap nat_abs (get_or-set_other j 1 0 (pos (count_of j - 1)) (pos 0) (λ (e : 0 ≡ 1). omega arith)) in
    let rw' : records w ≡ records j = records-length w j lw in
    let so = J.some in
    let fe = J.few in
    let ci = J.count_in in
    let si = J.start_in in
    record {
      good = record { long = (let a : length w ≡ 2 + 37 * records w = omega arith in a); some = omega arith; few = omega arith; start_is = is_number w 0 _ (get_or-set_other j 1 0 (pos (count_of j - 1)) (pos 0) (λ (e : 0 ≡ 1). omega arith) ∙ J.start_is); start_in = omega arith; count-is = is_number w 1 _ (get_or-set_same j 1 (pos (count_of j - 1)) (pos 0) (omega arith)); count_in = omega arith };
      size = rw';
      count = cw;
      less = λ x h. omega arith;
      older = λ x.
          (let o : count_of j - 1 - suc x ≡ count_of j - suc (suc x) = omega arith in
          let q = around (records j) (start_of j + (count_of j - suc (suc x))) in
          newest-is w x (records j) (start_of j) (count_of j - 1) q rw' sw cw (ap (λ (y : ℕ). around (records j) (start_of j + y)) o) ∙ record-set q 1 _ j (omega arith) ∙ sym (newest-is j (suc x) (records j) (start_of j) (count_of j) q refl refl refl refl));
    }

-- ---- the theorem

pub ring : Ring
ring r j h l =
    let J = journal-in j h in
    let m = remembered j r J l in
    record { fits = journal-is (remember r j) m.good; size = m.size; last = newest-remember j r J l; older = m.older; more = m.more; full = m.full }
