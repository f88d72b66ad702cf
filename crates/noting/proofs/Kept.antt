-- A record put into the ring, and a step noted.
use Rattle.std.specs.Prelude.{Option, Some, None}
use mathlib.Core.Path.{◌≡◌, refl, sym, ap, ◌∙◌}
use mathlib.Core.Bool.{Bool, true, false, cond}
use mathlib.Core.List.{List, ◌++◌}
use Prim.Native.Nat.{ℕ, ◌+◌, ◌*◌, ◌-◌, ◌<◌, ◌≤◌}
use native.Mathlib.Omega.{arith}
use lib.IntN.{ℤ, pos, nat_abs}
use lib.ListN.{length, get_or, take, drop, length-drop}
use lib.Seq.{length-take-le, drop-drop}
use Rattle.definition.specs.Calls.{row_of}
use Rattle.definition.specs.Runtime.{Machine, step}
use Rattle.definition.specs.Accepted.{AcceptedMachine}
use Rattle.row.specs.declared.State.{State}
use Rattle.row.specs.Meaning.{machine_at}
use Rattle.journal.specs.Writes.{step_writes}
use Rattle.journal.specs.Journal.{record_of, start_of, count_of, records, put_record, remember, is_journal, begun, step_record, noted}
use Rattle.journal.proofs.Ring.{JournalIn, journal-in, journal-is, put-length, put_front, records-length}
use Rattle.journal.proofs.Record.{record-length}
use Rattle.ring.specs.Meaning.{next_place, advanced}
use Rattle.ring.proofs.Laws.{next-in, remember-is}
use Rattle.noting.specs.declared.Noted.{Noted}
use Rattle.noting.specs.declared.Was.{Was}
use Rattle.noting.specs.declared.Entry.{Entry}
use Rattle.noting.specs.Meaning.{own_of, entry_of, helds_of, row_of_state, RowFits}
use Rattle.noting.proofs.Record.{row-length}

helds-few : (w : Noted) → length (helds_of w) ≤ 4
helds-few w = go w.own w.entry
  where
    go : (a : Option Was) (b : Option Entry) → length (own_of a ++ entry_of b) ≤ 4
    go (Some a) (Some b) = omega arith
    go (Some a) None = omega arith
    go None (Some b) = omega arith
    go None None = omega arith

module _ (m : State) (w : Noted) where
  abbrev pub kept : List ℤ
  kept = record_of (row_of_state m) (helds_of w)

  kept-long : length kept ≡ 37
  kept-long = record-length (row_of_state m) (helds_of w) (row-length m) (helds-few w)

  module _ (j : List ℤ) (h : is_journal j ≡ true) where
    module _ (p : ℕ) (e : p ≡ next_place j) where
      pub place-few : p < 4096
      place-few = let few = (journal-in j h).few in let b = next-in j h in omega arith

      pub place-room : 2 + 37 * p + 37 ≤ length j
      place-room = let l = (journal-in j h).long in let b = next-in j h in omega arith

      pub part-long : length (take (2 + 37 * p + 37 - (2 + 37 * p)) (drop (2 + 37 * p) j)) ≡ 37
      part-long =
          let s : 2 + 37 * p + 37 - (2 + 37 * p) ≡ 37 = omega arith in
          let d = length-drop (2 + 37 * p) j in
          let r = place-room in
          ap (λ (n : ℕ). length (take n (drop (2 + 37 * p) j))) s ∙ length-take-le 37 (drop (2 + 37 * p) j) (omega arith)

      pub part-put : {x : List ℤ} → x ≡ kept → take (2 + 37 * p) j ++ (x ++ drop (2 + 37 * p + 37 - (2 + 37 * p)) (drop (2 + 37 * p) j)) ≡ put_record (next_place j) kept j
      unfolding put_record
      part-put f =
          let s : 2 + 37 * p + 37 - (2 + 37 * p) ≡ 37 = omega arith in
          let k = kept in
          (λ i. take (2 + 37 * p) j ++ (f i ++ drop (s i) (drop (2 + 37 * p) j)))
          ∙ ap (λ (t : List ℤ). take (2 + 37 * p) j ++ (k ++ t)) (drop-drop 37 (2 + 37 * p) j ∙ ap (λ (n : ℕ). drop (2 + 37 * p + n) j) (sym kept-long))
          ∙ ap (λ (n : ℕ). take (2 + 37 * n) j ++ (k ++ drop (2 + 37 * n + length k) j)) e

    -- start and count stand as they were
    pub journal-still : {x : List ℤ} → x ≡ put_record (next_place j) kept j → is_journal x ≡ true
    journal-still f = ap is_journal f ∙ journal-is k (record { long = put-length j kept p J b kept-long ∙ J.long ∙ ap (λ (i : ℕ). 2 + 37 * i) (sym n); some = some; few = few; start_is = s ∙ J.start_is ∙ ap (λ (z : ℤ). pos (nat_abs z)) (sym s); start_in = start_in; count-is = c ∙ J.count-is ∙ ap (λ (z : ℤ). pos (nat_abs z)) (sym c); count_in = count_in })
      where
        p : ℕ
        p = next_place j

        J : JournalIn j
        J = journal-in j h

        b : p < records j
        b = next-in j h

        k : List ℤ
        k = put_record p kept j

        n : records k ≡ records j
        n = records-length k j (put-length j kept p J b kept-long)

        s : get_or k 0 (pos 0) ≡ get_or j 0 (pos 0)
        s = put_front j kept p J b kept-long 0 (omega arith)

        c : get_or k 1 (pos 0) ≡ get_or j 1 (pos 0)
        c = put_front j kept p J b kept-long 1 (omega arith)

        some : 1 ≤ records k
        some = let x = J.some in let y = n in omega arith

        few : records k ≤ 4096
        few = let x = J.few in let y = n in omega arith

        start_in : start_of k < records k
        start_in = let x = J.start_in in let y = n in let z : start_of k ≡ start_of j = ap nat_abs s in omega arith

        count_in : count_of k ≤ records k
        count_in = let x = J.count_in in let y = n in let z : count_of k ≡ count_of j = ap nat_abs c in omega arith

    pub remembers : {x y : List ℤ} → x ≡ put_record (next_place j) kept j → y ≡ advanced x → y ≡ remember kept j
    remembers f g = g ∙ ap advanced f ∙ remember-is kept j h kept-long

-- ---- the step

module _ (l : List ℤ) (q o : List ℕ) (m : State) where
  abbrev before : Machine
  before = machine_at l q o m

  pub row_fits : AcceptedMachine before → RowFits m
  row_fits x =
      let n = x.console_in in let f = n.few in let z = n.small in let s = n.start_in in let t = n.count_in in let w = n.written_in in
      (x.cycles_in, (omega arith, (omega arith, (omega arith, x.timer_in))))

  row_is : row_of_state m ≡ row_of before
  unfolding row_of
  row_is = refl

  module _ (w : Noted) (j : List ℤ) (e : (helds_of w ≡ step_writes before) × (w.begun ≡ begun (step before))) where
    pub noted_begun : w.begun ≡ true → remember (kept m w) j ≡ noted before j
    unfolding noted step_record
    noted_begun t =
        (λ i. remember (record_of (row_is i) (e.0 i)) j)
        ∙ sym (ap (λ (b : Bool). cond b (remember (step_record before) j) j) (sym e.1 ∙ t))

    pub noted_not : w.begun ≡ false → j ≡ noted before j
    unfolding noted
    noted_not t = sym (ap (λ (b : Bool). cond b (remember (step_record before) j) j) (sym e.1 ∙ t))
