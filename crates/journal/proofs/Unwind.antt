-- What a run notes, and that going back over it gives the machines before its steps.
use mathlib.Core.Path.{◌≡◌, refl, sym, ap, ◌∙◌, subst}
use mathlib.Core.Bool.{Bool, true, false, cond}
use mathlib.Core.List.{List, [], ◌∷◌}
use Prim.Native.Nat.{ℕ, zero, suc, ◌+◌, ◌<◌, ◌≤◌}
use native.Mathlib.Omega.{arith}
use lib.IntN.{ℤ}
use lib.ListN.{length, get_or}
use lib.Dec.{ltb}
use borrow.Author.Tests.{ltb-true, ltb-false}
use Rattle.definition.specs.declared.Done.{Done}
use Rattle.definition.specs.Constants.{QUEUE-MOST, OUTPUT-MOST}
use Rattle.definition.specs.Memory.{cell_count}
use Rattle.definition.specs.Io.{Console}
use Rattle.definition.specs.Exception.{stop_number}
use Rattle.definition.specs.Runtime.{Machine, Outcome, completed, stopped, step, later, go_on, run, uncounted}
use Rattle.definition.specs.Calls.{row_of, accepted, passes, row_tests, Called, called}
use Rattle.definition.specs.Accepted.{AcceptedMachine}
use Rattle.definition.proofs.Verdict.{Passes}
use Rattle.definition.proofs.Accepted.{Stepped, OutcomeHas, uncounted-in, step-accepted}
use Rattle.journal.specs.Writes.{step_writes, undone}
use Rattle.journal.specs.Journal.{row_in, writes_in, put_back, count_of, records, newest, remember, forget_newest, begins, begun, step_record, noted, go_on_noting, journal}
use Rattle.journal.specs.Calls.{is_record, Backward, backward, backed, back}
use Rattle.journal.specs.StepBack.{go_on_past, past, backs}
use Rattle.journal.proofs.Cells.{undone-count}
use Rattle.journal.proofs.OneWrite.{four-at-most}
use Rattle.journal.proofs.Step.{OutcomeUndone, step-undone, Fit, writes-fit}
use Rattle.journal.proofs.Record.{record-length, record-row, record-back, record-fits}
use Rattle.journal.proofs.Ring.{JournalIn, journal-is, newest-remember, Remembered, remembered, Forgotten, forgotten}
use Rattle.journal.proofs.Grows.{Grows, grows-on, OutcomeGrows, step-grows}
use Rattle.journal.proofs.Checks.{row-length, row-passes, back_passes}

-- ---- a history: the machines before the steps, the last one first

-- from the cells l back through the steps
abbrev Chain : List ℤ → List Machine → Type 0
Chain l [] = Unit {0}
Chain l (m ∷ h) = ((undone (step_writes m) l ≡ m.core.cells) × AcceptedMachine m) × Chain m.core.cells h

-- the console k has grown from all of theirs
abbrev Grown : Console → List Machine → Type 0
Grown k [] = Unit {0}
Grown k (m ∷ h) = Grows m.console k × Grown k h

-- the records x, x + 1, .. back are those of the steps, as far as b
abbrev KeptFrom : ℕ → ℕ → List ℤ → List Machine → Type 0
KeptFrom b x j [] = Unit {0}
KeptFrom b x j (m ∷ h) = (x < b → (x < count_of j) × (newest x j ≡ step_record m)) × KeptFrom b (suc x) j h

grown-on : (k k' : Console) (h : List Machine) → Grows k k' → Grown k h → Grown k' h
grown-on k k' [] g q = tt
grown-on k k' (m ∷ h) g q = (grows-on m.console k k' q.0 g, grown-on k k' h g q.1)

pub grown-at : (k : Console) (h : List Machine) (i : ℕ) (d : Machine) → i < length h → Grown k h → Grows (get_or h i d).console k
grown-at k [] i d l q = absurd (omega arith)
grown-at k (m ∷ h) zero d l q = q.0
grown-at k (m ∷ h) (suc i) d l q = grown-at k h i d (omega arith) q.1

pub kept_at : (b x : ℕ) (j : List ℤ) (h : List Machine) (i : ℕ) → i < length h → x + i < b → KeptFrom b x j h → x + i < count_of j
kept_at b x j [] i l n q = absurd (omega arith)
kept_at b x j (m ∷ h) zero l n q = let e = (q.0 (omega arith)).0 in omega arith
kept_at b x j (m ∷ h) (suc i) l n q = let e = kept_at b (suc x) j h i (omega arith) (omega arith) q.1 in omega arith

pub chain-at : (l : List ℤ) (h : List Machine) (i : ℕ) (d : Machine) → i < length h → Chain l h → AcceptedMachine (get_or h i d)
chain-at l [] i d n c = absurd (omega arith)
chain-at l (m ∷ h) zero d n c = c.0.1
chain-at l (m ∷ h) (suc i) d n c = chain-at m.core.cells h i d (omega arith) c.1

-- ---- one more record, and one less

-- as many are kept as there is room for
room : (j k : List ℤ) → JournalIn j → Remembered j k → (x : ℕ) → x ≤ count_of j → x < records j → x < count_of k
room j k J m x a d = go (ltb (count_of j) (records j)) refl
  where
    go : (b : Bool) → ltb (count_of j) (records j) ≡ b → x < count_of k
    go true e = let t : count_of j < records j = ltb-true _ _ e in let f : count_of k ≡ suc (count_of j) = m.more t in omega arith
    go false e =
        let t : records j ≤ count_of j = ltb-false _ _ e in
        let c = J.count_in in
        let z : count_of j ≡ records j = omega arith in
        let f : count_of k ≡ records j = m.full z in
        omega arith

kept-remember : (b x : ℕ) (j k : List ℤ) (h : List Machine) → JournalIn j → Remembered j k → b ≤ records j → KeptFrom b x j h → KeptFrom b (suc x) k h
kept-remember b x j k [] J m n q = tt
kept-remember b x j k (s ∷ h) J m n q =
    ((λ d. (let e = q.0 (omega arith) in (let a : x < count_of j = e.0 in room j k J m (suc x) (omega arith) (omega arith), m.older x e.0 (omega arith) ∙ e.1))), kept-remember b (suc x) j k h J m n q.1)

kept-forget : (b x : ℕ) (j k : List ℤ) (h : List Machine) → Forgotten j k → KeptFrom (suc b) (suc x) j h → KeptFrom b x k h
kept-forget b x j k [] m q = tt
kept-forget b x j k (s ∷ h) m q =
    ((λ d. (let e = q.0 (omega arith) in (m.less x e.0, m.older x ∙ e.1))), kept-forget b (suc x) j k h m q.1)

-- ---- what a run keeps of its steps, in a ring of r records; l and k are the cells and the console now

pub record Noted (r : ℕ) (l : List ℤ) (k : Console) (j : List ℤ) (h : List Machine) : Type 0 where
  pub good : JournalIn j
  pub size : records j ≡ r
  pub kept : KeptFrom r 0 j h
  pub chain : Chain l h
  pub grown : Grown k h

pub step-long : (m : Machine) → length (step_record m) ≡ 37
unfolding step_record
step-long m = record-length (row_of m) (step_writes m) (row-length m) (four-at-most m)

one-noted : (r : ℕ) (m : Machine) (l : List ℤ) (k : Console) (j : List ℤ) (h : List Machine) → Noted r m.core.cells m.console j h → AcceptedMachine m → undone (step_writes m) l ≡ m.core.cells → Grows m.console k → Noted r l k (remember (step_record m) j) (m ∷ h)
one-noted r m l k j h n a u g =
    let w = remembered j (step_record m) n.good (step-long m) in
    let s = n.size in
    record {
      good = w.good;
      size = w.size ∙ s;
      kept = ((λ d. (room j (remember (step_record m) j) n.good w 0 (omega arith) (omega arith), newest-remember j (step_record m) n.good (step-long m))), kept-remember r 0 j (remember (step_record m) j) h n.good w (omega arith) n.kept);
      chain = ((u, a), n.chain);
      grown = (g, grown-on m.console k h g n.grown);
    }

go-noted : (r n : ℕ) (m : Machine) (j : List ℤ) (h : List Machine) (o : Outcome) → AcceptedMachine m → Noted r m.core.cells m.console j h → OutcomeHas Stepped o → OutcomeUndone m (step_writes m) o → OutcomeGrows m.console o → ((w : Machine) (j : List ℤ) (h : List Machine) → AcceptedMachine w → Noted r w.core.cells w.console j h → Noted r (run n w).left.core.cells (run n w).left.console (journal n w j) (past n w h)) → Noted r (go_on o (run n)).left.core.cells (go_on o (run n)).left.console (go_on_noting o (cond (begun o) (remember (step_record m) j) j) (journal n)) (go_on_past o (cond (begun o) (m ∷ h) h) (past n))
unfolding go_on later go_on_noting go_on_past begun
go-noted r n m j h (completed w) a q s u g ih =
    ih (uncounted w) _ _ (uncounted-in w s) (one-noted r m w.core.cells w.console j h q a u g)
go-noted r n m j h (stopped c w) a q s u g ih = go (begins (stop_number c)) refl
  where
    go : (b : Bool) → begins (stop_number c) ≡ b → Noted r w.core.cells w.console (cond b (remember (step_record m) j) j) (cond b (m ∷ h) h)
    go true e = one-noted r m w.core.cells w.console j h q a (u.0 e) g
    go false e = subst (λ (x : Machine). Noted r x.core.cells x.console j h) (sym (u.1 e)) q

pub run-noted : (r n : ℕ) (m : Machine) (j : List ℤ) (h : List Machine) → AcceptedMachine m → Noted r m.core.cells m.console j h → Noted r (run n m).left.core.cells (run n m).left.console (journal n m j) (past n m h)
unfolding run journal past noted
run-noted r zero m j h a q = q
run-noted r (suc n) m j h a q =
    go-noted r n m j h (step m) a q (step-accepted m a) (step-undone m a) (step-grows m) (λ w j' h' a' q'. run-noted r n w j' h' a' q')

-- ---- gone back

-- the record of m's step, and the cells l that it left
module _ (w m : Machine) (j : List ℤ) (a : AcceptedMachine w) (J : JournalIn j) (c : 1 ≤ count_of j) (e : newest 0 j ≡ step_record m) (u : undone (step_writes m) w.core.cells ≡ m.core.cells) (am : AcceptedMachine m) where
  same_count : cell_count m.core.cells ≡ cell_count w.core.cells
  same_count = sym (ap (λ (x : List ℤ). cell_count x) u) ∙ undone-count (step_writes m) w.core.cells

  is-record : is_record (cell_count w.core.cells) (newest 0 j) ≡ true
  unfolding step_record
  is-record =
      ap (is_record (cell_count w.core.cells)) e
      ∙ record-fits (row_of m) (step_writes m) (row-length m) (cell_count w.core.cells) (four-at-most m) (subst (λ (n : ℕ). Passes (row_tests QUEUE-MOST OUTPUT-MOST n (row_of m))) same_count (row-passes m am)) (subst (λ (n : ℕ). Fit n (step_writes m)) same_count (writes-fit m am))

  backed-is : backed (backward w.core.cells (row_of w) j) ≡ backward m.core.cells (row_of m) (forget_newest j)
  unfolding backed step_record
  backed-is =
      let p : put_back (writes_in (newest 0 j)) (newest 0 j) w.core.cells ≡ m.core.cells = ap (λ (x : List ℤ). put_back (writes_in x) x w.core.cells) e ∙ record-back (row_of m) (step_writes m) (row-length m) w.core.cells ∙ u in
      let q : row_in (newest 0 j) ≡ row_of m = ap (λ (x : List ℤ). row_in x) e ∙ record-row (row_of m) (step_writes m) (row-length m) in
      λ i. backward (p i) (q i) (forget_newest j)

  pub back_is : back (backward w.core.cells (row_of w) j) ≡ called accepted (backward m.core.cells (row_of m) (forget_newest j))
  unfolding back
  back_is =
      let b = backward w.core.cells (row_of w) j in
      ap (λ (d : Done). cond (passes d) (called accepted (backed b)) (called d b)) (back_passes w j a (journal-is j J) c is-record)
      ∙ ap (called accepted) backed-is

pub record Unwound (i : ℕ) (b : Backward) (m : Machine) : Type 0 where
  pub done : (back (backs i b)).answer ≡ accepted
  pub cells : (backs (suc i) b).cells ≡ m.core.cells
  pub row : (backs (suc i) b).row ≡ row_of m

pub unwind : (i r : ℕ) (w : Machine) (j : List ℤ) (h : List Machine) (d : Machine) → AcceptedMachine w → JournalIn j → i < r → i < length h → KeptFrom r 0 j h → Chain w.core.cells h → Unwound i (backward w.core.cells (row_of w) j) (get_or h i d)
unfolding backs
unwind i r w j [] d a J n l q c = absurd (omega arith)
unwind i zero w j (m ∷ h) d a J n l q c = absurd (omega arith)
unwind zero (suc r) w j (m ∷ h) d a J n l q c =
    let k = q.0 (omega arith) in
    let b = back_is w m j a J (let z = k.0 in omega arith) k.1 c.0.0 c.0.1 in
    record {
      done = ap (λ (x : Called Done Backward). x.answer) b;
      cells = ap (λ (x : Called Done Backward). x.left.cells) b;
      row = ap (λ (x : Called Done Backward). x.left.row) b;
    }
unwind (suc i) (suc r) w j (m ∷ h) d a J n l q c =
    let k = q.0 (omega arith) in
    let b = back_is w m j a J (let z = k.0 in omega arith) k.1 c.0.0 c.0.1 in
    let f = forgotten j J in
    let u = unwind i r m (forget_newest j) h d c.0.1 f.good (omega arith) (omega arith) (kept-forget r 0 j (forget_newest j) h f q.1) c.1 in
    record {
      done = ap (λ (x : Called Done Backward). (back (backs i x.left)).answer) b ∙ u.done;
      cells = ap (λ (x : Called Done Backward). (backs (suc i) x.left).cells) b ∙ u.cells;
      row = ap (λ (x : Called Done Backward). (backs (suc i) x.left).row) b ∙ u.row;
    }
