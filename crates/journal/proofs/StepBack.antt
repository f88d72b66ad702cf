-- The theorem of going back, over calls.
use mathlib.Core.Path.{◌≡◌, refl, sym, ap, ◌∙◌, subst}
use mathlib.Core.Bool.{cond}
use mathlib.Core.List.{List, [], ◌∷◌}
use Prim.Native.Nat.{ℕ, suc, ◌+◌, ◌<◌}
use native.Mathlib.Omega.{arith}
use lib.IntN.{ℤ}
use lib.ListN.{length, get_or, take}
use Rattle.definition.specs.declared.Ran.{Ran}
use Rattle.definition.specs.Runtime.{Machine, with_console, run}
use Rattle.definition.specs.Calls.{machine_of, row_of, Called, called, answer, Lent, lent, lent_machine, ran, run_call, calls}
use Rattle.definition.specs.UserMode.{Accepted}
use Rattle.definition.specs.Accepted.{AcceptedMachine}
use Rattle.definition.proofs.Row.{machine-back, accepted-machine, machine-accepted, row_back}
use Rattle.definition.proofs.Accepted.{run_ends, call-is, runs-accepted}
use Rattle.journal.specs.Journal.{count_of, records, journal}
use Rattle.journal.specs.Calls.{no_journal, with_journal, run_journal, Backward, backward}
use Rattle.journal.specs.StepBack.{past, pasts, runs_journal, backs, left, StepBack, SameRun}
use Rattle.journal.proofs.Ring.{journal-in, journal-is}
use Rattle.journal.proofs.Unwind.{grown-at, kept_at, chain-at, Noted, run-noted, Unwound, unwind}

pub run_is : SameRun
unfolding run_journal with_journal
run_is n l j a h =
    let c = run_call n l in
    let k = journal n (lent_machine l) j in
    (λ i. cond {A = Called Ran (Lent × List ℤ)} (a i) (cond (h i) (called c.answer (c.left, k)) (called (answer no_journal 0 0 0 0) (l, j))) (called c.answer (c.left, j)))

-- what is kept, of the machine that l holds
abbrev LentNoted : ℕ → Lent → List ℤ → List Machine → Type 0
LentNoted r l j h = Noted r (lent_machine l).core.cells (lent_machine l).console j h

call-noted : (r n : ℕ) (l : Lent) (j : List ℤ) (h : List Machine) → Accepted l → LentNoted r l j h → LentNoted r (run_call n l).left (journal n (lent_machine l) j) (past n (lent_machine l) h)
unfolding ran
call-noted r n l j h a q =
    let m = lent_machine l in
    let w = (run n m).left in
    let A = accepted-machine l a in
    subst
    (λ (x : Machine). Noted r x.core.cells x.console (journal n m j) (past n m h))
    (sym (ap (λ (c : Called Ran Lent). lent_machine c.left) (call-is n l a) ∙ machine-back w (run_ends n m A).left_in.none_counted))
    (run-noted r n m j h A q)

pub record RunsNoted (r : ℕ) (ns : List ℕ) (l : Lent) (j : List ℤ) (h : List Machine) : Type 0 where
  pub same : (runs_journal ns l j).0 ≡ calls ns l
  pub stays : Accepted (runs_journal ns l j).0
  pub notes : LentNoted r (runs_journal ns l j).0 (runs_journal ns l j).1 (pasts ns l h)

runs-noted : (r : ℕ) (ns : List ℕ) (l : Lent) (j : List ℤ) (h : List Machine) → Accepted l → LentNoted r l j h → RunsNoted r ns l j h
unfolding runs_journal pasts calls
runs-noted r [] l j h a q = record { same = refl; stays = a; notes = q }
runs-noted r (n ∷ ns) l j h a q =
    let k = journal n (lent_machine l) j in
    let e : (run_journal n l j).left ≡ ((run_call n l).left, k) = ap (λ (c : Called Ran (Lent × List ℤ)). c.left) (run_is n l j a (journal-is j q.good)) in
    let i = runs-noted r ns (run_call n l).left k (past n (lent_machine l) h) (runs-accepted n l a).stays (call-noted r n l j h a q) in
    record {
      same = ap (λ (x : Lent × List ℤ). (runs_journal ns x.0 x.1).0) e ∙ i.same;
      stays = subst (λ (x : Lent × List ℤ). Accepted (runs_journal ns x.0 x.1).0) (sym e) i.stays;
      notes = subst (λ (x : Lent × List ℤ). LentNoted r (runs_journal ns x.0 x.1).0 (runs_journal ns x.0 x.1).1 (pasts ns (run_call n l).left (past n (lent_machine l) h))) (sym e) i.notes;
    }

-- what going back is lent is the machine's
lent_back : (l : Lent) (j : List ℤ) → Accepted l → backward l.cells l.row j ≡ backward (lent_machine l).core.cells (row_of (lent_machine l)) j
lent_back l j a = ap (λ (x : Lent). backward x.cells x.row j) (sym (row_back l a))

lent-queue : (l : Lent) → (lent_machine l).console.queue ≡ l.queue
unfolding machine_of
lent-queue l = refl

lent-output : (l : Lent) → (lent_machine l).console.output ≡ l.output
unfolding machine_of
lent-output l = refl

-- the machine m, its output record being o
with-output : Machine → List ℕ → Machine
with-output m o =
    with_console (record { marks = m.console.marks; queue = m.console.queue; start = m.console.start; count = m.console.count; output = o; written = m.console.written }) m

output-accepted : (m : Machine) (o : List ℕ) → length o ≡ length m.console.output → AcceptedMachine m → Accepted (lent m.core.cells m.console.queue o (row_of m))
unfolding row_of with-output
output-accepted m o e a =
    let k = a.console_in in
    let small = k.small in
    let written = k.written_in in
    machine-accepted (with-output m o) (record { core_in = a.core_in; cycles_in = a.cycles_in; timer_in = a.timer_in; none_counted = a.none_counted; console_in = record { some = k.some; few = k.few; small = omega arith; start_in = k.start_in; count_in = k.count_in; written_in = omega arith } })

pub step_back : StepBack
step_back ns l j a h =
    let J = journal-in j h in
    let r = runs-noted (records j) ns l j [] a (record { good = J; size = refl; kept = tt; chain = tt; grown = tt }) in
    let x = runs_journal ns l j in
    let N = r.notes in
    let w = lent_machine x.0 in
    let A = accepted-machine x.0 r.stays in
    let e : left x ≡ backward w.core.cells (row_of w) x.1 = lent_back x.0 x.1 r.stays in
    let un : (i : ℕ) → i < length (pasts ns l []) → i < records j → Unwound i (left x) (get_or (pasts ns l []) i (lent_machine l)) = λ i n b. subst (λ (y : Backward). Unwound i y (get_or (pasts ns l []) i (lent_machine l))) (sym e) (unwind i (records j) w x.1 (pasts ns l []) (lent_machine l) A N.good b n N.kept N.chain) in
    record {
      runs = r.same;
      fits = journal-is x.1 N.good;
      kept = λ i n b. (let z : 0 + i < count_of x.1 = kept_at (records j) 0 x.1 (pasts ns l []) i n (omega arith) N.kept in omega arith);
      done = λ i n b. (un i n b).done;
      restored = λ i n b.
          (let m = get_or (pasts ns l []) i (lent_machine l) in
          let g = grown-at w.console (pasts ns l []) i (lent_machine l) n N.grown in
          let lq : x.0.queue ≡ m.console.queue = sym (lent-queue x.0) ∙ g.queue in
          let lo : length x.0.output ≡ length m.console.output = ap (λ (y : List ℕ). length y) (sym (lent-output x.0)) ∙ g.size in
          let again : Accepted (lent (backs (suc i) (left x)).cells x.0.queue x.0.output (backs (suc i) (left x)).row) = subst Accepted (λ k. lent (sym (un i n b).cells k) (sym lq k) x.0.output (sym (un i n b).row k)) (output-accepted m x.0.output lo (chain-at w.core.cells (pasts ns l []) i (lent_machine l) n N.chain)) in
          record { cells = (un i n b).cells; row = (un i n b).row; queue = sym (lent-queue x.0) ∙ g.queue; output = ap (take m.console.written) (sym (lent-output x.0)) ∙ g.front; accepted = again });
    }
