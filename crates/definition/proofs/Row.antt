-- What the tests of a call of run say of the machine, and that a machine survives its row.
use Rattle.std.specs.Prelude.{None, Some}
use mathlib.Core.Path.{◌≡◌, refl, sym, ap, ◌∙◌}
use mathlib.Core.Bool.{Bool, true, false, cond, true≢false, ◌&&◌, ◌||◌}
use mathlib.Core.List.{List, [], ◌∷◌, ◌++◌}
use Prim.Native.Nat.{ℕ, zero, suc, ◌+◌, ◌*◌, ◌%◌, ◌^◌, ◌<◌, ◌≤◌}
use native.Mathlib.Omega.{arith}
use lib.IntN.{ℤ, pos, negsuc}
use lib.ListN.{length, get_or, drop, drop_of_length-le}
use lib.Seq.{drop-cons}
use lib.Dec.{leb, eqb}
use borrow.Author.Tests.{ltb-true, leb-true, eqb-true, lt-ltb, le-leb, eq-eqb, ne_eqb}
use Rattle.definition.specs.Constants.{CELLS-LEAST, CELLS-MOST, QUEUE-MOST, OUTPUT-MOST, CYCLES-END, ROW, ROW-PC, ROW-SP, ROW-SR, ROW-CYCLES, ROW-ENABLE, ROW-FLAG, ROW-PENDING, ROW-START, ROW-COUNT, ROW-WRITTEN, ROW-FENCE, ROW-INTERVAL, ROW-REMAINING, ROW-MARK}
use Rattle.definition.specs.Word.{eq_z, address_of}
use Rattle.definition.specs.Memory.{cell, cell_count, cell_at}
use Rattle.definition.specs.Registers.{with_empties}
use Rattle.definition.specs.Encoding.{sound, is_address}
use Rattle.definition.specs.Io.{marked}
use Rattle.definition.specs.Timer.{timed}
use Rattle.definition.specs.Exec.{with_regs}
use Rattle.definition.specs.Runtime.{Machine, machine}
use Rattle.definition.specs.Calls.{at, number_of_row, mark, machine_of, row_of, Test, passes, is_below, is_mark, lowest_damaged, cells_test, queue_test, output_test, length_test, row_tests, damage_test, Lent, lent, lent_machine, lent_of, run_check}
use Rattle.definition.specs.UserMode.{Accepted}
use Rattle.definition.specs.Accepted.{Addr, Sound, Below, IsMark, RowFits, CellsFit, QueueFits, RunPassed, AcceptedMachine}
use Rattle.definition.proofs.Verdict.{and_left, and_right, and_both, Passes, ◌&◌, passed-at, passes-left, passes-right, numbered, verdict-passes, passes-verdict}

-- ---- a machine written to a row and read back

mark-back : (b : Bool) → eq_z (mark b) (pos 1) ≡ b
mark-back true = refl
mark-back false = refl

-- (the row has no place for a step's count of empty cells, which is 0 between steps)
pub machine-back : (m : Machine) → m.core.regs.empties ≡ 0 → lent_machine (lent_of m) ≡ m
unfolding machine_of row_of
machine-back m e =
    λ i. machine (with_regs (with_empties (sym e i) m.core.regs) m.core) m.cycles (record { marks = marked (mark-back m.console.marks.enable i) (mark-back m.console.marks.flag i) (mark-back m.console.marks.pending i); queue = m.console.queue; start = m.console.start; count = m.console.count; output = m.console.output; written = m.console.written }) m.fence (timed m.timer.interval m.timer.remaining (mark-back m.timer.mark i))

-- ---- no cell damaged, by the lowest address and by each

abbrev three : ℤ → ℤ → ℤ → List ℤ → List ℤ
three t f s l = t ∷ f ∷ s ∷ l

cell-on : (t f s : ℤ) (l : List ℤ) (n : ℕ) → cell_at (three t f s l) (suc n) ≡ cell_at l n
unfolding cell_at
cell-on t f s l n =
    let e₀ : 3 * suc n ≡ suc (suc (suc (3 * n))) = omega arith in
    let e₁ : 3 * suc n + 1 ≡ suc (suc (suc (3 * n + 1))) = omega arith in
    let e₂ : 3 * suc n + 2 ≡ suc (suc (suc (3 * n + 2))) = omega arith in
    λ i. cell (get_or (three t f s l) (e₀ i) (pos 0)) (get_or (three t f s l) (e₁ i) (pos 0)) (get_or (three t f s l) (e₂ i) (pos 0))

damage-sound : (l : List ℤ) (k : ℕ) → lowest_damaged k l ≡ k + cell_count l → (n : ℕ) → n < cell_count l → Sound (cell_at l n)
unfolding lowest_damaged cell_at
damage-sound [] k e n h = absurd (omega arith)
damage-sound (t ∷ []) k e n h = absurd (omega arith)
damage-sound (t ∷ f ∷ []) k e n h = absurd (omega arith)
damage-sound (t ∷ f ∷ s ∷ l) k e n h = go (λ e' n' h'. damage-sound l (suc k) e' n' h') (sound (cell t f s)) refl e n h
  where
    go : (lowest_damaged (suc k) l ≡ suc k + cell_count l → (n : ℕ) → n < cell_count l → Sound (cell_at l n)) → (b : Bool) → sound (cell t f s) ≡ b → cond b (lowest_damaged (suc k) l) k ≡ k + cell_count (three t f s l) → (n : ℕ) → n < cell_count (three t f s l) → Sound (cell_at (three t f s l) n)
    go ih true b e zero h = b
    go ih true b e (suc n) h = ap sound (cell-on t f s l n) ∙ ih (omega arith) n (omega arith)
    go ih false b e n h = absurd (omega arith)

sound-damage : (l : List ℤ) (k c : ℕ) → length l ≡ 3 * c → ((n : ℕ) → n < c → Sound (cell_at l n)) → lowest_damaged k l ≡ k + c
unfolding lowest_damaged cell_at
sound-damage [] k c e h = omega arith
sound-damage (t ∷ []) k c e h = absurd (omega arith)
sound-damage (t ∷ f ∷ []) k c e h = absurd (omega arith)
sound-damage (t ∷ f ∷ s ∷ l) k zero e h = absurd (omega arith)
sound-damage (t ∷ f ∷ s ∷ l) k (suc c) e h =
    let i : lowest_damaged (suc k) l ≡ suc k + c = sound-damage l (suc k) c (omega arith) (λ n b. ap sound (sym (cell-on t f s l n)) ∙ h (suc n) (omega arith)) in
    let j : suc k + c ≡ k + suc c = omega arith in
    ap (λ (b : Bool). cond b (lowest_damaged (suc k) l) k) (h 0 (omega arith)) ∙ i ∙ j

-- ---- the numbers of an accepted row

pub below_in : (n : ℕ) (z : ℤ) → is_below n z ≡ true → Below n z
unfolding is_below
below_in n (pos k) h = (refl, ltb-true k n h)
below_in n (negsuc k) h = absurd (true≢false (sym h))

below-is : (n k : ℕ) → k < n → is_below n (pos k) ≡ true
unfolding is_below
below-is n k h = lt-ltb k n h

pub address-in : (z : ℤ) → is_address (address_of z) ≡ true → Below (2 ^ 32) z
unfolding is_address address_of
address-in (pos n) h = (refl, go (leb n 4294967295) refl h)
  where
    go : (b : Bool) → leb n 4294967295 ≡ b → is_address (cond b (Some n) None) ≡ true → n < 2 ^ 32
    go true e k = omega (arith, leb-true n 4294967295 e)
    go false e k = absurd (true≢false (sym k))
address-in (negsuc n) h = absurd (true≢false (sym h))

pub address_is : (n : ℕ) → Addr n → is_address (address_of (pos n)) ≡ true
unfolding is_address address_of
address_is n h = ap (λ (b : Bool). is_address (cond b (Some n) None)) (le-leb n 4294967295 (omega arith))

mark-in : (z : ℤ) → is_mark z ≡ true → IsMark z
unfolding is_mark
mark-in (pos zero) h = refl
mark-in (pos (suc zero)) h = refl
mark-in (pos (suc (suc n))) h =
    let a : eqb (suc (suc n)) 0 ≡ false = ne_eqb (suc (suc n)) 0 (λ e. omega arith) in
    let b : eqb (suc (suc n)) 1 ≡ false = ne_eqb (suc (suc n)) 1 (λ e. omega arith) in
    absurd (true≢false (sym h ∙ (λ i. a i || b i)))
mark-in (negsuc n) h = absurd (true≢false (sym h))

mark-is : (b : Bool) → is_mark (mark b) ≡ true
unfolding is_mark
mark-is true = refl
mark-is false = refl

-- ---- tests that passed

pub row_fits : (q o n : ℕ) (row : List ℤ) → Passes (row_tests q o n row) → RowFits q o n row
unfolding row_tests length_test
row_fits q o n row p =
    let t = passed-at (row_tests q o n row) p in
    record {
      long = eqb-true (length row) ROW (t 0);
      a_sound = t 1;
      b_sound = t 2;
      pc = address-in (at ROW-PC row) (t 3);
      sp = address-in (at ROW-SP row) (t 4);
      cycles = below_in CYCLES-END (at ROW-CYCLES row) (t 5);
      enable = mark-in (at ROW-ENABLE row) (t 6);
      flag = mark-in (at ROW-FLAG row) (t 7);
      pending = mark-in (at ROW-PENDING row) (t 8);
      start = below_in q (at ROW-START row) (t 9);
      count = below_in (suc q) (at ROW-COUNT row) (t 10);
      written = below_in (suc o) (at ROW-WRITTEN row) (t 11);
      fence = below_in (suc n) (at ROW-FENCE row) (t 12);
      interval = below_in CYCLES-END (at ROW-INTERVAL row) (t 13);
      remaining = below_in (suc (number_of_row ROW-INTERVAL row)) (at ROW-REMAINING row) (t 14);
      mark = mark-in (at ROW-MARK row) (t 15);
    }

pub cells_fit : (cells : List ℤ) → (cells_test cells).passed ≡ true → CellsFit cells
unfolding cells_test
cells_fit cells h =
    let n = cell_count cells in
    let r = and_right (eqb (length cells % 3) 0) _ h in
    record {
      three = eqb-true (length cells % 3) 0 (and_left _ (leb CELLS-LEAST n && leb n CELLS-MOST) h);
      least = leb-true CELLS-LEAST n (and_left _ (leb n CELLS-MOST) r);
      most = leb-true n CELLS-MOST (and_right (leb CELLS-LEAST n) _ r);
    }

pub queue_fits : (queue : List ℕ) → (queue_test queue).passed ≡ true → QueueFits queue
unfolding queue_test
queue_fits queue h =
    let n = length queue in
    record { least = leb-true 1 n (and_left _ (leb n QUEUE-MOST) h); most = leb-true n QUEUE-MOST (and_right (leb 1 n) _ h) }

pub output-fits : (output : List ℕ) → (output_test output).passed ≡ true → length output ≤ OUTPUT-MOST
unfolding output_test
output-fits output h = leb-true (length output) OUTPUT-MOST h

pub undamaged : (cells : List ℤ) → (damage_test cells).passed ≡ true → lowest_damaged 0 cells ≡ cell_count cells
unfolding damage_test
undamaged cells h = eqb-true (lowest_damaged 0 cells) (cell_count cells) h

-- ---- an accepted machine

abbrev run_tests : Lent → List Test
run_tests l =
    cells_test l.cells ∷ queue_test l.queue ∷ output_test l.output ∷ (row_tests (length l.queue) (length l.output) (cell_count l.cells) l.row ++ damage_test l.cells ∷ [])

run-numbered : (l : Lent) → numbered (run_tests l) ≡ true
unfolding cells_test queue_test output_test length_test row_tests damage_test
run-numbered l = refl

pub run-passed : (l : Lent) → Accepted l → RunPassed l
unfolding run_check
run-passed l h =
    let p = verdict-passes (run_tests l) (run-numbered l) h in
    let r : List Test = row_tests (length l.queue) (length l.output) (cell_count l.cells) l.row in
    let d : List Test = damage_test l.cells ∷ [] in
    record {
      cells_fit = cells_fit l.cells p.0;
      queue_fits = queue_fits l.queue p.1.0;
      output_most = output-fits l.output p.1.1.0;
      row_fits = row_fits (length l.queue) (length l.output) (cell_count l.cells) l.row (passes-left r d p.1.1.1);
      undamaged = undamaged l.cells (passes-right r d p.1.1.1).0;
    }

pub accepted-machine : (l : Lent) → Accepted l → AcceptedMachine (lent_machine l)
unfolding machine_of
accepted-machine l h =
    let p = run-passed l h in
    let c = p.cells_fit in
    let r = p.row_fits in
    let z = c.three in
    record {
      core_in = record {
        three = omega arith;
        low = c.least;
        high = c.most;
        fenced = let b = r.fence.1 in omega arith;
        pc_a = r.pc.1;
        sp_a = r.sp.1;
        a_s = r.a_sound;
        b_s = r.b_sound;
        cells_s = damage-sound l.cells 0 (p.undamaged ∙ omega arith);
      };
      cycles_in = r.cycles.1;
      console_in = record {
        some = p.queue_fits.least;
        few = p.queue_fits.most;
        small = p.output_most;
        start_in = r.start.1;
        count_in = let b = r.count.1 in omega arith;
        written_in = let b = r.written.1 in omega arith;
      };
      timer_in = record { interval_in = r.interval.1; remaining_in = let b = r.remaining.1 in omega arith };
      none_counted = refl;
    }

pub machine-accepted : (m : Machine) → AcceptedMachine m → Accepted (lent_of m)
unfolding run_check cells_test queue_test output_test length_test row_tests damage_test row_of
machine-accepted m a =
    let f = a.core_in in
    let k = a.console_in in
    let n = length m.core.cells in
    let z : n % 3 ≡ 0 = let t = f.three in omega arith in
    let s : lowest_damaged 0 m.core.cells ≡ 0 + cell_count m.core.cells = sound-damage m.core.cells 0 (cell_count m.core.cells) f.three f.cells_s in
    let d : lowest_damaged 0 m.core.cells ≡ cell_count m.core.cells = omega arith in
    ap passes (passes-verdict (run_tests (lent_of m)) (
    and_both _ _ (eq-eqb _ 0 z) (and_both _ _ (le-leb 256 _ f.low) (le-leb _ 10000 f.high))
    & and_both _ _ (le-leb 1 _ k.some) (le-leb _ 4096 k.few)
    & le-leb _ 65536 k.small
    & refl
    & f.a_s
    & f.b_s
    & address_is _ f.pc_a
    & address_is _ f.sp_a
    & below-is _ _ a.cycles_in
    & mark-is m.console.marks.enable
    & mark-is m.console.marks.flag
    & mark-is m.console.marks.pending
    & below-is _ _ k.start_in
    & below-is _ _ (let h = k.count_in in omega arith)
    & below-is _ _ (let h = k.written_in in omega arith)
    & below-is _ _ (let h = f.fenced in omega arith)
    & below-is _ _ a.timer_in.interval_in
    & below-is _ _ (let h = a.timer_in.remaining_in in omega arith)
    & mark-is m.timer.mark
    & eq-eqb _ _ d
    & tt
    ))

-- ---- an accepted row, read and written back, is the same row

abbrev listed : ℕ → ℕ → List ℤ → List ℤ
listed zero j l = []
listed (suc n) j l = get_or l j (pos 0) ∷ listed n (suc j) l

listed-is : (n j : ℕ) (l : List ℤ) → length l ≡ j + n → drop j l ≡ listed n j l
listed-is zero j l h = drop_of_length-le l {i = j} (omega arith)
listed-is (suc n) j l h = drop-cons l j (pos 0) (omega arith) ∙ ap (λ (t : List ℤ). get_or l j (pos 0) ∷ t) (listed-is n (suc j) l (omega arith))

pub row_back : (l : Lent) → Accepted l → lent_of (lent_machine l) ≡ l
unfolding machine_of row_of
row_back l h =
    let f = (run-passed l h).row_fits in
    let g : ℕ → ℤ = λ (i : ℕ). at i l.row in
    (λ i. lent l.cells l.queue l.output (g 1 ∷ g 2 ∷ g 3 ∷ g 4 ∷ g 5 ∷ g 6 ∷ sym f.pc.0 i ∷ sym f.sp.0 i ∷ g ROW-SR ∷ sym f.cycles.0 i ∷ f.enable i ∷ f.flag i ∷ f.pending i ∷ sym f.start.0 i ∷ sym f.count.0 i ∷ sym f.written.0 i ∷ sym f.fence.0 i ∷ sym f.interval.0 i ∷ sym f.remaining.0 i ∷ f.mark i ∷ []))
    ∙ ap (λ (r : List ℤ). lent l.cells l.queue l.output r) (sym (listed-is ROW 0 l.row f.long))
