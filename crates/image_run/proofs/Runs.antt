-- No run of a loaded program is refused: the refusals of loading are the only ones that the runner meets. Assumes nothing.
use mathlib.Core.Path.{◌≡◌, refl, sym, ap, ◌∙◌, subst}
use mathlib.Core.Bool.{true, false, not, ◌&&◌}
use mathlib.Core.List.{List, [], ◌∷◌, foldl}
use Prim.Native.Nat.{ℕ, suc, ◌+◌, ◌*◌, ◌<◌, ◌≤◌}
use native.Mathlib.Omega.{arith}
use borrow.Author.Tests.{not-true}
use lib.Dec.{eqb}
use lib.IntN.{ℤ, pos, nat_abs}
use lib.ListN.{length, replicate, length-replicate, get_or-replicate}
use Rattle.definition.specs.declared.Ran.{Ran}
use Rattle.definition.specs.declared.Registers.{Registers}
use Rattle.definition.specs.Word.{address_of}
use Rattle.definition.specs.Memory.{empty, cell_count, cell_at}
use Rattle.definition.specs.Encoding.{sound, sound_at, is_address}
use Rattle.definition.specs.Io as I
use Rattle.definition.specs.Timer.{timed}
use Rattle.definition.specs.Exec.{core}
use Rattle.definition.specs.Runtime.{Machine, machine, run}
use Rattle.definition.specs.Calls.{Called, Lent, lent, lent_of, row_of, ran, run_call}
use Rattle.definition.specs.Accepted.{Sound, AcceptedCore, AcceptedMachine}
use Rattle.definition.proofs.Cells.{cell-path, count-put}
use Rattle.definition.proofs.AcceptedCore.{accepted-put}
use Rattle.definition.proofs.Row.{address-in}
use Rattle.definition.proofs.Accepted.{call-on}
use Rattle.definition.specs.declared.Cell.{Cell}
use Rattle.encoding.proofs.Rule.{both}
use Rattle.expression.specs.Reader.{head, past}
use Rattle.expression.specs.Table.{is_inner, next_line}
use Rattle.expression.proofs.Spans.{by_bool, clash}
use Rattle.assembly.specs.Assemble.{Assembled, cells, refuses, assemble, put_cells, answered}
use Rattle.assembly.specs.Theorems.{all_sound}
use Rattle.assembly.proofs.Cells.{cells-sound, cells_fit}
use Rattle.lines.specs.declared.Reader.{Reader}
use Rattle.lines.specs.declared.Start.{Start}
use Rattle.lines.specs.Reader.{has_digits, opened, broken, within, start_line, empty_cells}
use Rattle.std.specs.Prelude.{Result, Ok, Err}
use Rattle.source.specs.declared.Refused.{Refused}
use Rattle.source.specs.declared.Loaded.{Loaded}
use Rattle.definition.specs.declared.answers.Refusal.TheVariants.{ImageLine}
use Rattle.source.specs.Source.{start_end, start_read, first_line, start_good, refused, loading}
use Rattle.source.proofs.Lowest.{good-loading, bad-loading}
use Rattle.image_run.specs.Image.{image_row, image_run}

abbrev start_of : ℤ → ℤ → ℤ → Start
start_of pc sp sr = record { pc = pc; sp = sp; sr = sr }

-- The machine that an image starts: a and b empty, no cycle, nothing on the console, no fence, the timer off.
abbrev pub start_machine : List ℤ → ℕ → ℕ → ℤ → Machine
start_machine l pc sp sr =
    machine (core l (record { a = empty; b = empty; pc = pc; sp = sp; sr = sr; empties = 0 })) 0 (record { marks = I.marked false false false; queue = replicate 256 0; start = 0; count = 0; output = replicate 4096 0; written = 0 }) 0 (timed 0 0 false)

empty-sound : Sound empty
unfolding sound sound_at
empty-sound = refl

module _ (k : ℕ) (low : 256 ≤ k) (high : k ≤ 10000) (s : Registers) (pc_a : s.pc < 4294967296) (sp_a : s.sp < 4294967296) (a_s : Sound s.a) (b_s : Sound s.b) where
  empty-at : (n : ℕ) → n < k → cell_at (replicate (3 * k) (pos 0)) n ≡ empty
  unfolding cell_at
  empty-at n h =
      cell-path (get_or-replicate (3 * k) (3 * n) (pos 0) (pos 0) (omega arith)) (get_or-replicate (3 * k) (3 * n + 1) (pos 0) (pos 0) (omega arith)) (get_or-replicate (3 * k) (3 * n + 2) (pos 0) (pos 0) (omega arith))

  empty-core : AcceptedCore 0 (core (replicate (3 * k) (pos 0)) s)
  empty-core =
      let e = length-replicate (3 * k) (pos 0) in
      record { fenced = omega arith; three = omega arith; low = omega arith; high = omega arith; pc_a = pc_a; sp_a = sp_a; a_s = a_s; b_s = b_s; cells_s = λ n h. ap sound (empty-at n (omega arith)) ∙ empty-sound }

-- ---- the start line

pub record StartIn (s : Start) : Type 0 where
  pub pc_a : is_address (address_of s.pc) ≡ true
  pub sp_a : is_address (address_of s.sp) ≡ true

line-in : (r : Reader) → r.broken ≡ false → (start_line r).broken ≡ false → StartIn (start_line r).start
unfolding start_line
line-in r h b =
    let x = is_address (address_of r.last.y) in
    let y = is_address (address_of r.last.z) in
    by_bool (x && y)
    (λ e. let p = both x y e in rw e (record { pc_a = p.0; sp_a = p.1 }))
    (λ e. clash refl (rw e at b))

module _ (r : Reader) where
  start-broken : r.broken ≡ true → r ≡ start_end r
  unfolding start_end
  start-broken b = rw b

  start-ended : r.broken ≡ false → (has_digits r.field && eqb r.count 3) ≡ true → start_line r ≡ start_end r
  unfolding start_end
  start-ended b w = rw (b, w)

  start-short : r.broken ≡ false → (has_digits r.field && eqb r.count 3) ≡ false → broken r ≡ start_end r
  unfolding start_end
  start-short b w = rw (b, w)

-- a start line that is taken has two addresses
start_in : (r : Reader) → (start_end r).broken ≡ false → StartIn (start_end r).start
start_in r b =
    by_bool r.broken
    (λ e. clash e (ap (λ (x : Reader). x.broken) (start-broken r e) ∙ b))
    (λ e. by_bool (has_digits r.field && eqb r.count 3)
    (λ f. let q = start-ended r e f in
    subst (λ (x : Reader). StartIn x.start) q (line-in r e (ap (λ (x : Reader). x.broken) q ∙ b)))
    (λ f. clash refl (ap (λ (x : Reader). x.broken) (start-short r e f) ∙ b)))

good_start : (t : List ℕ) → start_good t ≡ true → StartIn (start_read (first_line t)).start
unfolding start_good start_read
good_start t h =
    start_in (foldl within opened (first_line t)) (not-true (start_read (first_line t)).broken (both (eqb (head (past is_inner t)) 10) (not (start_read (first_line t)).broken) h).1)

-- ---- the cells

put-accepted : (s : Registers) (vs : List Cell) (k : ℕ) (l : List ℤ) → all_sound vs ≡ true → k + length vs ≤ 2048 → AcceptedCore 0 (core l s) → cell_count l ≡ 2048 → AcceptedCore 0 (core (put_cells k vs l) s)
unfolding put_cells all_sound
put-accepted s [] k l h f a e = a
put-accepted s (v ∷ vs) k l h f a e =
    let p = both (sound v) (all_sound vs) h in
    put-accepted s vs (suc k) _ p.1 (omega arith) (accepted-put (core l s) a k (omega arith) v p.0) (count-put l k v ∙ e)

-- what the assembler leaves
left-accepted : (s : Registers) (x : Assembled) → ((vs : List Cell) → x ≡ cells vs → (all_sound vs ≡ true) × (length vs ≤ 2048)) → AcceptedCore 0 (core empty_cells s) → AcceptedCore 0 (core (answered x empty_cells).left s)
unfolding answered
left-accepted s (cells vs) h a = let p = h vs refl in put-accepted s vs 0 empty_cells p.0 (omega (arith, p.1)) a refl
left-accepted s (refuses r p) h a = a

row_is : (m : List ℤ) (pc sp : ℕ) (sr : ℤ) → lent_of (start_machine m pc sp sr) ≡ lent m (replicate 256 0) (replicate 4096 0) (image_row (start_of (pos pc) (pos sp) sr))
unfolding row_of
row_is m pc sp sr = refl

start-accepted : (s : Start) (m : List ℤ) → StartIn s → ((r : Registers) → AcceptedCore 0 (core empty_cells r) → AcceptedCore 0 (core m r)) → AcceptedMachine (start_machine m (nat_abs s.pc) (nat_abs s.sp) s.sr)
start-accepted s m i f =
    let r : Registers = record { a = empty; b = empty; pc = nat_abs s.pc; sp = nat_abs s.sp; sr = s.sr; empties = 0 } in
    let p = address-in s.pc i.pc_a in
    let q = address-in s.sp i.sp_a in
    record { core_in = f r (empty-core 2048 (omega arith) (omega arith) r p.1 q.1 empty-sound empty-sound); cycles_in = omega arith; timer_in = record { interval_in = omega arith; remaining_in = omega arith }; console_in = record { some = omega arith; few = omega arith; small = omega arith; start_in = omega arith; count_in = omega arith; written_in = omega arith }; none_counted = refl }

accepted-runs : (s : Start) (m : List ℤ) → StartIn s → AcceptedMachine (start_machine m (nat_abs s.pc) (nat_abs s.sp) s.sr) → image_run m (image_row s) ≡ ran (run 100000 (start_machine m (nat_abs s.pc) (nat_abs s.sp) s.sr))
unfolding image_run
accepted-runs s m i a =
    ap (λ (z : ℤ). image_run m (image_row (start_of z s.sp s.sr))) (address-in s.pc i.pc_a).0
    ∙ ap (λ (z : ℤ). image_run m (image_row (start_of (pos (nat_abs s.pc)) z s.sr))) (address-in s.sp i.sp_a).0
    ∙ ap (run_call 100000) (sym (row_is m (nat_abs s.pc) (nat_abs s.sp) s.sr))
    ∙ call-on 100000 (start_machine m (nat_abs s.pc) (nat_abs s.sp) s.sr) a

abbrev outcome_of : Called Loaded (List ℤ) → Result (Unit {0}) Refused
outcome_of x = x.answer.outcome

-- The lines that are printed of a loaded program are those of the definition's run,
pub loaded-runs : (t : List ℕ) → (loading t empty_cells).answer.outcome ≡ Ok tt → let l = loading t empty_cells in let s = l.answer.start in image_run l.left (image_row s) ≡ ran (run 100000 (start_machine l.left (nat_abs s.pc) (nat_abs s.sp) s.sr))
loaded-runs t h =
    by_bool (start_good t)
    (λ e. let g = good-loading t e in
    let r = (start_read (first_line t)).start in
    let i = good_start t e in
    let x = assemble 2048 (next_line t) in
    rw g (accepted-runs r (answered x empty_cells).left i (start-accepted r (answered x empty_cells).left i (λ q. left-accepted q x (λ vs k. (cells-sound 2048 (next_line t) vs k, cells_fit 2048 (next_line t) vs k))))))
    (λ e. absurd (let y : ◌≡◌ {A = Result (Unit {0}) Refused} (Err (refused (ImageLine 1))) (Ok tt) = ap outcome_of (sym (bad-loading t e)) ∙ h in cc))

-- so that run refuses nothing.
pub loaded-accepted : (t : List ℕ) → (loading t empty_cells).answer.outcome ≡ Ok tt → let l = loading t empty_cells in (image_run l.left (image_row l.answer.start)).answer.refusal ≡ 0
unfolding ran
loaded-accepted t h = ap (λ (x : Called Ran Lent). x.answer.refusal) (loaded-runs t h)
