-- What the proofs of this crate and of those above cite.
use Rattle.std.specs.Prelude.{◌≡◌, refl, pos, negsuc, nat_abs, cond, ◌-◌, List, ℕ, zero, suc, ℤ, Option, Some, None, ◌+◌, ◌<◌, ◌≤◌, true, false, Bool, Result, Ok, Err}
use Rattle.std.proofs.Common.{sym, ◌∙◌, ap}
use native.Mathlib.Omega.{arith}
use borrow.Author.Tests.{lt-ltb, le-ltb, ltb-true}
use Rattle.std.proofs.Common.{true≢false}
use Rattle.definition.specs.declared.Cell.{Cell}
use Rattle.definition.specs.Constants.{CYCLES-END}
use Rattle.definition.specs.Word.{put_bit}
use Rattle.definition.specs.Memory.{cell_count, cell_at, get, found, is_instruction}
use Rattle.definition.specs.Exec.{Core, core, or_cell, ok, err, read}
use Rattle.registers.specs.declared.Plan.{Plan}
use Rattle.registers.specs.Meaning.{res_of, core_of}
use Rattle.definition.specs.declared.Error.{Error}
use Rattle.definition.specs.Arguments.{mode_cost}
use Rattle.definition.specs.Encoding.{decode, instruction_at, sound, sound_instruction, legal, cost, op_number, mode₁, mode₂}
use Rattle.encoding.proofs.Rule.{mode_small, both}
use Rattle.encoding.proofs.Sound.{far, Code, code, code-sound}
use Rattle.definition.specs.Runtime.{Machine, completed, stopped, elapsed, has_handler, entered_sr, entered, recover, limit, reached}
use Rattle.std.specs.Prelude.{ltb}
use Rattle.std.specs.Int.Signed.{lt_z}
use Rattle.std.specs.Option.{unwrap_or}
use Rattle.std.proofs.lemmas.Option.{none-some}
use Rattle.memory.specs.declared.Write.{Write}
use Rattle.definition.specs.declared.Stop.{Stop}
use Rattle.definition.specs.declared.Stop.TheVariants.{NoHandler, CyclesFull}
use Rattle.runtime.specs.Meaning.{outcome_of}
use Rattle.memory.specs.Overlay.{overlay}
use Rattle.memory.proofs.Laws.{get_in, length_over}

-- The cell read at 200 tells whether there is a handler. With 256 cells there is such a cell.
pub handler_read : (l : List ℤ) (v : Cell) → get l 200 ≡ Some v → is_instruction v ≡ has_handler l
unfolding has_handler get found
handler_read l v h = go (ltb 200 (cell_count l)) h
  where
    go : (b : Bool) → found b (cell_at l 200) ≡ Some v → is_instruction v ≡ is_instruction (cell_at l 200)
    go true h = ap (λ (x : Option Cell). is_instruction (unwrap_or x v)) (sym h)
    go false h = absurd (none-some _ h)

pub handler_there : (l : List ℤ) (x : Option Write) → 256 ≤ cell_count l → get (overlay x l) 200 ≡ None → false ≡ has_handler (overlay x l)
handler_there l x h e = absurd (none-some _ (sym e ∙ get_in (overlay x l) 200 (omega (arith, length_over l x))))

pub entered_zero : (k : ℕ) (w : ℤ) → k ≡ 0 → put_bit 8 false (put_bit 9 true w) ≡ entered_sr k w
unfolding entered_sr
entered_zero zero w h = refl
entered_zero (suc k) w h = absurd (omega arith)

pub entered_suc : (k : ℕ) (w : ℤ) → (k ≡ 0 → ⊥) → put_bit 9 true w ≡ entered_sr k w
unfolding entered_sr
entered_suc zero w h = absurd (h refl)
entered_suc (suc k) w h = refl

-- ---- the end of a step

pub end_in : (m x : Machine) (r : Result (Unit {0}) Stop) → x.cycles < CYCLES-END → limit m (outcome_of r x) ≡ outcome_of r x
unfolding limit reached
end_in m x (Ok u) h = rw (lt-ltb _ _ h) refl
end_in m x (Err s) h = rw (lt-ltb _ _ h) refl

pub end_out : (m x : Machine) (r : Result (Unit {0}) Stop) → CYCLES-END ≤ x.cycles → limit m (outcome_of r x) ≡ stopped CyclesFull m
unfolding limit reached
end_out m x (Ok u) h = rw (le-ltb _ _ h) refl
end_out m x (Err s) h = rw (le-ltb _ _ h) refl

-- ended as x, which was written as y
pub finished : (m x y : Machine) (r : Result (Unit {0}) Stop) → x.cycles < CYCLES-END → y ≡ x → outcome_of r y ≡ limit m (outcome_of r x)
finished m x y r h e = ap (outcome_of r) e ∙ sym (end_in m x r h)

pub entered_cycles : (k : ℕ) (m : Machine) → (entered k m).cycles ≡ m.cycles + 1
unfolding entered
entered_cycles k m = omega arith

pub entered_out : (m x : Machine) (k : ℕ) → CYCLES-END ≤ x.cycles + 1 → limit m (completed (entered k x)) ≡ stopped CyclesFull m
entered_out m x k h = end_out m (entered k x) (Ok tt) (omega (arith, entered_cycles k x))

pub elapsed_out : (m x : Machine) (k : ℕ) → CYCLES-END ≤ x.cycles + 1 → limit m (completed (elapsed k (entered k x))) ≡ stopped CyclesFull m
elapsed_out m x k h = end_out m (elapsed k (entered k x)) (Ok tt) (omega (arith, entered_cycles k x))

pub stopped_in : (m x : Machine) (s : Stop) → x.cycles < CYCLES-END → limit m (stopped s x) ≡ stopped s x
stopped_in m x s h = end_in m x (Err s) h

pub stopped_out : (m x : Machine) (s : Stop) → CYCLES-END ≤ x.cycles → limit m (stopped s x) ≡ stopped CyclesFull m
stopped_out m x s h = end_out m x (Err s) h

pub recover_in : (k : ℕ) (m : Machine) → has_handler m.core.cells ≡ true → recover k m ≡ completed (entered k m)
unfolding recover
recover_in k m h = rw h refl

pub recover_out : (k : ℕ) (m : Machine) → has_handler m.core.cells ≡ false → recover k m ≡ stopped (NoHandler k) m
unfolding recover
recover_out k m h = rw h refl

pub raised : (k : ℕ) (m y : Machine) → has_handler m.core.cells ≡ true → m.cycles + 1 < CYCLES-END → y ≡ entered k m → completed y ≡ limit m (recover k m)
raised k m y h c e = finished m (entered k m) y (Ok tt) (omega (arith, entered_cycles k m)) e ∙ ap (limit m) (sym (recover_in k m h))

-- ---- fetch

pub no_code : (t f s : ℤ) → lt_z t (pos 2) ≡ true → instruction_at t f s ≡ None
unfolding instruction_at
no_code (pos zero) f s h = refl
no_code (pos (suc zero)) f s h = refl
no_code (pos (suc (suc t))) f s h = let l : suc (suc t) < 2 = ltb-true (suc (suc t)) 2 h in absurd (omega arith)
no_code (negsuc n) f s h = refl

pub is_code : (t f s : ℤ) → lt_z t (pos 2) ≡ false → instruction_at t f s ≡ Some (decode (nat_abs t - 2) f s)
unfolding instruction_at
is_code (pos zero) f s h = absurd (true≢false h)
is_code (pos (suc zero)) f s h = absurd (true≢false h)
is_code (pos (suc (suc t))) f s h =
    let e : t ≡ suc (suc t) - 2 = omega arith in ap (λ (n : ℕ). Some (decode n f s)) e
is_code (negsuc n) f s h = absurd (true≢false h)

-- a sound cell's tag is below the first that is none
pub near : (v : Cell) → sound v ≡ true → lt_z v.tag (pos 29702) ≡ true
unfolding sound
near v h = go (lt_z v.tag (pos 29702)) refl
  where
    go : (b : Bool) → lt_z v.tag (pos 29702) ≡ b → b ≡ true
    go true e = refl
    go false e = absurd (true≢false (sym (far v.tag v.first v.second e ∙ h)))

pub code_of : (v : Cell) → sound v ≡ true → lt_z v.tag (pos 2) ≡ false → Code v.tag
code_of v h e = code v.tag e (near v h)

-- a sound cell's instruction is legal
pub code_legal : (v : Cell) → sound v ≡ true → lt_z v.tag (pos 2) ≡ false → legal (op_number (nat_abs v.tag - 2)) (mode₁ (nat_abs v.tag - 2)) (mode₂ (nat_abs v.tag - 2)) ≡ true
unfolding sound sound_instruction
code_legal v h e = (both _ _ (code-sound v.tag v.first v.second e ∙ h)).0

cost_small : (o m₁ m₂ : ℕ) → cost o m₁ m₂ ≤ 3
unfolding cost
cost_small o m₁ m₂ = go (legal o m₁ m₂)
  where
    go : (b : Bool) → cond b (1 + mode_cost m₁ + mode_cost m₂) 0 ≤ 3
    go true = let h = mode_small m₁ in let k = mode_small m₂ in omega arith
    go false = omega arith

-- an instruction's own cost
pub decode_small : (t : ℕ) (f s : ℤ) → (decode t f s).cycles ≤ 3
unfolding decode
decode_small t f s = cost_small _ _ _

ok-err : (v : Cell) (d : Core) (e : Error) (c : Core) → ok v d ≡ err e c → ⊥
ok-err v d e c h = cc

-- what was read, with no write that waits, is the cell there
pub read_in : (l : List ℤ) (p : Plan) (n : ℕ) (e : Error) (v : Cell) → p.write ≡ None → res_of (Ok v) (core_of l p) ≡ read n e (core_of l p) → (n < cell_count l) × (v ≡ cell_at l n)
unfolding res_of or_cell get found overlay
read_in l p n e v w h = go (ltb n (cell_count l)) refl (rw w at h)
  where
    go : (b : Bool) → ltb n (cell_count l) ≡ b → ok v (core l p.s) ≡ or_cell (found b (cell_at l n)) e (core l p.s) → (n < cell_count l) × (v ≡ cell_at l n)
    go true t h = (ltb-true _ _ t, cc)
    go false t h = absurd (ok-err _ _ _ _ h)
