-- Laws of a run.
use Rattle.std.specs.Prelude.{◌≡◌, ℕ, ℤ, List, suc, ◌+◌, ◌-◌, ◌<◌, ◌≤◌, Bool, true, false, cond, ltb, Some, ◌&&◌, eqb, length, Result, Ok, Err}
use Rattle.std.proofs.lemmas.Bool.{lt-leb}
use Rattle.std.proofs.Math.Bool.{and-false}
use Rattle.definition.specs.Io.{Console, output_full}
use Rattle.definition.specs.declared.Operand.{Operand}
use Rattle.definition.specs.declared.Request.{Request}
use Rattle.definition.specs.declared.Request.TheVariants.{Writes}
use Rattle.definition.specs.declared.Cell.{Cell}
use Rattle.definition.specs.declared.Error.{Error}
use Rattle.definition.specs.declared.Instruction.{Instruction}
use Rattle.definition.specs.declared.Op.{Op}
use Rattle.definition.specs.declared.Op.TheVariants.{In, Out}
use Rattle.definition.specs.declared.Registers.{Registers}
use Rattle.definition.specs.Encoding.{extract_instruction}
use Rattle.definition.specs.Memory.{cell_count, cell_at, get, found}
use Rattle.definition.specs.Timer.{tick}
use Rattle.registers.specs.Meaning.{res_of}
use Rattle.std.proofs.lemmas.Option.{none-some}
use borrow.Author.Tests.{ltb-true}
use Rattle.definition.specs.Registers.{supervisor, with_pc}
use Rattle.definition.specs.Exec.{Core, core, Res, ok, or_cell, check_privileged, branch, and_then}
use Rattle.definition.specs.Instructions.{word_of, place_of, in_op, out_op, execute}
use Rattle.computer.specs.Meaning.{asked, quietly}
use Rattle.std.proofs.Common.{refl, sym, ◌∙◌, ap, subst, arith}
use Rattle.definition.specs.declared.Stop.{Stop}
use Rattle.definition.specs.Exception.{stop_number, stop_detail, ending}
use Rattle.definition.specs.Total.{TOTAL-MOST, total}
use Rattle.definition.specs.Runtime as M
use Rattle.definition.specs.Runtime.{Machine, Run, runs, uncounted}
use Rattle.definition.specs.Accepted.{AcceptedMachine}
use Rattle.definition.proofs.Total.{total-plain, total-assoc}
use Rattle.definition.proofs.Accepted.{OutcomeHas, Stepped, step-accepted, uncounted-in, run-most}
use Rattle.definition.proofs.Budgets.{later-zero}
use Rattle.runtime.specs.Meaning.{outcome_of}

-- After a step the machine stays accepted.
pub next_accepted : (m n : Machine) (r : Result (Unit {0}) Stop) → AcceptedMachine m → outcome_of r n ≡ M.step m → AcceptedMachine (uncounted n)
next_accepted m n (Ok u) a e = uncounted-in n (subst (OutcomeHas Stepped) (sym e) (step-accepted m a))
next_accepted m n (Err x) a e = uncounted-in n (subst (OutcomeHas Stepped) (sym e) (step-accepted m a))

-- nothing more was taken
total_none : (t : ℕ) → t ≤ TOTAL-MOST → t ≡ total t 0
total_none t h = let z : t ≡ t + 0 = omega arith in z ∙ sym (total-plain t 0 (omega arith))

pub run_start : (b : ℕ) (m : Machine) → M.later 0 0 (M.run (b - 0) m) ≡ M.run b m
run_start b m = let e : b - 0 ≡ b = omega arith in ap (λ (x : ℕ). M.later 0 0 (M.run x m)) e ∙ later-zero (M.run b m) (run-most b m)

-- after k of b steps, which took t words of empty cells
module _ (k b t : ℕ) (m n : Machine) (h : k < b) where
  next : b - k ≡ suc (b - (k + 1))
  next = omega arith

  pub run_went : M.completed n ≡ M.step m → M.later (k + 1) (total t n.core.regs.empties) (M.run (b - (k + 1)) (uncounted n)) ≡ M.later k t (M.run (b - k) m)
  unfolding M.run M.go_on M.later
  run_went e =
      let r : Run = M.run (b - (k + 1)) (uncounted n) in
      let z : k + 1 + r.steps ≡ k + (1 + r.steps) = omega arith in
      (λ i. runs r.stop r.detail (z i) (sym (total-assoc t n.core.regs.empties r.empty) i) r.left)
      ∙ ap (λ (o : M.Outcome). M.later k t (M.go_on o (M.run (b - (k + 1))))) e
      ∙ sym (ap (λ (x : ℕ). M.later k t (M.run x m)) next)

  pub run_ended : (s : Stop) → t ≤ TOTAL-MOST → M.stopped s n ≡ M.step m → runs (stop_number s) (stop_detail s) k t (uncounted n) ≡ M.later k t (M.run (b - k) m)
  unfolding M.run M.go_on M.later
  run_ended s f e =
      let z : k ≡ k + 0 = omega arith in
      (λ i. runs (stop_number s) (stop_detail s) (z i) (total_none t f i) (uncounted n))
      ∙ ap (λ (o : M.Outcome). M.later k t (M.go_on o (M.run (b - (k + 1))))) e
      ∙ sym (ap (λ (x : ℕ). M.later k t (M.run x m)) next)

pub run_spent : (k b t : ℕ) (m : Machine) → b ≤ k → k ≤ b → t ≤ TOTAL-MOST → runs 0 0 b t m ≡ M.later k t (M.run (b - k) m)
unfolding M.run M.later
run_spent k b t m h g f =
    let j : b - k ≡ 0 = omega arith in
    let z : b ≡ k + 0 = omega arith in
    (λ i. runs 0 0 (z i) (total_none t f i) m) ∙ sym (ap (λ (x : ℕ). M.later k t (M.run x m)) j)

-- where the record has room no port finds it full
pub not_full : (p : ℕ) (k : Console) → k.written < length k.output → output_full p k ≡ false
unfolding output_full
not_full p k h = ap (λ (b : Bool). eqb p 111 && b) (lt-leb (length k.output) k.written h) ∙ and-false (eqb p 111)

-- out, in a step begun with S set, asks the console
pub out_asked : (m : Machine) (cost : ℕ) (x y : Operand) (c d e : Core) (w : ℤ) (p : ℕ) → supervisor c.regs ≡ true → ok w d ≡ word_of x c → ok p e ≡ place_of y d → M.serve m (Writes p w) cost e ≡ M.after_attempt m (asked cost (out_op x y c))
unfolding out_op check_privileged branch and_then M.after_attempt
out_asked m cost x y c d e w p s h k = rw (s, ← h, ← k) refl

-- ---- a usual step

-- a cell that is got is the one there
pub got : (l : List ℤ) (n : ℕ) (v : Cell) → Some v ≡ get l n → (n < cell_count l) × (v ≡ cell_at l n)
unfolding get found
got l n v h = go (ltb n (cell_count l)) refl h
  where
    go : (b : Bool) → ltb n (cell_count l) ≡ b → Some v ≡ found b (cell_at l n) → (n < cell_count l) × (v ≡ cell_at l n)
    go true t h = (ltb-true _ _ t, cc)
    go false t h = absurd (none-some _ (sym h))

pub fetched_code : (l : List ℤ) (s : Registers) (v : Cell) (i : Instruction) → Some v ≡ get l s.pc → extract_instruction v ≡ Some i → M.fetch (core l s) ≡ ok i (core l (with_pc (s.pc + 1) s))
unfolding M.fetch and_then or_cell M.or_instruction
fetched_code l s v i h e =
    let n : suc s.pc ≡ s.pc + 1 = omega arith in
    let f : M.fetch (core l s) ≡ ok i (core l (with_pc (suc s.pc) s)) = rw (← h, e) refl in
    f ∙ ap (λ (k : ℕ). ok i (core l (with_pc k s))) n

module _ (m : Machine) (g : ℕ) (i : Instruction) (d : Core) (e : g ≡ cond (supervisor m.core.regs) 0 m.fence) (f : M.fetch m.core ≡ ok i d) where
  -- the step arrives where the instruction does
  pub turned : M.after_attempt m (asked i.cycles (execute g i.op i.x i.y i.r1 i.r2 d)) ≡ M.turn m
  unfolding M.turn M.guard M.attempt and_then
  turned = rw (f, ← e) refl

  pub turned_in : i.op ≡ In → M.after_attempt m (asked i.cycles (in_op i.x i.r2 d)) ≡ M.turn m
  unfolding execute
  turned_in o = ap (λ (p : Op). M.after_attempt m (asked i.cycles (execute g p i.x i.y i.r1 i.r2 d))) (sym o) ∙ turned

  pub turned_out : i.op ≡ Out → M.after_attempt m (asked i.cycles (out_op i.x i.y d)) ≡ M.turn m
  unfolding execute
  turned_out o = ap (λ (p : Op). M.after_attempt m (asked i.cycles (execute g p i.x i.y i.r1 i.r2 d))) (sym o) ∙ turned

module _ (m : Machine) (g : ℕ) (i : Instruction) (d : Core) (c : Core) where
  pub quiet_ok : (u : Unit {0}) → g ≡ cond (supervisor m.core.regs) 0 m.fence → M.fetch m.core ≡ ok i d → quietly (Ok u) c ≡ execute g i.op i.x i.y i.r1 i.r2 d → M.poll (M.with_timer (tick i.cycles m.timer) (M.executed i.cycles c m)) ≡ M.turn m
  unfolding res_of and_then M.after_attempt M.serve M.conclude
  quiet_ok u e f h = ap (λ (r : Res Request). M.after_attempt m (asked i.cycles r)) h ∙ turned m g i d e f

  pub quiet_err : (x : Error) → g ≡ cond (supervisor m.core.regs) 0 m.fence → M.fetch m.core ≡ ok i d → quietly (Err x) c ≡ execute g i.op i.x i.y i.r1 i.r2 d → M.ends (ending x) (M.with_core c m) ≡ M.turn m
  unfolding res_of and_then M.after_attempt
  quiet_err x e f h = ap (λ (r : Res Request). M.after_attempt m (asked i.cycles r)) h ∙ turned m g i d e f
