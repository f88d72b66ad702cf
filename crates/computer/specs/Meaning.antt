-- What a run's answer means in the definition, with the machine m that it leaves.
use Rattle.std.specs.Prelude.{◌≡◌, ◌≢◌, ◌<◌, ◌≤◌, Option, Some, None, Result, ℕ, ◌+◌, ℤ, List}
use Rattle.definition.specs.declared.Error.{Error}
use Rattle.definition.specs.declared.Executed.{Executed}
use Rattle.definition.specs.declared.Request.{Request}
use Rattle.definition.specs.declared.Request.TheVariants.{Nothing}
use Rattle.definition.specs.declared.Op.{Op}
use Rattle.definition.specs.declared.Op.TheVariants.{Call, Fas, Neg, Nop, Not, Out, Pop, Push, Reset, Rti, Rtn, St, Swap, Trap}
use Rattle.definition.specs.declared.Cell.{Cell}
use Rattle.definition.specs.declared.Instruction.{Instruction}
use Rattle.definition.specs.Encoding.{extract_instruction}
use Rattle.definition.specs.Memory.{cell_count, get}
use Rattle.definition.specs.Registers.{with_pc}
use Rattle.definition.specs.Exec.{Core, core, Res, ok, and_then, return}
use Rattle.encoding.specs.declared.Code.{Code}
use Rattle.encoding.specs.Code.{instruction_of}
use Rattle.row.specs.declared.State.{State}
use Rattle.registers.specs.Meaning.{res_of}
use Rattle.definition.specs.declared.Ran.{Ran}
use Rattle.definition.specs.declared.Stop.{Stop}
use Rattle.definition.specs.Exception.{BUDGET-SPENT, stop_number, stop_detail}
use Rattle.definition.specs.Runtime.{Machine, Run, runs, fetch}
use Rattle.computer.specs.declared.Ended.{Ended}

abbrev pub stop_of : Option Stop → ℕ × ℕ
stop_of (Some s) = (stop_number s, stop_detail s)
stop_of None = (BUDGET-SPENT, 0)

abbrev pub run_of : Ended → Machine → Run
run_of e m = runs (stop_of e.stop).0 (stop_of e.stop).1 e.steps e.empty m

-- The answer of a run that isn't refused.
abbrev pub ran_of : Ended → Ran
ran_of e =
    record { refusal = 0; place = 0; stop = (stop_of e.stop).0; detail = (stop_of e.stop).1; steps = e.steps; empty = e.empty }

-- What an instruction that asks nothing comes to.
abbrev pub quietly : Result (Unit {0}) Error → Core → Res Request
quietly r c = and_then (res_of r c) (λ u. return Nothing)

-- The operations that take a word or a cell by their first operand and write no cell; in and out are apart.
abbrev pub Calculates : Op → Type 0
Calculates o =
    (o ≢ Call) × (o ≢ Fas) × (o ≢ Neg) × (o ≢ Nop) × (o ≢ Not) × (o ≢ Pop) × (o ≢ Push) × (o ≢ Reset) × (o ≢ Rti) × (o ≢ Rtn) × (o ≢ St) × (o ≢ Swap) × (o ≢ Trap)

-- What an instruction comes to that asks the console, with its cost.
abbrev pub asked : ℕ → Res Request → Res Executed
asked cost r = and_then r (λ q. return (record { cost = cost; request = q }))

abbrev pub NEAR : ℕ
NEAR = 4611686018427387904

-- What is asked of a usual step from m with the cells l, of the instruction i at its pc and of the output record's size.
pub record Usual (l : List ℤ) (size : ℕ) (m : State) (i : Code) : Type 0 where
  pub fetched : fetch (core l m.s) ≡ ok (instruction_of i) (core l (with_pc (m.s.pc + 1) m.s))
  pub inside : m.s.pc < cell_count l
  pub cheap : i.cycles ≤ 3
  pub far : m.cycles < NEAR
  pub room : i.op ≡ Out → m.k.written < size

-- Why a step from m is none: stop 7 may be near, there is no instruction at pc, or an out may find the output record full.
pub data Unusual (l : List ℤ) (size : ℕ) (m : State) : Type 0 where
  near : NEAR ≤ m.cycles → Unusual l size m
  outside : get l m.s.pc ≡ None → Unusual l size m
  no_instruction : (v : Cell) → get l m.s.pc ≡ Some v → extract_instruction v ≡ None → Unusual l size m
  full : (v : Cell) (i : Instruction) → get l m.s.pc ≡ Some v → extract_instruction v ≡ Some i → i.op ≡ Out → size ≤ m.k.written → Unusual l size m
