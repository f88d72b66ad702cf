-- What the code's answers mean in the definition. Cells, queue and output record are lent beside them: l, q and o.
use Rattle.std.specs.Prelude.{◌≡◌, List, ℕ, ℤ, ◌<◌, Option, Some, None, Result, Ok, Err, cond}
use Rattle.definition.specs.declared.Ending.{Ending}
use Rattle.definition.specs.declared.Stop.{Stop}
use Rattle.definition.specs.Registers.{supervisor}
use Rattle.definition.specs.Runtime as M
use Rattle.definition.specs.Runtime.{Machine, machine, saved}
use Rattle.console.specs.Meaning.{console_of, sent_to}
use Rattle.registers.specs.declared.Plan.{Plan}
use Rattle.registers.specs.Meaning.{core_of}
use Rattle.row.specs.declared.State.{State}
use Rattle.runtime.specs.declared.commit.Saved.{Saved}
use Rattle.runtime.specs.declared.effects.Effects.{Effects}

-- The first address that a step from m may write.
abbrev pub guard_of : State → ℕ
guard_of m = cond (supervisor m.s) 0 m.fence

-- A byte that waits has its place in an output record of this size.
abbrev pub Room : ℕ → State → Effects → Type 0
Room size m f = (b : ℕ) → f.byte ≡ Some b → m.k.written < size

-- The machine m with the effects done: the byte that waits goes behind those that m has written.
abbrev pub effects_at : List ℤ → List ℕ → List ℕ → State → Effects → Machine
effects_at l q o m f = machine (core_of l f.plan) f.cycles (console_of f.k q (sent_to m.k.written f.byte o)) m.fence f.timer

-- The cells once exception entry has saved what it saves, if it comes.
abbrev pub saves : Option Saved → List ℤ → List ℤ
saves None l = l
saves (Some e) l = saved e.pc e.sr e.code l

-- Of the step from m so far the instruction's part alone.
abbrev pub plan_only : State → Plan → Effects
plan_only m p = record { plan = p; cycles = m.cycles; k = m.k; timer = m.timer; byte = None }

-- Where the step arrives, with the machine m.
abbrev pub turn_of : Result (Unit {0}) Ending → Machine → M.Turn
turn_of (Ok u) m = M.completes m
turn_of (Err e) m = M.ends e m

-- How the step ends, with the machine m.
abbrev pub outcome_of : Result (Unit {0}) Stop → Machine → M.Outcome
outcome_of (Ok u) m = M.completed m
outcome_of (Err s) m = M.stopped s m
