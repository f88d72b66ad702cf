-- mod.rs: fetch, exception entry, poll, a step, and a run on a budget.
use Rattle.std.specs.Prelude.{Bool, true, false, cond, ◌&&◌, List, ℕ, zero, suc, ◌+◌, ℤ, pos, ltb, eqb, None, Option, Some}
use Rattle.definition.specs.declared.Executed.{Executed}
use Rattle.definition.specs.declared.Ending.{Ending}
use Rattle.definition.specs.declared.Ending.TheVariants.{Exception, Stops}
use Rattle.definition.specs.declared.Stop.{Stop}
use Rattle.definition.specs.declared.Stop.TheVariants.{NoHandler, OutputFull, CyclesFull}
use Rattle.definition.specs.declared.Instruction.{Instruction}
use Rattle.definition.specs.declared.Request.{Request}
use Rattle.definition.specs.declared.Request.TheVariants.{Nothing, Reads, Writes}
use Rattle.definition.specs.declared.Registers.{Registers}
use Rattle.definition.specs.declared.Timer.{Timer}
use Rattle.definition.specs.declared.Error.TheVariants.{InvalidInstruction, InvalidMemoryAccess}
use Rattle.definition.specs.Constants.{INTERRUPT-PC-SAVE, INTERRUPT-SR-SAVE, INTERRUPT-EXCEPTION, INTERRUPT-HANDLER, INTERRUPT-ENABLE, SUPERVISOR, CYCLES-END, TIMER-INTERVAL-PORT}
use Rattle.definition.specs.Word.{put_bit}
use Rattle.definition.specs.Total.{total}
use Rattle.definition.specs.Exception.{ending, HARDWARE-INTERRUPT, BUDGET-SPENT, stop_number, stop_detail}
use Rattle.definition.specs.Memory.{word, cell_at, put_cell, is_instruction}
use Rattle.definition.specs.Registers.{with_pc, with_sr, with_empties, supervisor, interrupt_enable}
use Rattle.definition.specs.Encoding.{extract_instruction}
use Rattle.definition.specs.Io.{Console, with_marks, with_pending, read_port, write_port, output_full}
use Rattle.definition.specs.Timer.{with_timer_mark, set_timer, tick, tick_entry, read_timer}
use Rattle.definition.specs.Exec.{Core, with_regs, with_cells, Exec, Res, ok, err, ◌>>=◌, ◌>>◌, return, raise, ask, change, read}
use Rattle.definition.specs.Instructions.{execute, set_register}

-- The whole computer: cells and registers, cycles, console, fence, timer.
pub record Machine : Type 0 where
  pub core : Core
  pub cycles : ℕ
  pub console : Console
  pub fence : ℕ
  pub timer : Timer

abbrev pub machine : Core → ℕ → Console → ℕ → Timer → Machine
machine c n k f t = record { core = c; cycles = n; console = k; fence = f; timer = t }

-- One part changed.
abbrev pub with_core : Core → Machine → Machine
with_core c m = machine c m.cycles m.console m.fence m.timer

abbrev pub with_cycles : ℕ → Machine → Machine
with_cycles n m = machine m.core n m.console m.fence m.timer

abbrev pub with_console : Console → Machine → Machine
with_console k m = machine m.core m.cycles k m.fence m.timer

abbrev pub with_timer : Timer → Machine → Machine
with_timer t m = machine m.core m.cycles m.console m.fence t

-- The console's pending mark given another value.
abbrev pub with_mark : Bool → Machine → Machine
with_mark p m = with_console (with_marks (with_pending p m.console.marks) m.console) m

-- ---- an instruction, fetched and executed

unfoldable pub or_instruction : Option Instruction → Exec Instruction
or_instruction (Some i) = return i
or_instruction None = raise InvalidInstruction

-- "Fetch at pc outside the cells raises code 5 with pc unmoved. A fetched cell that is no instruction raises code 2 with pc moved on."
unfoldable pub fetch : Exec Instruction
fetch = do
  n ← ask (λ s. s.pc)
  v ← read n InvalidMemoryAccess
  change (with_pc (suc n))
  or_instruction (extract_instruction v)

unfoldable pub attempt : ℕ → Exec Executed
attempt g = do
  i ← fetch
  q ← execute g i.op i.x i.y i.r1 i.r2
  return (record { cost = i.cycles; request = q })

-- ---- up to exception entry

-- Where a step arrives: at its end, at exception entry with a code, or at a stop. The machine of `enters` is that of the "moment of entry"
-- (document 01's term): "where that step turns to exception entry, its earlier effects done".
pub data Turn : Type 0 where
  completes : Machine → Turn
  enters : ℕ → Machine → Turn
  stops : Stop → Machine → Turn

unfoldable pub ends : Ending → Machine → Turn
ends (Exception k) m = enters k m
ends (Stops s) m = stops s m

-- "then, if I is set, the pending mark is taken and, if it was set, code 0 is entered". "The poll takes the console's mark first and
-- otherwise the timer's."
unfoldable pub poll : Machine → Turn
poll m =
    cond
    (interrupt_enable m.core.regs && m.console.marks.pending)
    (enters HARDWARE-INTERRUPT (with_mark false m))
    (cond (interrupt_enable m.core.regs && m.timer.mark) (enters HARDWARE-INTERRUPT (with_timer (with_timer_mark false m.timer) m)) (completes m))

-- "After a completed instruction its cost is added".
abbrev pub executed : ℕ → Core → Machine → Machine
executed cost c m = with_cycles (m.cycles + cost) (with_core c m)

-- "each completed instruction, before the poll, takes its cost off what remains". "An exception step doesn't poll."
unfoldable pub conclude : ℕ → Machine → Res (Unit {0}) → Turn
conclude cost m (ok u c) = poll (with_timer (tick cost m.timer) (executed cost c m))
conclude cost m (err e c) = ends (ending e) (with_core c m)

-- The console or the timer serves what the instruction asks; m is the machine before the step. "A step that writes port 120 takes nothing
-- off."
unfoldable pub serve : Machine → Request → ℕ → Core → Turn
serve m Nothing cost c = conclude cost m (ok tt c)
serve m (Reads p r) cost c =
    conclude cost (with_console (read_port p m.console).1 m) (set_register r (word (pos (read_timer p m.timer (read_port p m.console).0))) c)
serve m (Writes p w) cost c =
    cond
    (output_full p m.console)
    (stops OutputFull m)
    (cond (eqb p TIMER-INTERVAL-PORT) (poll (with_timer (set_timer w m.timer) (executed cost c m))) (conclude cost (with_console (write_port p w m.console) m) (ok tt c)))

unfoldable pub after_attempt : Machine → Res Executed → Turn
after_attempt m (ok x c) = serve m x.request x.cost c
after_attempt m (err e c) = ends (ending e) (with_core c m)

-- The first address that a step may write: the fence, if it is "begun with S clear".
unfoldable pub guard : Machine → ℕ
guard m = cond (supervisor m.core.regs) 0 m.fence

unfoldable pub turn : Machine → Turn
turn m = after_attempt m (attempt (guard m) m.core)

-- ---- exception entry

-- A step is completed, or stops. "A step is completed where the Rust step returns Ok, an entered exception included."
pub data Outcome : Type 0 where
  completed : Machine → Outcome
  stopped : Stop → Machine → Outcome

-- "if cell 200 is no instruction, stop with that code"
unfoldable pub has_handler : List ℤ → Bool
has_handler l = is_instruction (cell_at l INTERRUPT-HANDLER)

-- "pc, sr and code go to cells 100, 101, 102"
unfoldable pub saved : ℕ → ℤ → ℕ → List ℤ → List ℤ
saved pc sr k l =
    put_cell (put_cell (put_cell l INTERRUPT-PC-SAVE (word (pos pc))) INTERRUPT-SR-SAVE (word sr)) INTERRUPT-EXCEPTION (word (pos k))

-- "S is set", "Code 0 also clears I."
unfoldable pub entered_sr : ℕ → ℤ → ℤ
entered_sr zero w = put_bit INTERRUPT-ENABLE false (put_bit SUPERVISOR true w)
entered_sr (suc k) w = put_bit SUPERVISOR true w

-- "pc is 200"
unfoldable pub entered_registers : ℕ → Registers → Registers
entered_registers k s = with_pc INTERRUPT-HANDLER (with_sr (entered_sr k s.sr) s)

unfoldable pub entered_core : ℕ → Core → Core
entered_core k c = with_cells (saved c.regs.pc c.regs.sr k c.cells) (with_regs (entered_registers k c.regs) c)

-- "and one cycle is added"
unfoldable pub entered : ℕ → Machine → Machine
entered k m = with_cycles (suc m.cycles) (with_core (entered_core k m.core) m)

-- Computer::recover_from_exception, with its cycle: "nothing saved, no cycle" where there is no handler.
unfoldable pub recover : ℕ → Machine → Outcome
recover k m = cond (has_handler m.core.cells) (completed (entered k m)) (stopped (NoHandler k) m)

-- In a step, entry takes its cycle off the timer; by raise it "takes off none", and where there is no handler nothing is taken off.
abbrev pub elapsed : ℕ → Machine → Machine
elapsed k m = with_timer (tick_entry k m.timer) m

unfoldable pub elapses : ℕ → Outcome → Outcome
elapses k (completed m) = completed (elapsed k m)
elapses k (stopped s m) = stopped s m

unfoldable pub settle : Turn → Outcome
settle (completes m) = completed m
settle (enters k m) = elapses k (recover k m)
settle (stops s m) = stopped s m

-- ---- a step

unfoldable pub reached : Outcome → Machine
reached (completed m) = m
reached (stopped s m) = m

-- "7 the step would pass 2^63 - 1 cycles": looked at by the cycles that the step really adds. "Stops 6 and 7 leave the machine before that
-- step, 6 first".
unfoldable pub limit : Machine → Outcome → Outcome
limit m o = cond (ltb (reached o).cycles CYCLES-END) o (stopped CyclesFull m)

-- Computer::step
unfoldable pub step : Machine → Outcome
step m = limit m (settle (turn m))

-- ---- a run

pub record Run : Type 0 where
  pub stop : ℕ
  pub detail : ℕ
  pub steps : ℕ
  pub empty : ℕ
  pub left : Machine

abbrev pub runs : ℕ → ℕ → ℕ → ℕ → Machine → Run
runs n d s t m = record { stop = n; detail = d; steps = s; empty = t; left = m }

-- The count of empty reads starts again with every step.
abbrev pub uncounted : Machine → Machine
uncounted m = with_core (with_regs (with_empties 0 m.core.regs) m.core) m

-- A run with k steps before it, which took t words of empty cells: "a run reports the total over its completed steps".
unfoldable pub later : ℕ → ℕ → Run → Run
later k t r = runs r.stop r.detail (k + r.steps) (total t r.empty) r.left

-- A step that stops counts nothing; one that enters the handler counts what it took before.
unfoldable pub go_on : Outcome → (Machine → Run) → Run
go_on (completed m) k = later 1 m.core.regs.empties (k (uncounted m))
go_on (stopped s m) k = runs (stop_number s) (stop_detail s) 0 0 (uncounted m)

-- "Steps counts completed steps only". "0 is given exactly when steps equals the budget, and no further step is then begun."
unfoldable pub run : ℕ → Machine → Run
run zero m = runs BUDGET-SPENT 0 0 0 m
run (suc n) m = go_on (step m) (run n)
