-- Demand 3, in the words of "User-mode pairs": what a reader has to believe of it. The proof is proofs/UserMode.
use Rattle.std.specs.Prelude.{◌≡◌, true, false, List, [], ◌∷◌, ◌++◌, ℕ, suc, ◌<◌, ◌≤◌, pos}
use Rattle.definition.specs.Constants.{ROW-A, ROW-PC, ROW-SR, ROW-CYCLES, ROW-ENABLE, ROW-FLAG, ROW-PENDING, ROW-START, ROW-COUNT, ROW-WRITTEN, ROW-FENCE, ROW-INTERVAL, ROW-REMAINING, ROW-MARK}
use Rattle.definition.specs.Memory.{word, cell_at, is_instruction}
use Rattle.definition.specs.Registers.{supervisor}
use Rattle.definition.specs.Runtime.{Machine, turn, enters, entered, entered_sr, elapsed, uncounted}
use Rattle.definition.specs.Calls.{Lent, lent_machine, lent_supervisor, at, passes, run_check, run_call, calls, answers}

-- "Accepted: run doesn't refuse it."
abbrev pub Accepted : Lent → Type 0
Accepted l = passes (run_check l) ≡ true

-- "alike in cells, registers, cycles and pending mark". "Alike in cells means the same number of cells with the same content. Registers are
-- a, b, pc, sp and sr": the row's places 1 to 9.
pub record Alike (l₁ l₂ : Lent) : Type 0 where
  pub cells : l₁.cells ≡ l₂.cells
  pub registers : (i : ℕ) → ROW-A ≤ i → i ≤ ROW-SR → at i l₁.row ≡ at i l₂.row
  pub cycles : at ROW-CYCLES l₁.row ≡ at ROW-CYCLES l₂.row
  pub pending : at ROW-PENDING l₁.row ≡ at ROW-PENDING l₂.row
  -- "for the user-mode pairing the two fences are equal"
  pub fence : at ROW-FENCE l₁.row ≡ at ROW-FENCE l₂.row
  -- "Machines paired for the user-mode statement agree in all three before and after"
  pub interval : at ROW-INTERVAL l₁.row ≡ at ROW-INTERVAL l₂.row
  pub remaining : at ROW-REMAINING l₁.row ≡ at ROW-REMAINING l₂.row
  pub mark : at ROW-MARK l₁.row ≡ at ROW-MARK l₂.row

-- The console, pending mark aside: enable, flag, queue start, both counts and every byte of queue and output record.
pub record SameConsole (l l' : Lent) : Type 0 where
  pub queue : l'.queue ≡ l.queue
  pub output : l'.output ≡ l.output
  pub enable : at ROW-ENABLE l'.row ≡ at ROW-ENABLE l.row
  pub flag : at ROW-FLAG l'.row ≡ at ROW-FLAG l.row
  pub start : at ROW-START l'.row ≡ at ROW-START l.row
  pub count : at ROW-COUNT l'.row ≡ at ROW-COUNT l.row
  pub written : at ROW-WRITTEN l'.row ≡ at ROW-WRITTEN l.row

-- "A list goes no further than the first step that sets S if, at every place in it, the runs before that place and then one on any budget
-- smaller than the one there leave S clear in the first machine."
abbrev pub GoesNoFurther : List ℕ → Lent → Type 0
GoesNoFurther ns l =
    (before : List ℕ) (budget : ℕ) (after : List ℕ) → ns ≡ before ++ budget ∷ after → (n : ℕ) → n < budget → lent_supervisor (calls (before ++ n ∷ []) l) ≡ false

-- Budgets of 0, which begin no step.
pub data Zeros : List ℕ → Type 0 where
  none : Zeros []
  one : {ns : List ℕ} → Zeros ns → Zeros (0 ∷ ns)

-- "Where the list leaves S set, its last completed step is the one that ends at pc 200": the step from `last`, which the budget n of the run
-- at that place leaves, to what the whole list leaves.
pub record Entry (ns : List ℕ) (l : Lent) : Type 0 where
  pub before : List ℕ
  pub n : ℕ
  pub after : List ℕ
  pub split : ns ≡ before ++ suc n ∷ after
  pub idle : Zeros after
  pub steps : (run_call (suc n) (calls before l)).answer.steps ≡ suc n
  pub steps_before : (run_call n (calls before l)).answer.steps ≡ n
  pub last : Lent
  pub is_last : last ≡ calls (before ++ n ∷ []) l
  pub user : lent_supervisor last ≡ false
  -- "The moment of entry is where that step turns to exception entry, its earlier effects done."
  pub code : ℕ
  pub moment : Machine
  pub turns : turn (lent_machine last) ≡ enters code moment
  pub leaves : lent_machine (calls ns l) ≡ uncounted (elapsed code (entered code moment))
  -- "ends at pc 200, an instruction there, with the pc and status word of the moment of entry in cells 100 and 101, supervisor clear in
  -- that word, and a code 0 to 5 in cell 102"
  pub pc : at ROW-PC (calls ns l).row ≡ pos 200
  pub handler : is_instruction (cell_at (calls ns l).cells 200) ≡ true
  pub cell_100 : cell_at (calls ns l).cells 100 ≡ word (pos moment.core.regs.pc)
  pub cell_101 : cell_at (calls ns l).cells 101 ≡ word moment.core.regs.sr
  pub clear : supervisor moment.core.regs ≡ false
  pub cell_102 : cell_at (calls ns l).cells 102 ≡ word (pos code)
  pub small : code ≤ 5
  -- "sr is then the word in cell 101 with S set and, for code 0, I clear"
  pub sr : at ROW-SR (calls ns l).row ≡ entered_sr code (cell_at (calls ns l).cells 101).first
  -- Code 0 took the pending mark, or it was clear and the timer's was taken.
  pub taken : code ≡ 0 → at ROW-PENDING (calls ns l).row ≡ pos 0

pub record Whole (l₁ l₂ : Lent) (ns : List ℕ) : Type 0 where
  -- "None of these runs is refused."
  pub accepted₁ : (before after : List ℕ) → ns ≡ before ++ after → Accepted (calls before l₁)
  pub accepted₂ : (before after : List ℕ) → ns ≡ before ++ after → Accepted (calls before l₂)
  -- "then the two are still alike in those four"
  pub alike : Alike (calls ns l₁) (calls ns l₂)
  -- "every run gave both the same stop, detail and step count". "Two user-mode runs that match as in the third demand also match in" the
  -- total of empty reads.
  pub same : answers ns l₁ ≡ answers ns l₂
  -- "and each console, pending mark aside, is as it was"
  pub console₁ : SameConsole l₁ (calls ns l₁)
  pub console₂ : SameConsole l₂ (calls ns l₂)
  -- and so is each fence, which no step writes
  pub fence₁ : at ROW-FENCE (calls ns l₁).row ≡ at ROW-FENCE l₁.row
  pub fence₂ : at ROW-FENCE (calls ns l₂).row ≡ at ROW-FENCE l₂.row
  -- "and the interval stays"
  pub interval₁ : at ROW-INTERVAL (calls ns l₁).row ≡ at ROW-INTERVAL l₁.row
  pub interval₂ : at ROW-INTERVAL (calls ns l₂).row ≡ at ROW-INTERVAL l₂.row
  -- "The step that sets the bit", in each of the two
  pub entry₁ : lent_supervisor (calls ns l₁) ≡ true → Entry ns l₁
  pub entry₂ : lent_supervisor (calls ns l₂) ≡ true → Entry ns l₂

-- "Take two accepted machines with that bit clear, alike in cells, registers, cycles and pending mark, whatever else their consoles hold."
abbrev pub UserMode : Type 0
UserMode =
    (l₁ l₂ : Lent) → Accepted l₁ → Accepted l₂ → lent_supervisor l₁ ≡ false → Alike l₁ l₂ → (ns : List ℕ) → GoesNoFurther ns l₁ → Whole l₁ l₂ ns
