-- What an answer of the code means in the definition.
use Rattle.std.specs.Prelude.{List, ℕ, ℤ, Result, Ok, Err, Option, Some, None}
use Rattle.definition.specs.declared.Registers.{Registers}
use Rattle.definition.specs.declared.Error.{Error}
use Rattle.definition.specs.Registers as R
use Rattle.definition.specs.Exec.{Core, Res, ok, err, core}
use Rattle.memory.specs.Overlay.{overlay}
use Rattle.definition.specs.Constants.{ZERO, NEGATIVE, OVERFLOW, INTERRUPT-ENABLE, SUPERVISOR}
use Rattle.registers.specs.declared.Plan.{Plan}
use Rattle.registers.specs.declared.Flag.{Flag}
use Rattle.registers.specs.declared.Flag.TheVariants.{Zero, Negative, Overflow, InterruptEnable, Supervisor}

-- A flag's bit in sr.
abbrev pub flag_bit : Flag → ℕ
flag_bit Zero = ZERO
flag_bit Negative = NEGATIVE
flag_bit Overflow = OVERFLOW
flag_bit InterruptEnable = INTERRUPT-ENABLE
flag_bit Supervisor = SUPERVISOR

-- The registers s after a register took its value, or refused it: the answer, and what they are then.
abbrev pub settled : Registers → R.Put → Result (Unit {0}) Error × Registers
settled s (R.assigned t) = (Ok tt, t)
settled s (R.refused e) = (Err e, s)

-- pc's or sp's address and the registers t once it was taken, or its error e and the registers s of before.
abbrev pub addressed : Registers → Option ℕ → Registers → Error → Result ℕ Error × Registers
addressed s (Some n) t e = (Ok n, t)
addressed s None t e = (Err e, s)

-- A result of the definition from the code's answer and the core that is left.
unfoldable pub res_of : {X : Type 0} → Result X Error → Core → Res X
res_of (Ok v) c = ok v c
res_of (Err e) c = err e c

-- The cells with the plan's write done, and with its registers.
abbrev pub planned : List ℤ → Plan → List ℤ
planned l p = overlay p.write l

abbrev pub core_of : List ℤ → Plan → Core
core_of l p = core (planned l p) p.s
