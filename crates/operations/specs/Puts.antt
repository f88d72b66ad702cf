-- What a closure of an instruction of two words says of the registers.
use Rattle.std.specs.Prelude.{◌≡◌, ℤ, Result}
use Rattle.std.specs.Borrow.{MutBor}
use Rattle.std.specs.Fn.{Once}
use Rattle.definition.specs.declared.Error.{Error}
use Rattle.definition.specs.declared.Registers.{Registers}
use Rattle.definition.specs.Registers.{Put}
use Rattle.registers.specs.Meaning.{settled}

-- Each result that a call of k may give, and the registers that it leaves, are what f says.
abbrev pub Puts : {F : Type 0} → Once F (MutBor Registers × (ℤ × (ℤ × Unit {0}))) (Result (Unit {0}) Error × (MutBor Registers × Unit {0})) → F → (ℤ → ℤ → Registers → Put) → Type 0
Puts g k f = (s t : MutBor Registers) (v w : ℤ) (a : Result (Unit {0}) Error) → g.post k (s, (v, (w, tt))) (a, (t, tt)) → (a, t.now) ≡ settled s.now (f v w s.now)
