-- An answer of the code as a result of the definition: what the proofs of the crates above cite.
use Rattle.std.specs.Prelude.{◌≡◌, refl, List, ℤ, Ok, Err, Result}
use Rattle.std.proofs.Common.{ap}
use Rattle.definition.specs.declared.Registers.{Registers}
use Rattle.definition.specs.declared.Error.{Error}
use Rattle.definition.specs.Registers as R
use Rattle.definition.specs.Exec.{Core, Res, Exec, core, err, and_then, or_put}
use Rattle.registers.specs.Meaning.{settled, res_of}

-- A register's answer is what the definition assigns.
pub settled_is : (s t : Registers) (l : List ℤ) (r : Result (Unit {0}) Error) (p : R.Put) → (r, t) ≡ settled s p → res_of r (core l t) ≡ or_put p (core l s)
unfolding or_put res_of
settled_is s t l r (R.assigned u) h = ap (λ (x : Result (Unit {0}) Error × Registers). res_of x.0 (core l x.1)) h
settled_is s t l r (R.refused e) h = ap (λ (x : Result (Unit {0}) Error × Registers). res_of x.0 (core l x.1)) h

-- An answer m is followed by k where it is good, and ends there where it is not.
pub then_ok : {X Y : Type 0} {m : Res X} {r : Result X Error} {c : Core} (k : X → Exec Y) (v : X) → res_of r c ≡ m → r ≡ Ok v → and_then m k ≡ k v c
unfolding res_of and_then
then_ok k v h q = rw (← h, q) refl

pub then_err : {X Y : Type 0} {m : Res X} {r : Result X Error} {c : Core} (k : X → Exec Y) (e : Error) → res_of r c ≡ m → r ≡ Err e → and_then m k ≡ err e c
unfolding res_of and_then
then_err k e h q = rw (← h, q) refl
