-- A list written whole.
use mathlib.Core.Path.{◌≡◌, ap, ◌∙◌}
use mathlib.Core.List.{List, ◌++◌, append-nil}
use Prim.Native.Nat.{◌+◌}
use native.Mathlib.Omega.{arith}
use lib.IntN.{ℤ}
use lib.ListN.{length, drop_of_length-le}
use lib.Seq.{sets, sets-eq}

-- What is left of a list, stored over from its first place to its last.
pub all-stored : (vs l : List ℤ) → length l ≡ length vs → sets l 0 vs ≡ vs
all-stored vs l h =
    sets-eq vs l 0 (omega arith) ∙ ap (λ (t : List ℤ). vs ++ t) (drop_of_length-le l {i = 0 + length vs} (omega arith)) ∙ append-nil vs
