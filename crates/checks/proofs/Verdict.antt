-- What a check of the row answers, as the first refusal of a list of tests, and what it says of the row where it passes.
use mathlib.Core.Path.{◌≡◌, refl}
use mathlib.Core.Bool.{true, cond}
use mathlib.Core.List.{List, ◌++◌}
use Prim.Native.Nat.{ℕ}
use lib.IntN.{ℤ}
use Rattle.definition.specs.Calls.{Test, verdict, passes, accepted, row_tests, length_test}
use Rattle.definition.specs.Accepted.{RowFits}
use Rattle.definition.proofs.Verdict.{numbered, verdict-then}
use Rattle.definition.proofs.Checked.{accepted-passes}
use Rattle.definition.proofs.Row.{row_fits}

row-numbered : (q o n : ℕ) (row : List ℤ) → numbered (row_tests q o n row) ≡ true
unfolding row_tests length_test
row-numbered q o n row = refl

pub row_then : (q o n : ℕ) (row : List ℤ) (ts : List Test) → verdict (row_tests q o n row ++ ts) ≡ cond (passes (verdict (row_tests q o n row))) (verdict ts) (verdict (row_tests q o n row))
row_then q o n row ts = verdict-then (row_tests q o n row) ts (row-numbered q o n row)

pub row-accepted : (q o n : ℕ) (row : List ℤ) → accepted ≡ verdict (row_tests q o n row) → RowFits q o n row
row-accepted q o n row e = row_fits q o n row (accepted-passes (row_tests q o n row) (row-numbered q o n row) e)
