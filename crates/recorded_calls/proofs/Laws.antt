-- The machine's fresh accepts arrays of the replay's lengths. Assumes nothing.
use Rattle.std.proofs.Common.{◌≡◌, true, List, ℤ, pos, length, replicate}
use Rattle.definition.specs.Constants.{ROW}
use Rattle.definition.specs.Calls.{called, accepted, passes, verdict, cells_test, length_test, fresh_check, fresh}

fresh_passes : (cells row : List ℤ) → length cells ≡ 30000 → length row ≡ ROW → passes (fresh_check cells row) ≡ true
unfolding fresh_check verdict cells_test length_test
fresh_passes cells row h k = rw (h, k)

pub fresh_clears : (cells row : List ℤ) → length cells ≡ 30000 → length row ≡ ROW → fresh cells row ≡ called accepted (replicate (length cells) (pos 0), replicate (length row) (pos 0))
unfolding fresh
fresh_clears cells row h k = rw (fresh_passes cells row h k, k)
