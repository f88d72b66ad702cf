-- The definition's search for a damaged cell, with none where it comes to the last cell's end.
use Rattle.std.specs.Prelude.{cond, eqb, List, ℕ, ℤ, Option, Some, None}
use Rattle.definition.specs.Memory.{cell_count}
use Rattle.definition.specs.Calls.{lowest_damaged}

abbrev pub damaged : List ℤ → Option ℕ
damaged l = cond (eqb (lowest_damaged 0 l) (cell_count l)) None (Some (lowest_damaged 0 l))
