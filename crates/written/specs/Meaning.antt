-- The address that is written, if one is, as the list of cells written.
use Rattle.std.specs.Prelude.{List, [], ◌∷◌, ℕ, ℤ, Option, None, Some}
use Rattle.journal.specs.Writes.{Held, held_at}

abbrev pub written_at : List ℤ → Option ℕ → List Held
written_at l None = []
written_at l (Some n) = held_at l n ∷ []
