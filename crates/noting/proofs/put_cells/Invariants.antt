use Rattle.std.specs.Prelude.{◌≡◌, ◌∷◌, ◌++◌, ◌*◌, ◌-◌, pos, length, map, replicate, take}
use Rattle.journal.specs.Journal.{numbers}
use Rattle.noting.specs.Meaning.{held_of}
use Rattle.noting.proofs.put_cells.Given as goal

abbrev pub invariant-loop-i : goal.invariant-loop-i
invariant-loop-i l = l.part ≡ pos (length l.cells) ∷ (numbers (map held_of (take l.i l.cells)) ++ replicate (16 - 4 * l.i) (pos 0))
