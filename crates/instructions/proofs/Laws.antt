-- A cell that was read is one of the cells.
use Rattle.std.proofs.Common.{◌≡◌, refl, ℕ, ◌<◌, List, ℤ, Option, Some, None, ltb-true}
use Rattle.definition.specs.declared.Cell.{Cell}
use Rattle.definition.specs.declared.Registers.{Registers}
use Rattle.definition.specs.declared.Error.{Error}
use Rattle.definition.specs.Memory.{cell_count, get}
use Rattle.definition.specs.Exec.{Core, core, ok, or_cell, read}
use Rattle.memory.proofs.Laws.{get-here}

pub read_in : (l : List ℤ) (n : ℕ) (e : Error) (v : Cell) (s : Registers) (d : Core) → ok v d ≡ read n e (core l s) → n < cell_count l
unfolding or_cell
read_in l n e v s d h = go (get l n) refl h
  where
    go : (o : Option Cell) → get l n ≡ o → ok v d ≡ or_cell o e (core l s) → n < cell_count l
    go (Some w) g h = ltb-true n (cell_count l) (get-here l n w g)
    go None g h = absurd cc
