-- One write that waits: the cells as they will be.
use Rattle.std.specs.Prelude.{cond, List, ℤ, ltb, Option, Some, None}
use Rattle.definition.specs.Memory.{cell_count, put_cell}
use Rattle.memory.specs.declared.Write.{Write}

-- An address outside writes nothing.
unfoldable pub overlay : Option Write → List ℤ → List ℤ
overlay None l = l
overlay (Some w) l = cond (ltb w.at (cell_count l)) (put_cell l w.at w.v) l
