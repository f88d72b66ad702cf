-- The cells that an instruction sees.
use Rattle.std.specs.Prelude.{List, ℤ}
use Rattle.memory.specs.Overlay.{overlay}
use Rattle.arguments.specs.declared.Seen.{Seen}

abbrev pub cells_of : Seen → List ℤ
cells_of m = overlay m.1 m.0.now
