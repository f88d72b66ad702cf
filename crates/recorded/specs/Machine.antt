-- A machine of the replay: which of its parts a line names, and what an opened case leaves of it.
use Rattle.std.specs.Prelude.{List, ◌++◌, ℕ, ℤ, pos, length, replicate, take, drop}
use Rattle.definition.specs.Constants.{ROW}
use Rattle.definition.specs.Word.{address_of}
use Rattle.definition.specs.Memory.{cell}
use Rattle.definition.specs.Calls.{Lent, lent}
use Rattle.recorded.specs.declared.length.Lengths.{Lengths}
use Rattle.recorded.specs.declared.machine.Machine.{Machine}
use Rattle.recorded.specs.declared.machine.Part.{Part}
use Rattle.recorded.specs.declared.machine.Part.TheVariants as P
use Rattle.recorded.specs.declared.reader.Line.{Line}
use Rattle.recorded.specs.Compare.{Verdict}
use Rattle.recorded.specs.Place.{cell_put, number_put, byte_put}

abbrev pub no_machine : Machine
no_machine =
    record { cells = replicate 30000 (pos 0); queue = replicate 256 0; output = replicate 4096 0; row = replicate ROW (pos 0); buffer = replicate 128 0 }

-- Everything that run is lent of it.
abbrev pub lent_of : Machine → Lent
lent_of m = lent m.cells m.queue m.output m.row

abbrev pub with_lent : Machine → Lent → Machine
with_lent m u = record { cells = u.cells; queue = u.queue; output = u.output; row = u.row; buffer = m.buffer }

abbrev pub with_cells : Machine → List ℤ → Machine
with_cells m l = record { cells = l; queue = m.queue; output = m.output; row = m.row; buffer = m.buffer }

abbrev pub with_queue : Machine → List ℕ → Machine
with_queue m l = record { cells = m.cells; queue = l; output = m.output; row = m.row; buffer = m.buffer }

abbrev pub with_output : Machine → List ℕ → Machine
with_output m l = record { cells = m.cells; queue = m.queue; output = l; row = m.row; buffer = m.buffer }

abbrev pub with_row : Machine → List ℤ → Machine
with_row m l = record { cells = m.cells; queue = m.queue; output = m.output; row = l; buffer = m.buffer }

abbrev pub with_buffer : Machine → List ℕ → Machine
with_buffer m l = record { cells = m.cells; queue = m.queue; output = m.output; row = m.row; buffer = l }

-- The line's byte put into the n that are in use, which are the front; the end stays as it was.
abbrev pub byte_of : Line → ℕ → List ℕ → Verdict × List ℕ
byte_of l n bytes = let x = byte_put (address_of l.a) (address_of l.b) (take n bytes) in (x.0, x.1 ++ drop n bytes)

-- The line's numbers put into this part, if there is such a place.
abbrev pub put_in : Part → Line → Lengths → Machine → Verdict × Machine
put_in P.Cell l n m = let x = cell_put (address_of l.a) (cell l.b l.c l.d) m.cells in (x.0, with_cells m x.1)
put_in P.Number l n m = let x = number_put (address_of l.a) l.b m.row in (x.0, with_row m x.1)
put_in P.Queue l n m = let x = byte_of l n.queue m.queue in (x.0, with_queue m x.1)
put_in P.Output l n m = let x = byte_of l n.output m.output in (x.0, with_output m x.1)
put_in P.Buffer l n m = let x = byte_of l n.buffer m.buffer in (x.0, with_buffer m x.1)

-- "opens a case: all cells empty, all bytes 0, the row's 20 numbers 0"
abbrev pub emptied : Machine → Machine
emptied m =
    record { cells = replicate (length m.cells) (pos 0); queue = replicate (length m.queue) 0; output = replicate (length m.output) 0; row = replicate (length m.row) (pos 0); buffer = m.buffer }
