-- What the code notes of a step, as the definition's list of cells written.
use Rattle.std.specs.Prelude.{List, [], ◌∷◌, ◌++◌, ◌*◌, ◌-◌, ◌<◌, ◌^◌, ℤ, pos, length, replicate, Option, Some, None}
use Rattle.definition.specs.Calls.{row_of}
use Rattle.definition.specs.Accepted.{TimerIn}
use Rattle.row.specs.declared.State.{State}
use Rattle.row.specs.Meaning.{machine_at}
use Rattle.journal.specs.Writes.{Held, held}
use Rattle.journal.specs.Journal.{WRITES-MOST, numbers}
use Rattle.noting.specs.declared.Was.{Was}
use Rattle.noting.specs.declared.Entry.{Entry}
use Rattle.noting.specs.declared.Noted.{Noted}

abbrev pub held_of : Was → Held
held_of x = held x.address x.cell

abbrev pub own_of : Option Was → List Held
own_of None = []
own_of (Some x) = held_of x ∷ []

abbrev pub entry_of : Option Entry → List Held
entry_of None = []
entry_of (Some e) = held_of e.pc ∷ held_of e.sr ∷ held_of e.code ∷ []

-- The instruction's, then those of entry.
abbrev pub helds_of : Noted → List Held
helds_of w = own_of w.own ++ entry_of w.entry

-- A record behind its row.
abbrev pub behind_row : List Held → List ℤ
behind_row hs = pos (length hs) ∷ (numbers hs ++ replicate (4 * (WRITES-MOST - length hs)) (pos 0))

-- The row of a machine, which looks at no list, and that its numbers fit the row.
abbrev pub row_of_state : State → List ℤ
row_of_state m = row_of (machine_at [] [] [] m)

abbrev pub RowFits : State → Type 0
RowFits m =
    (m.cycles < 2 ^ 63) × ((m.k.start < 2 ^ 63) × ((m.k.count < 2 ^ 63) × ((m.k.written < 2 ^ 63) × TimerIn m.timer)))
