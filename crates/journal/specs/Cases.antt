-- Cases, computed: steps and what the journal then holds, going back, and what it refuses.
use Rattle.std.specs.Prelude.{◌≡◌, List, [], ◌∷◌, ◌++◌, ℕ, ◌+◌, ◌*◌, ℤ, pos, negsuc, set, take, drop, replicate}
use Rattle.definition.specs.declared.Cell.{Cell}
use Rattle.definition.specs.declared.Done.{Done}
use Rattle.definition.specs.Constants.{ROW, ROW-A, ROW-SP, ROW-SR, ROW-PENDING, ROW-FENCE}
use Rattle.definition.specs.Memory.{cell, empty, word}
use Rattle.definition.specs.Calls.{put, put_cell_of_row, done, accepted, Called, Lent, lent}
use Rattle.definition.specs.Course.{Line, line, inst, cells_of}
use Rattle.journal.specs.Journal.{RECORD, count_of, newest}
use Rattle.journal.specs.Calls.{run_journal, fresh_journal, deliver_journal, Backward, backward, back}

-- 256 cells, empty but for the image; a queue of one byte, an output record of none; a, sp, sr, pending mark and fence, the rest of the row 0.
unfoldable pub lent_case : List Line → Cell → ℕ → ℤ → ℤ → ℕ → Lent
lent_case image a sp sr pending fence =
    lent
    (cells_of 256 image)
    (0 ∷ [])
    []
    (put_cell_of_row ROW-A a (put ROW-SP (pos sp) (put ROW-SR sr (put ROW-PENDING pending (put ROW-FENCE (pos fence) (replicate ROW (pos 0)))))))

-- An empty journal with room for so many records.
abbrev fresh : ℕ → List ℤ
fresh room = replicate (2 + RECORD * room) (pos 0)

-- What a run leaves of it: start, count, and the newest record behind its row.
unfoldable pub kept : ℕ → ℕ → Lent → List ℤ
kept room budget l = let j = (run_journal budget l (fresh room)).left.1 in take 2 j ++ drop ROW (newest 0 j)

-- One step, and going back over it.
unfoldable pub gone : Lent → Called Done Backward
gone l = let x = (run_journal 1 l (fresh 1)).left in back (backward x.0.cells x.0.row x.1)

-- What going back answers with 256 empty cells, a row of zeros and a journal with one record, of which some numbers are others. The record
-- begins at place 2 with its row; its number of cells stands at place 22, the first address and cell at 23 to 26.
unfoldable pub answered : List ℤ → Done
answered j = (back (backward (cells_of 256 []) (replicate ROW (pos 0)) j)).answer

-- st %a,[100] · call [300] · swap [%a],%a · out 65,[111] · nop · reset
abbrev st100 : Cell
st100 = inst 28 2 3 0 0 (pos 0) (pos 100)

abbrev call300 : Cell
call300 = inst 2 3 0 0 0 (pos 300) (pos 0)

abbrev swap_a : Cell
swap_a = inst 30 4 2 0 0 (pos 0) (pos 0)

abbrev out111 : Cell
out111 = inst 20 1 3 0 0 (pos 65) (pos 111)

abbrev nop : Cell
nop = inst 17 0 0 0 0 (pos 0) (pos 0)

abbrev reset : Cell
reset = cell (pos 20702) (pos 0) (pos 0)

-- The numbers of so many unused cells.
abbrev unused : ℕ → List ℤ
unused n = replicate (4 * n) (pos 0)

-- st to cell 100, then an interrupt
abbrev twice_written : Lent
twice_written =
    lent_case (line 0 st100 ∷ line 100 (word (pos 7)) ∷ line 200 nop ∷ []) (word (pos 9)) 0 (pos 256) (pos 1) 0

-- "A record is the row, the number of cells, and four times address, tag, first, second"
pub record Kept : Type 0 where
  -- "two entries, each what it held just before that write", "in order of writing"
  pub twice : kept 1 1 twice_written ≡ pos 0 ∷ pos 1 ∷ pos 4 ∷ pos 100 ∷ pos 1 ∷ pos 7 ∷ pos 0 ∷ pos 100 ∷ pos 1 ∷ pos 9 ∷ pos 0 ∷ pos 101 ∷ pos 0 ∷ pos 0 ∷ pos 0 ∷ pos 102 ∷ pos 0 ∷ pos 0 ∷ pos 0 ∷ []
  -- A call that pushes what stands there and then stops, code 5 having no handler: the cell was written.
  pub unchanged : kept 1 1 (lent_case (line 0 call300 ∷ line 50 (word (pos 1)) ∷ []) empty 51 (pos 0) (pos 0) 0) ≡ pos 0 ∷ pos 1 ∷ pos 1 ∷ pos 50 ∷ pos 1 ∷ pos 1 ∷ pos 0 ∷ unused 3
  -- A write below the fence raises code 5 and is none.
  pub fenced : kept 1 1 (lent_case (line 0 st100 ∷ line 100 (word (pos 7)) ∷ []) (word (pos 9)) 0 (pos 0) (pos 0) 101) ≡ pos 0 ∷ pos 1 ∷ pos 0 ∷ unused 4
  -- "swap [...] resolves the memory address from the new registers."
  pub swapped : kept 1 1 (lent_case (line 0 swap_a ∷ line 30 (word (pos 40)) ∷ line 40 (word (pos 3)) ∷ []) (word (pos 30)) 0 (pos 0) (pos 0) 0) ≡ pos 0 ∷ pos 1 ∷ pos 1 ∷ pos 40 ∷ pos 1 ∷ pos 3 ∷ pos 0 ∷ unused 3
  -- Stop 6 begins no step, stop 1 does.
  pub no_room : kept 1 1 (lent_case (line 0 out111 ∷ []) empty 0 (pos 512) (pos 0) 0) ≡ pos 0 ∷ pos 0 ∷ pos 0 ∷ unused 4
  pub stopped : kept 1 1 (lent_case (line 0 reset ∷ []) empty 0 (pos 0) (pos 0) 0) ≡ pos 0 ∷ pos 1 ∷ pos 0 ∷ unused 4
  -- "A full journal forgets its oldest step": two and three steps in a ring of two records.
  pub both : kept 2 2 (lent_case (line 0 nop ∷ line 1 nop ∷ []) empty 0 (pos 0) (pos 0) 0) ≡ pos 0 ∷ pos 2 ∷ pos 0 ∷ unused 4
  pub forgot : kept 2 3 (lent_case (line 0 nop ∷ line 1 nop ∷ line 2 swap_a ∷ line 30 (word (pos 40)) ∷ []) (word (pos 30)) 0 (pos 0) (pos 0) 0) ≡ pos 1 ∷ pos 2 ∷ pos 1 ∷ pos 40 ∷ pos 0 ∷ pos 0 ∷ pos 0 ∷ unused 3

-- "puts the newest record back, last written cell first, and takes one off the count"
pub record Gone : Type 0 where
  pub cells : (gone twice_written).left.cells ≡ twice_written.cells
  pub row : (gone twice_written).left.row ≡ twice_written.row
  pub count : count_of (gone twice_written).left.journal ≡ 0

-- "20 the journal is no whole number of records [...]; 21 nothing kept to go back to"
pub record Refused : Type 0 where
  pub taken : answered (set (fresh 1) 1 (pos 1)) ≡ accepted
  pub longer : answered (fresh 1 ++ pos 0 ∷ []) ≡ done 20 0
  pub none : answered (fresh 1) ≡ done 21 0
  -- "start must be a record's place with count 0 too (20 before 21)"
  pub no_place : answered (set (fresh 1) 0 (pos 1)) ≡ done 20 0
  pub too_many : answered (set (fresh 1) 1 (pos 2)) ≡ done 20 0
  -- its number of cells; an address, a cell and a row that 8, 5 and 4 would refuse; "a record's unused places are not looked at"
  pub five_cells : answered (set (set (fresh 1) 1 (pos 1)) 22 (pos 5)) ≡ done 20 0
  pub outside : answered (set (set (set (fresh 1) 1 (pos 1)) 22 (pos 1)) 23 (pos 256)) ≡ done 20 0
  pub damaged : answered (set (set (set (fresh 1) 1 (pos 1)) 22 (pos 1)) 26 (pos 1)) ≡ done 20 0
  pub unused : answered (set (set (fresh 1) 1 (pos 1)) 26 (pos 1)) ≡ accepted
  pub no_row : answered (set (set (fresh 1) 1 (pos 1)) 8 (negsuc 0)) ≡ done 20 0

-- "1 (cells' length), 4 (the row [...]), 20, 21"; "first the call's own, then 20. fresh tests the journal's length only."
pub record Order : Type 0 where
  pub cells_first : (back (backward (cells_of 255 []) [] [])).answer ≡ done 1 0
  pub row_next : (back (backward (cells_of 256 []) [] [])).answer ≡ done 4 0
  pub own_first : (deliver_journal [] (replicate ROW (pos 0)) [] []).answer ≡ done 2 0
  pub then_20 : (deliver_journal (0 ∷ []) (replicate ROW (pos 0)) [] []).answer ≡ done 20 0
  -- "it gets count 0"; fresh "sets start 0 too"
  pub emptied : (deliver_journal (0 ∷ []) (replicate ROW (pos 0)) [] (set (fresh 1) 1 (pos 1))).left.1 ≡ fresh 1
  pub made : (fresh_journal (cells_of 256 []) (replicate ROW (pos 0)) (set (fresh 1) 0 (pos 9))).left.1 ≡ fresh 1
  pub length_only : (fresh_journal (cells_of 256 []) (replicate ROW (pos 0)) (set (fresh 1) 0 (pos 9))).answer ≡ accepted

pub record Cases : Type 0 where
  pub keeps : Kept
  pub goes : Gone
  pub refuses : Refused
  pub order : Order
