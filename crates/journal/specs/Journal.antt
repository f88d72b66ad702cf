-- "Step back" (document 02, Card 11): the journal as signed 64-bit numbers, and what a run writes into it.
use Rattle.std.specs.Prelude.{Bool, true, not, cond, ◌&&◌, ◌||◌, List, [], ◌∷◌, ◌++◌, ℕ, zero, suc, ◌+◌, ◌*◌, ◌-◌, ◌/◌, ◌%◌, ℤ, pos, nat_abs, length, get_or, set, take, drop, replicate, ltb, leb, eqb}
use Rattle.definition.specs.Constants.{ROW}
use Rattle.definition.specs.Exception.{OUTPUT-FULL, CYCLES-FULL, stop_number}
use Rattle.definition.specs.Memory.{cell, put_cell}
use Rattle.definition.specs.Io.{around}
use Rattle.definition.specs.Runtime.{Machine, Outcome, completed, stopped, step, uncounted}
use Rattle.definition.specs.Calls.{row_of, is_below}
use Rattle.journal.specs.Writes.{Held, held, step_writes}

-- ---- a record: "the row, the number of cells and four times address and cell in order of writing, unused ones 0"

-- The most cells that a step writes.
abbrev pub WRITES-MOST : ℕ
WRITES-MOST = 4

-- The numbers of a record: ROW + 1 + 4 * WRITES-MOST.
abbrev pub RECORD : ℕ
RECORD = 37

-- address and cell
unfoldable pub numbers : List Held → List ℤ
numbers [] = []
numbers (h ∷ hs) = pos h.address ∷ h.cell.tag ∷ h.cell.first ∷ h.cell.second ∷ numbers hs

unfoldable pub record_of : List ℤ → List Held → List ℤ
record_of row hs = row ++ pos (length hs) ∷ (numbers hs ++ replicate (4 * (WRITES-MOST - length hs)) (pos 0))

-- A record's row, its number of cells, and the cell written as number i, from 0.
abbrev pub row_in : List ℤ → List ℤ
row_in r = take ROW r

abbrev pub writes_in : List ℤ → ℕ
writes_in r = nat_abs (get_or r ROW (pos 0))

unfoldable pub held_in : List ℤ → ℕ → Held
held_in r i =
    let p = suc ROW + 4 * i in
    held (nat_abs (get_or r p (pos 0))) (cell (get_or r (p + 1) (pos 0)) (get_or r (p + 2) (pos 0)) (get_or r (p + 3) (pos 0)))

-- "puts the newest record back, last written cell first": n cells of the record r.
unfoldable pub put_back : ℕ → List ℤ → List ℤ → List ℤ
put_back zero r l = l
put_back (suc i) r l = put_back i r (put_cell l (held_in r i).address (held_in r i).cell)

-- ---- the ring: "start (the oldest record, from 0), count, then a ring of records"

abbrev pub JOURNAL-HEAD : ℕ
JOURNAL-HEAD = 2

-- "1 to 4,096"
abbrev pub RECORDS-MOST : ℕ
RECORDS-MOST = 4096

abbrev pub start_of : List ℤ → ℕ
start_of j = nat_abs (get_or j 0 (pos 0))

abbrev pub count_of : List ℤ → ℕ
count_of j = nat_abs (get_or j 1 (pos 0))

abbrev pub with_start : ℕ → List ℤ → List ℤ
with_start n j = set j 0 (pos n)

abbrev pub with_count : ℕ → List ℤ → List ℤ
with_count n j = set j 1 (pos n)

-- How many records the ring has room for.
abbrev pub records : List ℤ → ℕ
records j = (length j - JOURNAL-HEAD) / RECORD

-- Where the record at place p begins, that record, and another one put there.
abbrev pub record_from : ℕ → ℕ
record_from p = JOURNAL-HEAD + RECORD * p

unfoldable pub record_at : ℕ → List ℤ → List ℤ
record_at p j = take RECORD (drop (record_from p) j)

unfoldable pub put_record : ℕ → List ℤ → List ℤ → List ℤ
put_record p r j = take (record_from p) j ++ (r ++ drop (record_from p + length r) j)

-- The place of the i-th kept record, the oldest being number 0.
unfoldable pub kept_place : ℕ → List ℤ → ℕ
kept_place i j = around (records j) (start_of j + i)

-- The kept record that is i back from the newest, which is number 0.
unfoldable pub newest : ℕ → List ℤ → List ℤ
newest i j = record_at (kept_place (count_of j - suc i) j) j

-- One more record. "A full journal forgets its oldest step."
unfoldable pub remember : List ℤ → List ℤ → List ℤ
remember r j =
    cond
    (ltb (count_of j) (records j))
    (with_count (suc (count_of j)) (put_record (kept_place (count_of j) j) r j))
    (with_start (around (records j) (suc (start_of j))) (put_record (start_of j) r j))

-- "takes one off the count"
unfoldable pub forget_newest : List ℤ → List ℤ
forget_newest j = with_count (count_of j - 1) j

-- "no whole number of records, 1 to 4,096, after its start and count"
unfoldable pub whole_records : List ℤ → Bool
whole_records j =
    leb JOURNAL-HEAD (length j) && (eqb ((length j - JOURNAL-HEAD) % RECORD) 0 && (leb 1 (records j) && leb (records j) RECORDS-MOST))

-- "start is no record's place, count is not 0 to the records"
unfoldable pub is_journal : List ℤ → Bool
is_journal j =
    whole_records j && (is_below (records j) (get_or j 0 (pos 0)) && is_below (suc (records j)) (get_or j 1 (pos 0)))

-- ---- a run

-- "stops 6 and 7 begin no step": by its number, as a run answers it.
unfoldable pub begins : ℕ → Bool
begins n = not (eqb n OUTPUT-FULL || eqb n CYCLES-FULL)

unfoldable pub begun : Outcome → Bool
begun (completed w) = true
begun (stopped s w) = begins (stop_number s)

-- "the row before and what the cells it wrote held": of the step from m.
unfoldable pub step_record : Machine → List ℤ
step_record m = record_of (row_of m) (step_writes m)

-- "keeps, for every step begun"
unfoldable pub noted : Machine → List ℤ → List ℤ
noted m j = cond (begun (step m)) (remember (step_record m) j) j

unfoldable pub go_on_noting : Outcome → List ℤ → (Machine → List ℤ → List ℤ) → List ℤ
go_on_noting (completed w) j k = k (uncounted w) j
go_on_noting (stopped s w) j k = j

-- The journal after a run from m on a budget, which begins the steps of Runtime's `run`.
unfoldable pub journal : ℕ → Machine → List ℤ → List ℤ
journal zero m j = j
journal (suc n) m j = go_on_noting (step m) (noted m j) (journal n)
