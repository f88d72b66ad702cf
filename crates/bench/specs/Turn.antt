-- One seat's turn, with the four buffers whole.
use Rattle.std.specs.Prelude.{List, ◌++◌, ℕ, ◌*◌, ◌/◌, length, take, drop}
use Rattle.definition.specs.Calls.{Lent, lent, Called, called}
use Rattle.bench.specs.declared.Seat.{Seat}
use Rattle.bench.specs.Bench.{seated, machine_at, turned, taken}

-- The buffers with another part at place k of n.
unfoldable pub with_part : {A : Type 0} → ℕ → ℕ → List A → List A → List A
with_part n k ys xs = take (k * (length xs / n)) xs ++ (ys ++ drop (length xs / n) (drop (k * (length xs / n)) xs))

abbrev pub with_machine : ℕ → ℕ → Lent → Lent → Lent
with_machine n k l b =
    lent (with_part n k l.cells b.cells) (with_part n k l.queue b.queue) (with_part n k l.output b.output) (with_part n k l.row b.row)

-- The turn of the seat at place k of n with t left, if it takes one: what it takes off the total, its record, and the buffers.
unfoldable pub turn_at : ℕ → ℕ → ℕ → Seat → Lent → Called ℕ (Seat × Lent)
turn_at n k t s b =
    let x = seated s (machine_at n k b) in
    called (taken t x) ((turned t x).seat, with_machine n k (turned t x).machine b)
