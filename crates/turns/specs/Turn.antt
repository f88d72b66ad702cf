-- A bench as it is lent: a list with a record for each seat, and the four buffers whole.
use Rattle.std.specs.Prelude.{◌≡◌, List, ℕ, length}
use Rattle.definition.specs.Calls.{Lent}
use Rattle.bench.specs.declared.Seat.{Seat}
use Rattle.bench.specs.Bench.{Bench, bench_of, bench_check}

-- With so much left of the total.
abbrev pub lent_bench : ℕ → List Seat → Lent → Bench
lent_bench t list b = bench_of (length list) t list b

-- It is not refused.
abbrev pub IsAccepted : List Seat → Lent → Type 0
IsAccepted list b = (bench_check (length list) (length list) b).refusal ≡ 0
