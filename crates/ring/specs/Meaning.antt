-- A record remembered in two parts: where it goes, and then start and count. `remember` is both (proofs/Laws: `remember-is`).
use Rattle.std.specs.Prelude.{cond, List, ℕ, suc, ℤ, ltb}
use Rattle.definition.specs.Io.{around}
use Rattle.journal.specs.Journal.{start_of, count_of, with_start, with_count, records, kept_place}

unfoldable pub next_place : List ℤ → ℕ
next_place j = cond (ltb (count_of j) (records j)) (kept_place (count_of j) j) (start_of j)

unfoldable pub advanced : List ℤ → List ℤ
advanced j =
    cond (ltb (count_of j) (records j)) (with_count (suc (count_of j)) j) (with_start (around (records j) (suc (start_of j))) j)
