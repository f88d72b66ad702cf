-- The total of empty reads: "Every instruction that takes words passes this on [...] and a run reports the total over its completed steps, in
-- 64 bits." "The total of empty reads, unsigned too, stops at its largest number."
use Rattle.std.specs.Prelude.{cond, ℕ, ◌+◌, ◌-◌, ◌^◌, leb}

-- The largest number of 64 bits, unsigned.
abbrev pub TOTAL-MOST : ℕ
TOTAL-MOST = 2 ^ 64 - 1

-- A sum that stops at that number.
unfoldable pub total : ℕ → ℕ → ℕ
total t u = cond (leb (t + u) TOTAL-MOST) (t + u) TOTAL-MOST
