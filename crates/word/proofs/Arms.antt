-- The last arm of a match on a number: it is none of the numbers of the arms before it.
use Rattle.std.proofs.Common.{◌≡◌, ℕ, zero, suc, ◌+◌, ◌<◌, ◌≤◌, arith}

-- P, and o is none of the k numbers from n on: so the last arm of a match has the numbers of the arms before it
abbrev pub Skips : Type 0 → ℕ → ℕ → ℕ → Type 0
Skips P zero n o = P
Skips P (suc k) n o = Skips P k n o × (o ≡ n + k → ⊥)

module _ (P : Type 0) (n o : ℕ) where
  pub past : (k : ℕ) → n ≤ o → Skips P k n o → n + k ≤ o
  past zero h s = omega arith
  past (suc k) h s = let p = past k h s.0 in let e = s.1 in omega arith

  pub under : (k : ℕ) → o < n + k → Skips P k n o → (o < n) × P
  under zero h s = (omega arith, s)
  under (suc k) h s = let e = s.1 in under k (omega arith) s.0
