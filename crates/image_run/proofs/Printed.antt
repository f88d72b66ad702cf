-- What stands for a number in the printed text is a numeral of the lines' grammar, and that number's. Assumes nothing.
use mathlib.Core.Path.{◌≡◌, subst}
use mathlib.Core.List.{[], ◌∷◌, ◌++◌}
use Prim.Native.Nat.{ℕ, zero, suc, ◌+◌, ◌*◌, ◌/◌, ◌%◌, ◌^◌, ◌<◌}
use native.Mathlib.Omega.{arith}
use native.Mathlib.Nat.{pow-suc}
use lib.IntN.{ℤ, pos, negsuc}
use mir.Syntax.{w64}
use mir.Val.{SFits}
use Rattle.word.proofs.Laws.{ltb-elim}
use Rattle.lines.specs.Grammar.{Digits, Numeral}
use Rattle.decimal.specs.Decimal as D
use Rattle.lines.specs.Grammar as G
use Rattle.printing.specs.Decimal.{decimal_in, decimal, numeral}

digits-printed : (k n : ℕ) → n < 10 ^ suc k → Digits (decimal_in (suc k) n) n
unfolding decimal_in
digits-printed zero n h = ltb-elim n 10 (λ e l. rw e (D.one l)) (λ e l. absurd (omega arith))
digits-printed (suc k) n h =
    let p = pow-suc 10 (suc k) in
    let q : n / 10 * 10 + n % 10 ≡ n = omega arith in
    ltb-elim n 10
    (λ e l. rw e (D.one l))
    (λ e l. rw e (subst (Digits (decimal_in (suc k) (n / 10) ++ ((48 + n % 10) ∷ []))) q (D.more (digits-printed k (n / 10) (omega arith)) (omega arith))))

pub decimal-printed : (n : ℕ) → n < 2 ^ 64 → Digits (decimal n) n
decimal-printed n h = digits-printed 19 n (omega arith)

pub numeral-printed : (v : ℤ) → SFits w64 v → Numeral (numeral v) v
unfolding numeral
numeral-printed (pos n) f = G.plus (decimal-printed n (omega (arith, f.sfits))) (omega (arith, f.sfits))
numeral-printed (negsuc n) f = G.minus (decimal-printed (suc n) (omega (arith, f.sfits))) (omega (arith, f.sfits))
