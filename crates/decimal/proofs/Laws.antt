-- A digit more stays within a limit just where the number does; what a sign and a magnitude within its limit are. Assumes nothing.
use mathlib.Core.Path.{◌≡◌, refl}
use mathlib.Core.Bool.{Bool, true, false}
use Prim.Native.Nat.{ℕ, zero, suc, ◌+◌, ◌*◌, ◌≤◌, ◌<◌}
use native.Mathlib.Omega.{arith}
use lib.Dec.{leb}
use lib.IntN.{pos, neg_ℤ}
use borrow.Author.Tests.{lt-leb, leb-true}
use mir.Syntax.{w64}
use mir.Val.{SFits}
use mir.Facts.{to_z_pos}
use Rattle.definition.specs.Word.{wrap}
use Rattle.definition.proofs.Words.{wrap-word}
use Rattle.word.proofs.Laws.{ltb-elim}
use Rattle.decimal.specs.Decimal.{cap_step, limit, value_of}

limit-most : (b : Bool) → limit b ≤ 9223372036854775808
limit-most true = omega arith
limit-most false = omega arith

pub step-within : (b : Bool) (m d : ℕ) → leb (cap_step m d) (limit b) ≡ leb (m * 10 + d) (limit b)
unfolding cap_step
step-within b m d =
    let l = limit-most b in
    ltb-elim 922337203685477580 m
    (λ e h. rw (e, lt-leb 9223372036854775809 (limit b) (omega arith), lt-leb (m * 10 + d) (limit b) (omega arith)))
    (λ e h. rw e)

pub step_is : (b : Bool) (m d : ℕ) → leb (m * 10 + d) (limit b) ≡ true → cap_step m d ≡ m * 10 + d
unfolding cap_step
step_is b m d h =
    let l = limit-most b in
    ltb-elim 922337203685477580 m
    (λ e g. absurd (omega (arith, leb-true (m * 10 + d) (limit b) h)))
    (λ e g. rw e)

pub value-plus : (v : ℕ) → v ≤ 9223372036854775807 → value_of false v ≡ pos v
unfolding value_of
value-plus v h = to_z_pos w64 (omega arith)

minus-fits : (v : ℕ) → v < 9223372036854775808 → SFits w64 (neg_ℤ (pos v))
minus-fits zero h = record { sfits = omega arith }
minus-fits (suc k) h = record { sfits = omega arith }

value-least : value_of true 9223372036854775808 ≡ neg_ℤ (pos 9223372036854775808)
unfolding value_of wrap
value-least = refl

pub value-minus : (v : ℕ) → v ≤ 9223372036854775808 → value_of true v ≡ neg_ℤ (pos v)
unfolding value_of
value-minus v h =
    ltb-elim v 9223372036854775808
    (λ e lt. rw (to_z_pos w64 lt) (wrap-word (neg_ℤ (pos v)) (minus-fits v lt)))
    (λ e ge. let q : v ≡ 9223372036854775808 = omega arith in rw q value-least)
