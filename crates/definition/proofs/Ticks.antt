-- The timer: its moves case by case, and what stays.
use mathlib.Core.Path.{◌≡◌, refl, ap, ◌∙◌}
use mathlib.Core.Bool.{Bool, true, false, cond}
use Prim.Native.Nat.{ℕ, zero, suc, ◌-◌, ◌<◌, ◌≤◌}
use native.Mathlib.Omega.{arith}
use lib.IntN.{ℤ, pos, negsuc}
use lib.Dec.{ltb}
use borrow.Author.Tests.{ltb-true, lt-ltb, le-ltb}
use Rattle.definition.specs.declared.Timer.{Timer}
use Rattle.definition.specs.Constants.{CYCLES-END}
use Rattle.definition.specs.Timer.{timed, interval_of, set_timer, tick, tick_entry}
use Rattle.definition.specs.Accepted.{TimerIn}
use Rattle.definition.specs.Course.{Course}
use Rattle.definition.proofs.Course.{course}

-- The table is proved first, so that a wrong rule is refused at a row that shows it.
shown-first : Course
shown-first = course

abbrev ticks : ℕ → Timer → Bool → Bool → Timer
ticks n t on less = cond on (cond less (timed t.interval (t.remaining - n) t.mark) (timed t.interval t.interval true)) t

-- ---- cycles taken off

module _ (n : ℕ) (t : Timer) where
  pub tick-off : t.interval ≡ 0 → tick n t ≡ t
  unfolding tick
  tick-off e = ap (λ (b : Bool). ticks n t b (ltb n t.remaining)) (le-ltb 0 t.interval (omega arith))

  pub tick-less : 0 < t.interval → n < t.remaining → tick n t ≡ timed t.interval (t.remaining - n) t.mark
  unfolding tick
  tick-less h l = ap (λ (b : Bool). ticks n t b (ltb n t.remaining)) (lt-ltb 0 t.interval h) ∙ ap (ticks n t true) (lt-ltb n t.remaining l)

  pub tick-expires : 0 < t.interval → t.remaining ≤ n → tick n t ≡ timed t.interval t.interval true
  unfolding tick
  tick-expires h l = ap (λ (b : Bool). ticks n t b (ltb n t.remaining)) (lt-ltb 0 t.interval h) ∙ ap (ticks n t true) (le-ltb n t.remaining l)

  pub tick-interval : (tick n t).interval ≡ t.interval
  unfolding tick
  tick-interval = go (ltb 0 t.interval) (ltb n t.remaining)
    where
      go : (b d : Bool) → (ticks n t b d).interval ≡ t.interval
      go true true = refl
      go true false = refl
      go false d = refl

  pub tick-in : TimerIn t → TimerIn (tick n t)
  unfolding tick
  tick-in h = go (ltb 0 t.interval) (ltb n t.remaining)
    where
      go : (b d : Bool) → TimerIn (ticks n t b d)
      go true true = record { interval_in = h.interval_in; remaining_in = let l : t.remaining ≤ t.interval = h.remaining_in in omega arith }
      go true false = record { interval_in = h.interval_in; remaining_in = omega arith }
      go false d = h

pub entry-interval : (k : ℕ) (t : Timer) → (tick_entry k t).interval ≡ t.interval
unfolding tick_entry
entry-interval zero t = refl
entry-interval (suc k) t = tick-interval 1 t

pub entry_in : (k : ℕ) (t : Timer) → TimerIn t → TimerIn (tick_entry k t)
unfolding tick_entry
entry_in zero t h = h
entry_in (suc k) t h = tick-in 1 t h

-- ---- port 120 written

interval-below : (w : ℤ) → interval_of w < CYCLES-END
unfolding interval_of
interval-below (pos n) = go (ltb n CYCLES-END) refl
  where
    go : (b : Bool) → ltb n CYCLES-END ≡ b → cond b n 0 < CYCLES-END
    go true e = ltb-true n CYCLES-END e
    go false e = omega arith
interval-below (negsuc n) = omega arith

pub set-in : (w : ℤ) (t : Timer) → TimerIn (set_timer w t)
unfolding set_timer
set-in w t = record { interval_in = interval-below w; remaining_in = omega arith }
