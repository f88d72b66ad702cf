use Rattle.std.proofs.Common.{arith, sym}
use Rattle.seats.specs.Meaning.{lent_of}
use Rattle.seats.proofs.Turns.{none_left, cannot_go_on, turn-taken, stop-fits, steps-within}
use Rattle.seats.proofs.Buffers.turn.Goals.{then-left-eq0-via-then-left-eq0, then-left-eq0-via-else-left-eq0+then-not-can_go_on}
use Rattle.seats.proofs.Buffers.turn.Goals as goal

pub returns-then-left-eq0-clause-is : goal.returns-then-left-eq0-clause-is
returns-then-left-eq0-clause-is c =
    let a = c.args in
    let b = lent_of a.self.now in
    elim c.then-left-eq0.branch [
      | then-left-eq0-via-then-left-eq0 w ↦ none_left a.n a.k a.left a.seat.now b w.if-left-eq0.true
      | then-left-eq0-via-else-left-eq0+then-not-can_go_on w ↦ cannot_go_on a.n a.k a.left a.seat.now b (sym w.if-not-can_go_on.ensures)
    ]

pub overflow_cast-ran : goal.overflow_cast-ran
overflow_cast-ran c =
    let a = c.args in
    let b = lent_of a.self.now in
    record { fits = stop-fits a.n a.k c.turn_budget.result b c.run_at-ran.ensures.is }

pub update-requires : goal.update-requires
update-requires c =
    let a = c.args in
    let b = lent_of a.self.now in
    omega (arith, steps-within a.n a.k c.turn_budget.result b c.run_at-ran.ensures.is c.requires.1, c.turn_budget.ensures.fits)

pub returns-clause-is : goal.returns-clause-is
returns-clause-is c =
    let a = c.args in
    let b = lent_of a.self.now in
    turn-taken a.n a.k a.left a.seat.now b (rw c.turn_budget.ensures.is at c.run_at-ran.ensures.is) (omega (arith, c.if-left-eq0.false)) (sym c.if-not-can_go_on.ensures) c.update.ensures
