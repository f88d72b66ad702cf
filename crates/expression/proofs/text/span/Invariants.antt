use Rattle.std.proofs.Common.{◌≡◌, ◌≤◌, length, Bool, ℕ}
use Rattle.expression.specs.Reader.{past}
use Rattle.expression.specs.Code.{Answers}
use Rattle.expression.proofs.text.span.Given as goal

abbrev pub invariant-loop-rest : goal.invariant-loop-rest
invariant-loop-rest g l = record { shorter : length l.rest ≤ length l.s; same : (p : ℕ → Bool) → Answers (goal.F-post g l.test) p → past p l.rest ≡ past p l.s }

abbrev pub decreases-loop-rest : goal.decreases-loop-rest
decreases-loop-rest g l = length l.rest
