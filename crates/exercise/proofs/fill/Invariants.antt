use Rattle.std.proofs.Common.{◌≡◌, ◌-◌, ◌*◌, ◌++◌, take}
use Rattle.exercise.specs.Exercise.{made}
use Rattle.exercise.proofs.fill.Given as goal

abbrev pub invariant-loop-n : goal.invariant-loop-n
invariant-loop-n l =
    take (3 * l.n) l.image ++ made (l.n-end - l.n) l.draws.state ≡ made l.n-end l.seed
