use Rattle.std.proofs.Common.{◌≡◌, ◌<◌, drop}
use Rattle.expression.specs.Table.{hash_from}
use Rattle.expression.proofs.labels.hash.Given as goal

abbrev pub invariant-loop-b : goal.invariant-loop-b
invariant-loop-b l = record { below : l.hash < 1024; same : hash_from l.hash (drop l.b-index l.name) ≡ hash_from 0 l.name }
