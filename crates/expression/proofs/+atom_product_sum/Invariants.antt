use Rattle.std.proofs.Common.{◌≡◌, ◌+◌, ◌*◌, ℕ, length}
use Rattle.expression.specs.declared.Level.{Level}
use Rattle.expression.specs.declared.Level.TheVariants.{Sum, Product}
use Rattle.expression.specs.Reader.{chained, links}
use Rattle.expression.specs.Values.{values, no_labels}
use Rattle.expression.specs.Labels.{lookup}
use Rattle.expression.specs.Code.{level_of, operand_of}
use Rattle.expression.proofs.+atom_product_sum.Given as goal

abbrev pub rank : Level → ℕ
rank Sum = 2
rank Product = 0

abbrev pub decreases-atom : goal.decreases-atom
decreases-atom l = 5 * l.depth

abbrev pub decreases-operand : goal.decreases-operand
decreases-operand l = 5 * l.depth + rank l.level + 1

abbrev pub decreases-links : goal.decreases-links
decreases-links l = 5 * l.depth + rank l.level + 2

abbrev pub invariant-links-loop-operator : goal.invariant-links-loop-operator
invariant-links-loop-operator l = chained (level_of (values no_labels) l.level) (operand_of (values (lookup l.labels)) l.level l.depth) l.value l.rest ≡ links (level_of (values no_labels) l.level) (operand_of (values (lookup l.labels)) l.level l.depth) l.s

abbrev pub decreases-links-loop-operator : goal.decreases-links-loop-operator
decreases-links-loop-operator l = length l.rest
