use Rattle.std.proofs.Common.{refl}
use Rattle.expression.specs.Labels.{lookup}
use Rattle.assembler.proofs.Judged.{fails-none, fails-beyond, fails-again, fails-nowhere}
use Rattle.assembler.proofs.judge.label_fails.Goals as goal

pub returns-in_default : goal.returns-in_default
returns-in_default c = rw c.in_default.is (fails-none (lookup c.args.labels.now) c.args.k c.args.c)

pub returns-then-c-ge256 : goal.returns-then-c-ge256
returns-then-c-ge256 c = rw c.in-Some.is (fails-beyond (lookup c.args.labels.now) c.args.k c.args.c c.in-Some.name.now c.if-c-ge256.true)

pub returns-in-Some-find : goal.returns-in-Some-find
returns-in-Some-find c = rw c.in-Some.is (fails-again (lookup c.args.labels.now) c.args.k c.args.c c.in-Some.name.now c.in-Some-find.line _ c.if-c-ge256.false c.in-Some-find.ensures refl)

pub returns-in-None : goal.returns-in-None
returns-in-None c = rw c.in-Some.is (fails-nowhere (lookup c.args.labels.now) c.args.k c.args.c c.in-Some.name.now c.if-c-ge256.false c.in-None.ensures)
