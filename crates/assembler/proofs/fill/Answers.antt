use Rattle.std.proofs.Common.{arith}
use Rattle.std.proofs.lemmas.Result.{err_from_is_err_and}
use Rattle.expression.specs.Labels.{lookup}
use Rattle.assembler.proofs.Whole.{ragged-by, even-by, call-ragged, call-broken, count_room, is-whole, call-refused, call-cells}
use Rattle.assembler.proofs.fill.Goals as goal

pub returns-in_err-check : goal.returns-in_err-check
returns-in_err-check c =
    let x = err_from_is_err_and c.from_residual.result c.from_residual.ensures.1 in
    let r = ragged-by _ _ c.in_err-check.ensures in
    rw (x.1, x.2, r.1) (call-ragged c.args.text.now c.args.image.now r.0)

pub returns-in_err-count : goal.returns-in_err-count
returns-in_err-count c =
    let x = err_from_is_err_and c.from_residual-in_err-count.result c.from_residual-in_err-count.ensures.1 in
    rw (x.1, x.2) (call-broken c.args.text.now c.args.image.now (even-by _ _ c.in_ok-check.ensures) (lookup c.new-labels.result) _ c.in_err-count.ensures)

pub judge-requires : goal.judge-requires
judge-requires c = is-whole c.args.text.now c.args.image.now (even-by _ _ c.in_ok-check.ensures) (lookup c.new-labels.result) _ c.in_ok-count.ensures (lookup c.collect.new.labels)

pub returns-in_err-judge : goal.returns-in_err-judge
returns-in_err-judge c =
    let x = err_from_is_err_and c.from_residual-in_err-judge.result c.from_residual-in_err-judge.ensures.1 in
    rw (x.1, x.2) (call-refused c.args.text.now c.args.image.now (even-by _ _ c.in_ok-check.ensures) (lookup c.new-labels.result) _ c.in_ok-count.ensures (lookup c.collect.new.labels) c.collect.ensures _ c.in_err-judge.ensures)

pub write-requires : goal.write-requires
write-requires c =
    let r = count_room c.args.text.now c.args.image.now (even-by _ _ c.in_ok-check.ensures) (lookup c.new-labels.result) _ c.in_ok-count.ensures in
    (is-whole c.args.text.now c.args.image.now (even-by _ _ c.in_ok-check.ensures) (lookup c.new-labels.result) _ c.in_ok-count.ensures (lookup c.collect.new.labels), omega arith)

pub returns : goal.returns
returns c = call-cells c.args.text.now c.args.image.now (even-by _ _ c.in_ok-check.ensures) (lookup c.new-labels.result) _ c.in_ok-count.ensures (lookup c.collect.new.labels) c.collect.ensures _ _ c.in_ok-judge.ensures c.write.ensures
