use Rattle.std.proofs.Common.{◌∙◌, ap, arith}
use Rattle.std.proofs.lemmas.Result.{err_from_is_err_and}
use Rattle.definition.specs.Runtime.{Machine}
use Rattle.row.specs.Meaning.{machine_at}
use Rattle.encoding.specs.Code.{instruction_of}
use Rattle.computer.proofs.Laws.{turned_in, turned_out, quiet_ok, quiet_err}
use Rattle.computer.proofs.usual.arrive.Goals as goal

pub returns-in-In-clause-value : goal.returns-in-In-clause-value
returns-in-In-clause-value c =
    let m : Machine = machine_at c.args.cells.now c.args.queue.now c.args.output.now c.args.m.now in
    rw (c.x.ensures, c.r2.ensures) at (c.input.ensures.value c.args.cells.now m.core c.args.output.now)
    ∙ turned_in m c.guard-guard.result (instruction_of c.args.i.now) _ c.guard-guard.ensures c.requires.usual.fetched c.in-In.is

pub returns-in-Out-clause-value : goal.returns-in-Out-clause-value
returns-in-Out-clause-value c =
    let m : Machine = machine_at c.args.cells.now c.args.queue.now c.args.output.now c.args.m.now in
    rw (c.x-in-Out.ensures, c.y.ensures) at (c.output.ensures.value m.core c.args.queue.now)
    ∙ turned_out m c.guard-guard.result (instruction_of c.args.i.now) _ c.guard-guard.ensures c.requires.usual.fetched c.in-Out.is

pub returns-in_ok-execute-in_default : goal.returns-in_ok-execute-in_default
returns-in_ok-execute-in_default c =
    let m : Machine = machine_at c.args.cells.now c.args.queue.now c.args.output.now c.args.m.now in
    record {
      value = c.conclude.ensures.value c.execute.new.cells c.args.queue.now c.args.output.now
          ∙ quiet_ok m c.guard-guard.result (instruction_of c.args.i.now) _ _ _ c.guard-guard.ensures c.requires.usual.fetched c.in_ok-execute-in_default.ensures;
      soon = let z = c.conclude.ensures.cycles in let y = c.requires.usual.cheap in omega arith;
    }

pub returns-in_err-execute-in_default : goal.returns-in_err-execute-in_default
returns-in_err-execute-in_default c =
    let m : Machine = machine_at c.args.cells.now c.args.queue.now c.args.output.now c.args.m.now in
    let p = err_from_is_err_and c.from_residual.result c.from_residual.ensures.1 in
    record {
      value = rw (p.1, p.2) (quiet_err m c.guard-guard.result (instruction_of c.args.i.now) _ _ _ c.guard-guard.ensures c.requires.usual.fetched c.in_err-execute-in_default.ensures);
      soon = omega arith;
    }
