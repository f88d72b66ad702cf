use Rattle.std.proofs.Common.{◌∙◌, arith}
use Rattle.definition.proofs.Total.{total-most}
use Rattle.computer.proofs.Laws.{run_start, run_went, run_ended, run_spent, next_accepted}
use Rattle.computer.proofs.run.Goals as goal

pub loop-steps-init : goal.loop-steps-init
loop-steps-init c = record { accepted = c.requires; left = run_start _ _; empty_in = omega arith }

pub loop-steps-preserved : goal.loop-steps-preserved
loop-steps-preserved c =
    let x = c.loop-steps in
    let w = c.step-done in
    let e = c.in_default.ensures in
    record {
      accepted = next_accepted _ _ _ x.invariant.accepted w.ensures;
      left = rw c.total-empty.ensures (run_went x.steps c.args.budget x.empty _ _ (omega arith) e ∙ x.invariant.left);
      empty_in = rw c.total-empty.ensures (total-most x.empty w.new.m.s.empties);
    }

pub returns-in-Err : goal.returns-in-Err
returns-in-Err c =
    let x = c.loop-steps in
    run_ended x.steps c.args.budget x.empty _ _ (omega arith) c.in-Err.stop x.invariant.empty_in c.in-Err.ensures ∙ x.invariant.left

pub returns : goal.returns
returns c =
    let x = c.loop-steps in
    run_spent x.steps c.args.budget x.empty _ (omega arith) (omega arith) x.invariant.empty_in ∙ x.invariant.left
