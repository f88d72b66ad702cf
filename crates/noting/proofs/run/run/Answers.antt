use Rattle.std.proofs.Common.{◌∙◌, arith}
use Rattle.definition.proofs.Total.{total-most}
use Rattle.computer.proofs.Laws.{run_start, run_went, run_ended, run_spent, next_accepted}
use Rattle.noting.proofs.Runs.{noted_in, journal_start, journal_went, journal_ended, journal_spent}
use Rattle.noting.proofs.run.run.Goals as goal

pub loop-steps-init : goal.loop-steps-init
loop-steps-init c =
    record { accepted = c.requires.accepted; left = run_start _ _; empty_in = omega arith; journal_in = c.requires.journal; noted = journal_start _ _ _ }

pub loop-steps-preserved : goal.loop-steps-preserved
loop-steps-preserved c =
    let x = c.loop-steps in
    let w = c.step-done in
    let e = c.in_default.ensures.step in
    record {
      accepted = next_accepted _ _ _ x.invariant.accepted w.ensures.step;
      left = rw c.total-empty.ensures (run_went x.steps c.args.budget x.empty _ _ (omega arith) e ∙ x.invariant.left);
      empty_in = rw c.total-empty.ensures (total-most x.empty w.new.m.s.empties);
      journal_in = noted_in _ _ x.invariant.journal_in w.ensures.journal;
      noted = journal_went x.steps c.args.budget _ _ _ (omega arith) e w.ensures.journal ∙ x.invariant.noted;
    }

pub returns-in-Err-clause-run : goal.returns-in-Err-clause-run
returns-in-Err-clause-run c =
    let x = c.loop-steps in
    run_ended x.steps c.args.budget x.empty _ _ (omega arith) c.in-Err.stop x.invariant.empty_in c.in-Err.ensures.step ∙ x.invariant.left

pub returns-in-Err-clause-journal : goal.returns-in-Err-clause-journal
returns-in-Err-clause-journal c =
    let x = c.loop-steps in
    journal_ended x.steps c.args.budget _ _ _ (omega arith) c.in-Err.stop c.in-Err.ensures.step c.in-Err.ensures.journal ∙ x.invariant.noted

pub returns-clause-run : goal.returns-clause-run
returns-clause-run c =
    let x = c.loop-steps in
    run_spent x.steps c.args.budget x.empty _ (omega arith) (omega arith) x.invariant.empty_in ∙ x.invariant.left

pub returns-clause-journal : goal.returns-clause-journal
returns-clause-journal c =
    let x = c.loop-steps in
    journal_spent x.steps c.args.budget _ _ (omega arith) ∙ x.invariant.noted
