use Rattle.std.specs.Prelude.{◌≡◌, true, ◌≤◌, ◌-◌}
use Rattle.definition.specs.Total.{TOTAL-MOST}
use Rattle.definition.specs.Runtime.{run, later}
use Rattle.definition.specs.Accepted.{AcceptedMachine}
use Rattle.row.specs.Meaning.{machine_at}
use Rattle.journal.specs.Journal.{is_journal, journal}
use Rattle.noting.proofs.run.run.Given as goal

-- that of computer::run, and the journal's
abbrev pub invariant-loop-steps : goal.invariant-loop-steps
invariant-loop-steps l = record {
  accepted : AcceptedMachine (machine_at l.cells l.queue l.output l.m);
  left : later l.steps l.empty (run (l.budget - l.steps) (machine_at l.cells l.queue l.output l.m)) ≡ run l.budget (machine_at l.initial.cells l.queue l.initial.output l.initial.m);
  empty_in : l.empty ≤ TOTAL-MOST;
  journal_in : is_journal l.journal ≡ true;
  noted : journal (l.budget - l.steps) (machine_at l.cells l.queue l.output l.m) l.journal ≡ journal l.budget (machine_at l.initial.cells l.queue l.initial.output l.initial.m) l.initial.journal;
}
