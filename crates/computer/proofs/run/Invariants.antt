use Rattle.std.specs.Prelude.{◌≡◌, ◌≤◌, ◌-◌}
use Rattle.definition.specs.Total.{TOTAL-MOST}
use Rattle.definition.specs.Runtime.{run, later}
use Rattle.definition.specs.Accepted.{AcceptedMachine}
use Rattle.row.specs.Meaning.{machine_at}
use Rattle.computer.proofs.run.Given as goal

abbrev pub invariant-loop-steps : goal.invariant-loop-steps
invariant-loop-steps l = record {
  accepted : AcceptedMachine (machine_at l.cells l.queue l.output l.m);
  left : later l.steps l.empty (run (l.budget - l.steps) (machine_at l.cells l.queue l.output l.m)) ≡ run l.budget (machine_at l.initial.cells l.queue l.initial.output l.initial.m);
  empty_in : l.empty ≤ TOTAL-MOST;
}
