use Rattle.std.proofs.Common.{◌≡◌}
use Rattle.bench.specs.Bench.{fuel, finished}
use Rattle.seats.specs.Meaning.{lent_of, AreSame}
use Rattle.turns.specs.Turn.{lent_bench, IsAccepted}
use Rattle.turns.proofs.run.Given as goal

abbrev pub invariant-loop-left : goal.invariant-loop-left
invariant-loop-left l =
    let b = lent_of l.buffers in
    record {
      same : AreSame l.fn.buffers l.buffers;
      accepted : IsAccepted l.list b;
      finish : finished (lent_bench l.left l.list b) ≡ finished (lent_bench l.fn.total l.fn.list (lent_of l.fn.buffers));
    }

abbrev pub decreases-loop-left : goal.decreases-loop-left
decreases-loop-left l = fuel (lent_bench l.left l.list (lent_of l.buffers))
