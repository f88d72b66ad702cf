use Rattle.std.proofs.Common.{◌≡◌}
use Rattle.bench.specs.Bench.{round}
use Rattle.bench.proofs.Loop.{Going, finish, seats}
use Rattle.seats.specs.Meaning.{lent_of, AreSame}
use Rattle.turns.proofs.round.Given as goal

abbrev pub invariant-loop-k : goal.invariant-loop-k
invariant-loop-k l =
    let b = lent_of l.buffers in
    record {
      same : AreSame l.fn.buffers l.buffers;
      going : Going l.n l.list b;
      rest : finish l.k (seats l.n l.list b) l.left ≡ round l.fn.total (seats l.n l.fn.list (lent_of l.fn.buffers));
    }
