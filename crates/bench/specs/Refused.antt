-- The answer that a bench call's result stands for: `checked_of` where no turn was taken yet.
use Rattle.std.specs.Prelude.{ℕ, Result, Ok, Err}
use Rattle.definition.specs.Answers.{number_of, place_of}
use Rattle.bench.specs.declared.Benched.{Benched}
use Rattle.bench.specs.declared.Refused.{Refused}
use Rattle.bench.specs.declared.Refused.TheVariants.{Seats, Machine}
use Rattle.bench.specs.Bench.{benched}

abbrev pub refused : Refused → Benched
refused Seats = benched 19 0 0 0
refused (Machine k e) = benched (number_of e) (place_of e) k 0

abbrev pub answered : Result ℕ Refused → Benched
answered (Ok t) = benched 0 0 0 t
answered (Err e) = refused e

abbrev pub checked_of : Result (Unit {0}) Refused → Benched
checked_of (Ok u) = benched 0 0 0 0
checked_of (Err e) = refused e
