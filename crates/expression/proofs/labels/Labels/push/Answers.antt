use Rattle.std.proofs.Common.{refl, arith}
use Rattle.std.proofs.lemmas.List.{take_more_set}
use Rattle.expression.proofs.Tables.{held-length}
use Rattle.expression.proofs.labels.Labels.push.Goals as goal

pub returns : goal.returns
returns c = record {
  entry = record { name = c.args.name; line = c.args.line };
  named = refl;
  at_line = refl;
  last = take_more_set c.args.self.now.entries c.args.self.now.count _ (let r = c.args.self.now.room in let q = c.requires in omega arith);
  counted = refl;
  place = held-length c.args.self.now.entries c.args.self.now.count (let r = c.args.self.now.room in let q = c.requires in omega arith);
  guesses = rw c.hash.ensures.0 refl;
  numbers = search arith;
  beyond = refl;
}
