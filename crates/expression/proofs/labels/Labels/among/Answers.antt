use Rattle.std.proofs.Common.{rules}
use Rattle.expression.proofs.Tables.{among-by}
use Rattle.expression.proofs.labels.Labels.among.Goals as goal

pub returns : goal.returns
returns c =
    let p = c.find_map.ensures.runs in
    let m = c.iter.ensures.runs p.0 p.0.seen in
    among-by p.0 _ c.args.name.now (rw (p.1, c.iter.ensures.rest, c.held.ensures) at m) _ _ (λ a r q h. search rules) (λ x b q h. search rules) _ p.2
