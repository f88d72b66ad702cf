use Rattle.lister.proofs.Laws.{lists}
use Rattle.lister.proofs.list_input.Goals as goal

pub returns-clause-listed : goal.returns-clause-listed
returns-clause-listed g c = lists c.args.word.now _ c.leave_of.ensures c.list_seen.ensures _ c.in_ok-seen.ensures
