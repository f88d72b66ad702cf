use Rattle.noting.proofs.Kept.{journal-still, remembers}
use Rattle.noting.proofs.keep.remember.Goals as goal

pub advance-requires : goal.advance-requires
advance-requires c = journal-still c.args.m.now c.args.w.now c.args.journal.now c.requires.0 c.put_next.ensures

pub returns : goal.returns
returns c = remembers c.args.m.now c.args.w.now c.args.journal.now c.requires.0 c.put_next.ensures c.advance.ensures
