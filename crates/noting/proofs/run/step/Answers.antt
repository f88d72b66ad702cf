use Rattle.noting.proofs.run.step.Goals as goal

pub note-requires-clause-accepted : goal.note-requires-clause-accepted
note-requires-clause-accepted c = (c.args.queue.now, (c.args.output.now, c.requires.accepted))
