use Rattle.std.proofs.Common.{[], sym, refl, ◌∙◌, arith}
use Rattle.console.specs.Meaning.{console_of}
use Rattle.memory.specs.Overlay.{overlay}
use Rattle.word.proofs.Laws.{back}
use Rattle.definition.specs.Runtime.{ends}
use Rattle.runtime.proofs.Served.{served_full, served_set, served_write, has_room}
use Rattle.runtime.proofs.turn.serve_write.Goals as goal

pub returns-then-output_full-clause-value : goal.returns-then-output_full-clause-value
unfolding overlay ends
returns-then-output_full-clause-value c = λ l q. rw c.none.ensures (served_full _ _ _ _ _ (sym (c.if-output_full.ensures q _ refl)))

pub returns-then-port-eq-INTERVAL_PORT-clause-value : goal.returns-then-port-eq-INTERVAL_PORT-clause-value
returns-then-port-eq-INTERVAL_PORT-clause-value c = λ l q.
    c.poll.ensures.value l q c.args.output.now c.args.m.now
    ∙ rw (c.set.ensures, c.requires.planned, back c.args.w (omega arith)) (served_set _ _ _ _ _ (sym (c.if-output_full.ensures q _ refl)) c.if-port-eq-INTERVAL_PORT.true)

pub returns-clause-value : goal.returns-clause-value
returns-clause-value c = λ l q.
    let z = c.requires.planned in
    let e = rw (z, back c.args.w (omega arith)) at (c.write_port-f.ensures.is q c.args.output.now) in
    c.conclude.ensures.value l q c.args.output.now c.args.m.now
    ∙ rw z (served_write _ _ _ _ _ _ (sym (c.if-output_full.ensures q _ refl)) c.if-port-eq-INTERVAL_PORT.false e)

pub returns-clause-room : goal.returns-clause-room
returns-clause-room c = λ b e.
    has_room c.args.port (console_of c.args.m.now.k [] c.args.output.now) (c.write_port-f.ensures.port_is b (sym c.conclude.ensures.byte ∙ e)) (sym (c.if-output_full.ensures [] _ refl))
