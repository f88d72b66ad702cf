use mathlib.Core.Path.{sym, ◌∙◌, ap}
use Rattle.word.proofs.Laws.{back}
use Rattle.definition.specs.Word.{address_of}
use Rattle.definition.specs.Memory.{as_address}
use native.Mathlib.Omega.{arith}
use Rattle.memory.proofs.as_address.Goals as goal

pub returns-in-Is : goal.returns-in-Is
unfolding as_address
returns-in-Is c =
    let at-known-told = c in
    let at-w = at-known-told in
    let w = at-w.in-Is.w in rw (back w (omega arith)) at c.to_address.ensures ∙ ap as_address (sym at-w.in-Is.is)

pub returns-in-Empty : goal.returns-in-Empty
unfolding as_address address_of
returns-in-Empty c = ap as_address (sym c.in-Empty.is)

pub returns-in-NotWord : goal.returns-in-NotWord
unfolding as_address
returns-in-NotWord c = ap as_address (sym c.in-NotWord.is)
