use Rattle.std.proofs.Common.{◌∙◌, sym, ap, arith}
use Rattle.definition.specs.Encoding.{sound}
use Rattle.computer.specs.Meaning.{no_instruction, full}
use Rattle.computer.proofs.Laws.{got, fetched_code}
use Rattle.computer.proofs.usual.usual.Goals as goal

pub code_in-requires : goal.code_in-requires
code_in-requires c = let h = got _ _ _ c.in-Some.ensures in ap sound h.1 ∙ c.requires _ h.0

pub returns-then-has_room-clause-usual : goal.returns-then-has_room-clause-usual
returns-then-has_room-clause-usual c =
    let h = got _ _ _ c.in-Some.ensures in
    record {
      fetched = fetched_code _ _ _ _ c.in-Some.ensures c.in-Some-code_in.ensures.value;
      inside = h.0;
      cheap = c.in-Some-code_in.ensures.cheap;
      far = omega arith;
      room = c.has_room.ensures.room c.if-has_room.true;
    }

pub returns-in_default-code_in-clause-unusual : goal.returns-in_default-code_in-clause-unusual
returns-in_default-code_in-clause-unusual c = no_instruction _ (sym c.in-Some.ensures) c.in_default-code_in.ensures.value

pub returns-else-has_room-clause-unusual : goal.returns-else-has_room-clause-unusual
returns-else-has_room-clause-unusual c =
    let f = c.has_room.ensures.full c.if-has_room.false in
    full _ _ (sym c.in-Some.ensures) c.in-Some-code_in.ensures.value f.0 f.1
