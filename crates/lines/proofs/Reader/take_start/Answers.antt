use Rattle.std.proofs.Common.{◌≡◌, ◌∙◌, sym, rules, true}
use Rattle.definition.specs.Word.{address_of}
use Rattle.definition.specs.Encoding.{is_address}
use Rattle.word.proofs.Laws.{back}
use Rattle.lines.specs.Reader.{start_line, next}
use Rattle.lines.proofs.Reader.take_start.Goals as goal

pub returns-then-is_address-2 : goal.returns-then-is_address-2
unfolding start_line next
returns-then-is_address-2 c = let l = c.args.self.now.last in
    let w = c.value-sr in
    let y = back l.y (search rules) in
    let z = back l.z (search rules) in
    let ey : is_address (address_of l.y) ≡ true = rw y at (sym c.is_address.ensures ∙ c.if-is_address.true) in
    let ez : is_address (address_of l.z) ≡ true = rw z at (sym c.is_address-then-is_address.ensures ∙ c.if-is_address-2.true) in
    rw (c.next_line.ensures, y, z, back w.result w.type_inv, w.ensures, ey, ez)
