use Rattle.std.proofs.Common.{ap, ◌∙◌, length, arith, rules}
use Rattle.word.proofs.Laws.{back}
use Rattle.definition.specs.Encoding.{sound}
use Rattle.listing.specs.Pieces.{instruction}
use Rattle.listing.proofs.Pieces.{plain-text, code-tag, code-legal, code-text}
use Rattle.listing.proofs.cell.put_content.Goals as goal

pub put_word-requires : goal.put_word-requires
unfolding sound
put_word-requires g c = let v = c.args.v in
    let e = ap length (plain-text v.tag v.first v.second c.requires.sound (rw (back v.tag (omega arith)) at c.if-v-lt2.true)) in
    rw (back v.first (omega arith)) (search rules)

pub returns-then-v-lt2 : goal.returns-then-v-lt2
unfolding sound
returns-then-v-lt2 g c = let v = c.args.v in
    rw (plain-text v.tag v.first v.second c.requires.sound (rw (back v.tag (omega arith)) at c.if-v-lt2.true)) (rw (back v.first (omega arith)) at c.put_word.ensures)

pub overflow_cast-t : goal.overflow_cast-t
overflow_cast-t g c = let v = c.args.v in let b = back v.tag (omega arith) in rw b (code-tag v c.requires.sound (rw b at c.if-v-lt2.false)).whole

pub overflow_sub-t : goal.overflow_sub-t
overflow_sub-t g c = let v = c.args.v in let b = back v.tag (omega arith) in rw b (code-tag v c.requires.sound (rw b at c.if-v-lt2.false)).least

pub code_of-requires : goal.code_of-requires
code_of-requires g c = let v = c.args.v in let b = back v.tag (omega arith) in let h = rw b at c.if-v-lt2.false in
    rw b ((code-tag v c.requires.sound h).most, code-legal v c.requires.sound h)

pub put_instruction_of-requires : goal.put_instruction_of-requires
put_instruction_of-requires g c = let v = c.args.v in let b = back v.tag (omega arith) in
    let d = rw (b, back v.first (omega arith), back v.second (omega arith)) at c.code_of.ensures in
    rw (ap instruction d ∙ code-text v c.requires.sound (rw b at c.if-v-lt2.false)) (search rules)

pub returns-else-v-lt2 : goal.returns-else-v-lt2
returns-else-v-lt2 g c = let v = c.args.v in let b = back v.tag (omega arith) in
    let d = rw (b, back v.first (omega arith), back v.second (omega arith)) at c.code_of.ensures in
    rw (ap instruction d ∙ code-text v c.requires.sound (rw b at c.if-v-lt2.false)) at c.put_instruction_of.ensures
