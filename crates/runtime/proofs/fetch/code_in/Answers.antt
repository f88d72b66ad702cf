use Rattle.std.proofs.Common.{◌≡◌, ◌∙◌, sym, ap, arith, nat_abs, ◌-◌}
use Rattle.std.specs.Prelude.{Option, Some}
use Rattle.word.proofs.Laws.{back}
use Rattle.definition.specs.declared.Instruction.{Instruction}
use Rattle.definition.specs.Encoding.{decode, extract_instruction}
use Rattle.encoding.specs.Code.{instruction_of}
use Rattle.runtime.proofs.Laws.{no_code, is_code, code_of, code_legal, decode_small}
use Rattle.runtime.proofs.fetch.code_in.Goals as goal

pub returns-then-v-lt2-clause-value : goal.returns-then-v-lt2-clause-value
unfolding extract_instruction
returns-then-v-lt2-clause-value c =
    let v = c.args.v in
    no_code v.tag v.first v.second (rw (back v.tag (omega arith)) at c.if-v-lt2.true)

pub overflow_cast-v : goal.overflow_cast-v
overflow_cast-v c = let v = c.args.v in let b = back v.tag (omega arith) in rw b (code_of v c.requires (rw b at c.if-v-lt2.false)).whole

pub overflow_sub-v : goal.overflow_sub-v
overflow_sub-v c = let v = c.args.v in let b = back v.tag (omega arith) in rw b (code_of v c.requires (rw b at c.if-v-lt2.false)).least

pub code_of-requires : goal.code_of-requires
code_of-requires c =
    let v = c.args.v in
    let b = back v.tag (omega arith) in
    let h = rw b at c.if-v-lt2.false in
    rw b ((code_of v c.requires h).most, code_legal v c.requires h)

-- the cell's numbers are its own
abbrev code-is : (c : goal.After-code_of) → instruction_of c.code_of.result ≡ decode (nat_abs c.args.v.tag - 2) c.args.v.first c.args.v.second
code-is c = let v = c.args.v in rw (back v.tag (omega arith), back v.first (omega arith), back v.second (omega arith)) at c.code_of.ensures

pub returns-clause-value : goal.returns-clause-value
unfolding extract_instruction
returns-clause-value c =
    let v = c.args.v in
    is_code v.tag v.first v.second (rw (back v.tag (omega arith)) at c.if-v-lt2.false) ∙ ap (λ (i : Instruction). Some i) (sym (code-is c))

pub returns-clause-cheap : goal.returns-clause-cheap
returns-clause-cheap c =
    let h = decode_small (nat_abs c.args.v.tag - 2) c.args.v.first c.args.v.second in
    rw (ap (λ (i : Instruction). i.cycles) (code-is c)) h
