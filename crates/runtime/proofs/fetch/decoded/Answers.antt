use Rattle.std.proofs.Common.{◌≡◌, ◌∙◌, sym, ap, arith, nat_abs, ◌-◌}
use Rattle.std.specs.Prelude.{Option}
use Rattle.word.proofs.Laws.{back}
use Rattle.definition.specs.declared.Instruction.{Instruction}
use Rattle.definition.specs.Encoding.{decode, extract_instruction}
use Rattle.definition.specs.Exec.{ok}
use Rattle.definition.specs.Runtime.{or_instruction}
use Rattle.registers.specs.Meaning.{res_of}
use Rattle.runtime.proofs.Laws.{no_code, is_code, code_of, code_legal, decode_small}
use Rattle.runtime.proofs.fetch.decoded.Goals as goal

pub returns-then-v-lt2-clause-value : goal.returns-then-v-lt2-clause-value
unfolding extract_instruction or_instruction res_of
returns-then-v-lt2-clause-value c = λ d.
    let v = c.args.v in
    sym (ap (λ (x : Option Instruction). or_instruction x d) (no_code v.tag v.first v.second (rw (back v.tag (omega arith)) at c.if-v-lt2.true)))

pub overflow_cast-v : goal.overflow_cast-v
overflow_cast-v c = let v = c.args.v in let b = back v.tag (omega arith) in rw b (code_of v c.requires (rw b at c.if-v-lt2.false)).whole

pub overflow_sub-v : goal.overflow_sub-v
overflow_sub-v c = let v = c.args.v in let b = back v.tag (omega arith) in rw b (code_of v c.requires (rw b at c.if-v-lt2.false)).least

pub decode-requires : goal.decode-requires
decode-requires c =
    let v = c.args.v in
    let b = back v.tag (omega arith) in
    let h = rw b at c.if-v-lt2.false in
    rw b ((code_of v c.requires h).most, code_legal v c.requires h)

-- the cell's numbers are its own
abbrev decode-is : (c : goal.After-decode) → c.decode.result ≡ decode (nat_abs c.args.v.tag - 2) c.args.v.first c.args.v.second
decode-is c = let v = c.args.v in rw (back v.tag (omega arith), back v.first (omega arith), back v.second (omega arith)) at c.decode.ensures

pub returns-clause-value : goal.returns-clause-value
unfolding extract_instruction or_instruction res_of
returns-clause-value c = λ d.
    let v = c.args.v in
    ap (λ (i : Instruction). ok i d) (decode-is c)
    ∙ sym (ap (λ (x : Option Instruction). or_instruction x d) (is_code v.tag v.first v.second (rw (back v.tag (omega arith)) at c.if-v-lt2.false)))

pub returns-clause-cheap : goal.returns-clause-cheap
returns-clause-cheap c = let h = decode_small (nat_abs c.args.v.tag - 2) c.args.v.first c.args.v.second in rw (decode-is c) h
