use Rattle.std.proofs.Common.{sym, ap, ◌∙◌, arith, ◌+◌, ℕ}
use Rattle.expression.specs.Labels.{lookup}
use Rattle.line.specs.Code.{line_told}
use Rattle.assembler.proofs.Rows.{less-one, lines-end, lines-none, lines-next, whole-next}
use Rattle.assembler.proofs.Judged.{pass-fails, pass-next, pass-end, count-told, one-or-none}
use Rattle.assembler.proofs.judge.judge.Goals as goal

pub returns-in_default : goal.returns-in_default
returns-in_default c = pass-end (lookup c.args.labels.now) c.loop-k.k c.loop-k.set c.loop-k.verdict _ (lines-none (lookup c.args.labels.now) _ _ c.loop-k.rest.now (less-one c.args.count c.loop-k.k c.loop-k-test.true) c.loop-k.invariant.whole c.in_default.ensures) ∙ c.loop-k.invariant.same

pub returns-then-line_fails : goal.returns-then-line_fails
returns-then-line_fails c = pass-fails (lookup c.args.labels.now) c.loop-k.k c.loop-k.set c.loop-k.verdict _ _ _ (lines-next (lookup c.args.labels.now) _ _ c.loop-k.rest.now c.in-Some.after.now (line_told c.in-Some.line) (less-one c.args.count c.loop-k.k c.loop-k-test.true) c.loop-k.invariant.whole c.in-Some.ensures) (sym c.line_fails.ensures ∙ c.if-line_fails.true) ∙ c.loop-k.invariant.same

pub loop-k-preserved : goal.loop-k-preserved
loop-k-preserved c =
    let e = less-one c.args.count c.loop-k.k c.loop-k-test.true in
    record {
      few = let o = one-or-none c.is_some.result in let f = c.loop-k.invariant.few in omega arith;
      whole = whole-next (lookup c.args.labels.now) _ _ c.loop-k.rest.now c.in-Some.after.now (line_told c.in-Some.line) e c.loop-k.invariant.whole c.in-Some.ensures;
      same = pass-next (lookup c.args.labels.now) c.loop-k.k c.loop-k.set c.loop-k.verdict _ _ (line_told c.in-Some.line) (lines-next (lookup c.args.labels.now) _ _ c.loop-k.rest.now c.in-Some.after.now (line_told c.in-Some.line) e c.loop-k.invariant.whole c.in-Some.ensures) _ c.ruled-verdict.result (sym c.line_fails.ensures ∙ c.if-line_fails.false) (ap (λ (j : ℕ). c.loop-k.set + j) (rw c.is_some.ensures (count-told c.in-Some.line.label))) c.ruled-verdict.ensures ∙ c.loop-k.invariant.same;
    }

pub returns : goal.returns
returns c = pass-end (lookup c.args.labels.now) c.loop-k.k c.loop-k.set c.loop-k.verdict _ (lines-end (lookup c.args.labels.now) _ c.loop-k.rest.now (let h = c.loop-k-test.false in omega arith) c.loop-k.invariant.whole) ∙ c.loop-k.invariant.same
