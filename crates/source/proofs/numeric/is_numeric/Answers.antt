use Rattle.std.proofs.Common.{◌≡◌, ap, sym, ◌∙◌, ◌-◌, ◌+◌, eq-eqb, ne_eqb, arith}
use Rattle.expression.specs.Reader.{head}
use Rattle.source.specs.Source.{numeric_from}
use Rattle.source.proofs.Fronts.{first_is, rest_is, head_none}
use Rattle.source.proofs.Laws.{numeric-more, numeric-none, numeric-end}
use Rattle.source.proofs.numeric.is_numeric.Goals as goal

pub loop-comma-init : goal.loop-comma-init
loop-comma-init c = ap (numeric_from 3) c.skip_number-rest.ensures

pub returns-in_default : goal.returns-in_default
returns-in_default c = let l = c.loop-comma in
    let h = head_none l.rest.now (omega arith) in
    sym (numeric-none (3 - l._comma) l.rest.now (omega arith) (λ e. omega arith)) ∙ l.invariant

pub returns-in_default-2 : goal.returns-in_default-2
returns-in_default-2 c = let l = c.loop-comma in
    let h = first_is l.rest.now in
    sym (numeric-none (3 - l._comma) l.rest.now (omega arith) (λ e. omega arith)) ∙ l.invariant

pub loop-comma-preserved : goal.loop-comma-preserved
loop-comma-preserved c = let l = c.loop-comma in
    let r = l.rest.now in
    let k = l._comma in
    let f = first_is r in
    let h : head r ≡ 44 = omega arith in
    let e : 3 - (k + 1) ≡ 3 - k - 1 = omega arith in
    rw (e, c.skip_number-rest-in-loop-comma.ensures, rest_is) (sym (numeric-more (3 - k) r (omega arith) h) ∙ l.invariant)

pub returns-in-10 : goal.returns-in-10
returns-in-10 c = let l = c.loop-comma in
    let f = first_is l.rest.now in
    sym (numeric-end (3 - l._comma) l.rest.now (omega arith) ∙ eq-eqb _ 10 (omega arith)) ∙ l.invariant

pub returns-in_default-matches : goal.returns-in_default-matches
returns-in_default-matches c = let l = c.loop-comma in
    let h = head_none l.rest.now (omega arith) in
    sym (numeric-end (3 - l._comma) l.rest.now (omega arith) ∙ ne_eqb _ 10 (λ e. omega arith)) ∙ l.invariant

pub returns-in_default-matches-2 : goal.returns-in_default-matches-2
returns-in_default-matches-2 c = let l = c.loop-comma in
    let f = first_is l.rest.now in
    sym (numeric-end (3 - l._comma) l.rest.now (omega arith) ∙ ne_eqb _ 10 (λ e. omega arith)) ∙ l.invariant
