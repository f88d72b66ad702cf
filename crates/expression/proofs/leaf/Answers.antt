use Rattle.std.proofs.Common.{◌≡◌, ◌<◌, ◌≤◌, get_or, true, sym, ap, ◌∙◌, arith}
use Rattle.expression.specs.Reader.{numbered}
use Rattle.expression.specs.Values.{values, no_labels}
use Rattle.expression.specs.Labels.{lookup}
use Rattle.expression.proofs.Spans.{first-is, rest-is, empty-first}
use Rattle.expression.proofs.Laws.{leaf-number, leaf-label, leaf-minus, leaf_other, digit-first, no-digit-below, no-digit-past, letter-first, no-letter-below, no-letter-past}
use Rattle.expression.proofs.leaf.Goals.{in_default-via-then-s-lt1, in_default-via-else-s-lt1+in_default+then-s-lt48, in_default-via-else-s-lt1+in_default+else-s-lt48+else-s-lt58+then-s-lt97, in_default-via-else-s-lt1+in_default+else-s-lt48+else-s-lt58+else-s-lt97+else-s-lt123}
use Rattle.expression.proofs.leaf.Goals as goal

pub returns-in-45 : goal.returns-in-45
returns-in-45 c =
    let t = c.args.s.now in
    let e : get_or t 0 0 ≡ 45 = search arith in
    c.number.ensures ∙ ap (numbered (values no_labels) true) (rest-is t) ∙ leaf-minus (lookup c.args.labels.now) t (no-digit-below t (omega (arith, e))) (no-letter-below t (omega (arith, e))) (sym (first-is t) ∙ e)

pub returns-in-48-to-57 : goal.returns-in-48-to-57
returns-in-48-to-57 c = c.number-in-48-to-57.ensures ∙ leaf-number (lookup c.args.labels.now) c.args.s.now (digit-first c.args.s.now (search arith) (search arith))

pub returns-in-97-to-122 : goal.returns-in-97-to-122
returns-in-97-to-122 c = c.label.ensures ∙ leaf-label (lookup c.args.labels.now) c.args.s.now (no-digit-past c.args.s.now (search arith)) (letter-first c.args.s.now (search arith) (search arith))

pub returns-in_default : goal.returns-in_default
returns-in_default c =
    let t = c.args.s.now in
    elim c.in_default.branch [
      | in_default-via-then-s-lt1 w ↦
          let e = empty-first t (search arith) in
          leaf_other (lookup c.args.labels.now) t (no-digit-below t (omega (arith, e))) (no-letter-below t (omega (arith, e))) (λ z. absurd (omega (arith, e, z)))
      | in_default-via-else-s-lt1+in_default+then-s-lt48 w ↦
          let h : get_or t 0 0 < 48 = search arith in
          leaf_other (lookup c.args.labels.now) t (no-digit-below t h) (no-letter-below t (omega (arith, h))) (search arith)
      | in_default-via-else-s-lt1+in_default+else-s-lt48+else-s-lt58+then-s-lt97 w ↦
          let h : 58 ≤ get_or t 0 0 = search arith in
          leaf_other (lookup c.args.labels.now) t (no-digit-past t h) (no-letter-below t (search arith)) (λ z. absurd (omega (arith, h, z)))
      | in_default-via-else-s-lt1+in_default+else-s-lt48+else-s-lt58+else-s-lt97+else-s-lt123 w ↦
          let h : 123 ≤ get_or t 0 0 = search arith in
          leaf_other (lookup c.args.labels.now) t (no-digit-past t (omega (arith, h))) (no-letter-past t h) (λ z. absurd (omega (arith, h, z)))
    ]
