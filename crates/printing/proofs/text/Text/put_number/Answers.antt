use Rattle.std.proofs.Common.{length, ap, sym, ◌∙◌, refl, [], ◌∷◌, length-append, rules}
use Rattle.printing.specs.Decimal.{decimal}
use Rattle.printing.proofs.Laws.{put_then, minus-text, plus-text}
use Rattle.printing.proofs.text.Text.put_number.Goals as goal
use Rattle.printing.proofs.text.Text.put_number.Goals.{then-is_negative, else-is_negative}

pub push-requires : goal.push-requires
push-requires g c =
    let m = ap length (minus-text (g.V.Number.number c.args.v) _ (sym c.is_negative.ensures ∙ c.if-is_negative.true) refl) in
    search rules

pub put_decimal-requires : goal.put_decimal-requires
put_decimal-requires g c =
    let n = c.magnitude.result in
    elim c.if-is_negative.branch [
      | then-is_negative w ↦
          let m = ap length (minus-text (g.V.Number.number c.args.v) n (sym c.is_negative.ensures ∙ w.if-is_negative.true) c.magnitude.ensures) in
          let l = ap length (w.self-is ∙ w.push.ensures) ∙ length-append c.args.self.now _ in
          search rules
      | else-is_negative w ↦
          let p = ap length (plus-text (g.V.Number.number c.args.v) n (sym c.is_negative.ensures ∙ w.if-is_negative.false) c.magnitude.ensures) in
          search rules
    ]

pub returns : goal.returns
returns g c =
    let n = c.magnitude.result in
    elim c.if-is_negative.branch [
      | then-is_negative w ↦
          let m = minus-text (g.V.Number.number c.args.v) n (sym c.is_negative.ensures ∙ w.if-is_negative.true) c.magnitude.ensures in
          rw m (put_then c.args.self.now (45 ∷ []) (decimal n) (w.self-is ∙ w.push.ensures) c.put_decimal.ensures)
      | else-is_negative w ↦
          let p = plus-text (g.V.Number.number c.args.v) n (sym c.is_negative.ensures ∙ w.if-is_negative.false) c.magnitude.ensures in
          rw (p, ← w.self-is) c.put_decimal.ensures
    ]
