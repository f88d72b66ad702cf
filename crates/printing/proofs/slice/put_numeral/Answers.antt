use Rattle.std.proofs.Common.{[], ◌∷◌, length, take, ap, sym, ◌∙◌, arith}
use mir.Facts.{to_z-of_z}
use Rattle.printing.specs.Decimal.{decimal}
use Rattle.printing.proofs.Laws.{put_then, kept_then, minus-text, plus-text}
use Rattle.printing.proofs.slice.put_numeral.Goals as goal

pub put_byte-behind-requires : goal.put_byte-behind-requires
put_byte-behind-requires c =
    let f = to_z-of_z c.ranges.v in
    let m = ap length (minus-text c.args.v c.magnitude-n.result (rw f at (sym c.is_negative.ensures ∙ c.if-is_negative.true)) (rw f at c.magnitude-n.ensures)) in
    omega arith

pub put_decimal-requires : goal.put_decimal-requires
put_decimal-requires c =
    let f = to_z-of_z c.ranges.v in
    let m = ap length (minus-text c.args.v c.magnitude-n.result (rw f at (sym c.is_negative.ensures ∙ c.if-is_negative.true)) (rw f at c.magnitude-n.ensures)) in
    omega arith

pub returns-then-is_negative : goal.returns-then-is_negative
returns-then-is_negative c =
    let f = to_z-of_z c.ranges.v in
    let a = c.args in
    let n = c.magnitude-n.result in
    let b = c.put_byte-behind in
    let d = c.put_decimal in
    let m = minus-text a.v n (rw f at (sym c.is_negative.ensures ∙ c.if-is_negative.true)) (rw f at c.magnitude-n.ensures) in
    rw m record {
      out_after = put_then (take a.at a.out.now) (45 ∷ []) (decimal n) b.ensures.out_after d.ensures.out_after;
      value = omega arith;
      out_unchanged = kept_then a.out.now b.new.out d.new.out b.result d.result (omega arith) b.ensures.out_unchanged d.ensures.out_unchanged;
    }

pub put_decimal-requires-2 : goal.put_decimal-requires-2
put_decimal-requires-2 c =
    let f = to_z-of_z c.ranges.v in
    let p = plus-text c.args.v c.magnitude-n.result (rw f at (sym c.is_negative.ensures ∙ c.if-is_negative.false)) (rw f at c.magnitude-n.ensures) in
    rw p at c.requires

pub returns : goal.returns
returns c =
    let f = to_z-of_z c.ranges.v in
    let p = plus-text c.args.v c.magnitude-n.result (rw f at (sym c.is_negative.ensures ∙ c.if-is_negative.false)) (rw f at c.magnitude-n.ensures) in
    rw p c.put_decimal-2.ensures
