use Rattle.std.proofs.Common.{◌≡◌, ◌-◌, ◌*◌, ◌/◌, ◌%◌, ap, arith, to_z-of_z}
use Rattle.definition.specs.Encoding.{decode}
use Rattle.encoding.specs.declared.Digits.{Digits}
use Rattle.encoding.proofs.code_of.Goals as goal

pub returns : goal.returns
unfolding decode
returns c =
    let t = c.args.t in
    let tag = c.taken_apart-tag.ensures in
    let r = ap (λ (d : Digits). d.r) tag in
    let e = c.fifth-r1.ensures in
    let r₁ : c.fifth-r1.result ≡ t / 5 % 5 = omega arith in
    let r₂ : t % 25 - 5 * c.fifth-r1.result ≡ t % 5 = omega arith in
    rw (c.op_at.ensures, c.cost_of.ensures, to_z-of_z c.ranges.first, to_z-of_z c.ranges.second, tag, r₂, r₁)
