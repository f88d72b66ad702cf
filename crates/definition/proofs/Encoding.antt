-- The 124 legal forms counted, and a tag against its parts.
use mathlib.Core.Path.{◌≡◌, ap, ◌∙◌}
use Prim.Native.Nat.{ℕ, ◌+◌, ◌*◌, ◌/◌, ◌%◌, ◌<◌}
use native.Mathlib.Omega.{arith}
use Rattle.definition.specs.Encoding.{op_at, allows, signature, legal, sum_below, Forms, tag_of, op_number, mode₁, mode₂, reg₁, reg₂, TagParts, TagLaws}

-- one computed test
pub forms : Forms
unfolding sum_below legal op_at allows signature
forms = omega arith

tag-parts : (o m₁ m₂ r₁ r₂ t : ℕ) → o < 33 → m₁ < 6 → m₂ < 6 → r₁ < 5 → r₂ < 5 → tag_of o m₁ m₂ r₁ r₂ ≡ 2 + t → TagParts o m₁ m₂ r₁ r₂ t
tag-parts o m₁ m₂ r₁ r₂ t ho h₁ h₂ k₁ k₂ e =
    let p : t / 900 ≡ o = omega arith in
    let q : t / 150 ≡ o * 6 + m₁ = omega arith in
    let r : t / 25 ≡ (o * 6 + m₁) * 6 + m₂ = omega arith in
    let u : t / 5 ≡ ((o * 6 + m₁) * 6 + m₂) * 5 + r₁ = omega arith in
    record {
      op = p;
      first_mode = ap (λ x. x % 6) q ∙ omega arith;
      second_mode = ap (λ x. x % 6) r ∙ omega arith;
      first_register = ap (λ x. x % 5) u ∙ omega arith;
      second_register = omega arith;
    }

tag_back : (t : ℕ) → tag_of (op_number t) (mode₁ t) (mode₂ t) (reg₁ t) (reg₂ t) ≡ 2 + t
tag_back t =
    let p : t / 150 ≡ 6 * (t / 900) + t / 150 % 6 = (let h : t / 150 / 6 ≡ t / 900 = omega arith in omega arith) in
    let q : t / 25 ≡ 6 * (t / 150) + t / 25 % 6 = (let h : t / 25 / 6 ≡ t / 150 = omega arith in omega arith) in
    let r : t / 5 ≡ 5 * (t / 25) + t / 5 % 5 = (let h : t / 5 / 5 ≡ t / 25 = omega arith in omega arith) in
    let u : t ≡ 5 * (t / 5) + t % 5 = omega arith in
    omega arith

pub tag-laws : TagLaws
tag-laws =
    record {
      parts = tag-parts;
      back = tag_back;
      op_below = λ t h. omega arith;
      modes_below = λ t. (omega arith, omega arith);
      registers_below = λ t. (omega arith, omega arith);
    }
