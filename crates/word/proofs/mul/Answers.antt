use Rattle.std.proofs.Common.{◌≡◌, ℕ, ◌*◌, ◌%◌, ◌^◌, ◌*ℤ◌, nat_abs, ap, ◌∙◌, ap₂, to_z-of_z, w64, to_z, of_z}
use Rattle.definition.specs.Word.{bits, wrap}
use Rattle.definition.proofs.Bits.{bits-of_z}
use Rattle.definition.proofs.Words.{wrapped-by}
use Rattle.word.proofs.Laws.{back, differ, limit-fits, mul-bits, mul-over}
use Rattle.word.proofs.mul.Goals as goal

pub overflow_add-limit : goal.overflow_add-limit
overflow_add-limit c =
    let s = c in
    rw (to_z-of_z s.ranges.a, to_z-of_z s.ranges.b) (limit-fits (differ s.args.a s.args.b))

pub returns : goal.returns
unfolding wrap
returns c =
    let t = c in
    let s = t in
    let fa = s.ranges.a in
    let fb = s.ranges.b in
    let x : t.to_bits.result ≡ of_z w64 s.args.a = t.to_bits.ensures ∙ ap bits (to_z-of_z fa) ∙ bits-of_z s.args.a fa in
    let y : t.to_bits-2.result ≡ of_z w64 s.args.b = t.to_bits-2.ensures ∙ ap bits (to_z-of_z fb) ∙ bits-of_z s.args.b fb in
    let e : t.of_bits-p.result ≡ wrap (s.args.a *ℤ s.args.b) =
    t.of_bits-p.ensures ∙ ap (to_z w64) (t.wrapping_mul.ensures ∙ ap₂ (λ (m n : ℕ). (m * n) % 2 ^ 64) x y ∙ mul-bits s.args.a s.args.b fa fb) in
    let m : c.magnitude.result ≡ nat_abs s.args.a = c.magnitude.ensures ∙ ap nat_abs (to_z-of_z fa) in
    let n : c.magnitude-2.result ≡ nat_abs s.args.b = c.magnitude-2.ensures ∙ ap nat_abs (to_z-of_z fb) in
    rw (back t.of_bits-p.result t.of_bits-p.type_inv, e, c.above.ensures, to_z-of_z fa, to_z-of_z fb, m, n) (wrapped-by (s.args.a *ℤ s.args.b) (mul-over s.args.a s.args.b))
