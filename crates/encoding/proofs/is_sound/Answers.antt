use Rattle.std.proofs.Common.{false, eqb, ne_eqb, of_z, to_z, w64, SFits, nat_abs, ◌-ℤ◌, ◌≡◌, pos, arith, to_z-of_z, sym, ◌∙◌, rules}
use Rattle.std.proofs.lemmas.Int.{ints}
use Rattle.definition.specs.Encoding.{sound, sound_at}
use Rattle.encoding.proofs.Sound.{zero-test, instruction-sound, past-sound, below-sound}
use Rattle.encoding.proofs.is_sound.Goals as goal

pub returns-then-v-eq0 : goal.returns-then-v-eq0
unfolding sound sound_at
returns-then-v-eq0 c =
    let v = c.args.v in
    let t : v.tag ≡ pos 0 = omega (arith, ints) in
    let f : v.first ≡ pos 0 = omega (arith, ints) in
    rw (t, f) (zero-test v.second (search rules))

pub returns-else-v-eq0 : goal.returns-else-v-eq0
unfolding sound sound_at
returns-else-v-eq0 c =
    let v = c.args.v in
    let t : v.tag ≡ pos 0 = omega (arith, ints) in
    let f : eqb (of_z w64 v.first) 0 ≡ false = ne_eqb _ _ c.if-v-eq0.false in
    rw (t, f, rw f at (sym (zero-test v.first (search rules))))

pub returns-in-1 : goal.returns-in-1
unfolding sound sound_at
returns-in-1 c =
    let v = c.args.v in
    let t : v.tag ≡ pos 1 = omega (arith, ints) in
    rw t (zero-test v.second (search rules))

pub returns-in-2-to-29701 : goal.returns-in-2-to-29701
unfolding sound
returns-in-2-to-29701 c =
    let v = c.args.v in
    let f : SFits w64 v.first = search rules in
    let s : SFits w64 v.second = search rules in
    let k = nat_abs (to_z w64 (of_z w64 (to_z w64 (of_z w64 v.tag) -ℤ pos 2))) in
    rw (to_z-of_z f, to_z-of_z s) at c.sound_instruction.ensures
    ∙ instruction-sound v.tag k v.first v.second (omega (arith, ints))

pub returns-in_default : goal.returns-in_default
unfolding sound
returns-in_default c = let v = c.args.v in below-sound v.tag v.first v.second (omega (arith, ints))

pub returns-in_default-2 : goal.returns-in_default-2
unfolding sound
returns-in_default-2 c = let v = c.args.v in past-sound v.tag v.first v.second (omega (arith, ints))
