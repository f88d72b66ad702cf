use Rattle.std.proofs.Common.{to_z-of_z, eqb, pos}
use Rattle.definition.specs.Word.{eq_z}
use Rattle.definition.specs.Encoding.{number_fits}
use Rattle.encoding.proofs.Sound.{zero-test, fits-at-once, fits-as-address}
use Rattle.encoding.proofs.number_fits.Goals as goal

pub returns-then-w-m : goal.returns-then-w-m
unfolding number_fits
returns-then-w-m c = let a = c.args in
    fits-at-once (eq_z a.w (pos 0)) (eqb a.m 1) (eqb a.m 5) _ (rw (zero-test a.w c.ranges.w) at c.if-w-m.true)

pub returns : goal.returns
unfolding number_fits
returns c = let a = c.args in
    rw (rw (to_z-of_z c.ranges.w) at c.is_address.ensures) (fits-as-address (eq_z a.w (pos 0)) (eqb a.m 1) (eqb a.m 5) _ (rw (zero-test a.w c.ranges.w) at c.if-w-m.false))
