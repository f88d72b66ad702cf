-- A comparison of machines finds nothing exactly where they are the same. Assumes nothing.
use Rattle.std.proofs.Common.{◌≡◌, refl, sym, ap, Bool, true, false, true≢false, ℕ, nat_eq, List, Ok}
use Rattle.std.specs.Bool.{Decides}
use Rattle.std.specs.Cmp.Rules.{signed_items}
use Rattle.std.proofs.lemmas.Bool.Decides.{Decides-eqb}
use Rattle.std.proofs.lemmas.Slice.Eq.{slice_eq-Decides}
use lib.Pointwise.{pointwise}
use Rattle.recorded.specs.declared.compare.Fault.{Fault}
use Rattle.recorded.specs.declared.machine.Machine.{Machine}
use Rattle.recorded.specs.Compare.{Verdict, Exactly, unless, left_fault}

-- the comparison of a part, and what is found after it
and_exactly : {P Q : Type 0} (b : Bool) (f : Fault) (r : Verdict) → Decides b P → Exactly Q r → Exactly (P × Q) (unless b f r)
and_exactly true f r d x = ((λ e. (d.0 refl, x.0 e)), λ p. x.1 p.1)
and_exactly false f r d x = ((λ e. absurd (cc)), λ p. absurd (true≢false (sym (d.1 p.0))))

last_exactly : {P : Type 0} (b : Bool) (f : Fault) → Decides b P → Exactly P (unless b f (Ok tt))
last_exactly true f d = ((λ e. d.0 refl), λ p. refl)
last_exactly false f d = ((λ e. absurd (cc)), λ p. absurd (true≢false (sym (d.1 p))))

bytes : (xs ys : List ℕ) → Decides (pointwise nat_eq xs ys) (xs ≡ ys)
bytes xs ys = slice_eq-Decides Decides-eqb xs ys (pointwise nat_eq xs ys) refl

pub left_exactly : (m d : Machine) {r : Verdict} → r ≡ left_fault m d → Exactly (m ≡ d) r
unfolding left_fault
left_exactly m d e = rw e (both.0, both.1)
  where
    parts : Exactly ((m.row ≡ d.row) × ((m.cells ≡ d.cells) × ((m.queue ≡ d.queue) × ((m.output ≡ d.output) × (m.buffer ≡ d.buffer))))) (left_fault m d)
    parts = and_exactly _ _ _ (signed_items m.row d.row) (and_exactly _ _ _ (signed_items m.cells d.cells) (and_exactly _ _ _ (bytes m.queue d.queue) (and_exactly _ _ _ (bytes m.output d.output) (last_exactly _ _ (bytes m.buffer d.buffer)))))

    both : Exactly (m ≡ d) (left_fault m d)
    both = ((λ h. let p = parts.0 h in λ i. record { cells = p.1.0 i; queue = p.1.1.0 i; output = p.1.1.1.0 i; row = p.0 i; buffer = p.1.1.1.1 i }), λ h. parts.1 (ap (λ (x : Machine). x.row) h, (ap (λ (x : Machine). x.cells) h, (ap (λ (x : Machine). x.queue) h, (ap (λ (x : Machine). x.output) h, ap (λ (x : Machine). x.buffer) h)))))
