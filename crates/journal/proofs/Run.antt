-- What a loop over steps needs of the journal: that it stays a journal of the same length.
use mathlib.Core.Path.{◌≡◌, refl, sym, ap, ◌∙◌}
use mathlib.Core.Bool.{Bool, true, false, cond}
use mathlib.Core.List.{List}
use Prim.Native.Nat.{ℕ, ◌+◌, ◌*◌}
use lib.IntN.{ℤ}
use lib.ListN.{length}
use Rattle.definition.specs.Runtime.{Machine, step}
use Rattle.journal.specs.Journal.{records, remember, begun, step_record, noted}
use Rattle.journal.proofs.Ring.{JournalIn, remembered}
use Rattle.journal.proofs.Unwind.{step-long}

pub record Stays (j k : List ℤ) : Type 0 where
  pub good : JournalIn k
  pub size : length k ≡ length j

pub noted-stays : (m : Machine) (j : List ℤ) → JournalIn j → Stays j (noted m j)
unfolding noted
noted-stays m j J = go (begun (step m))
  where
    go : (b : Bool) → Stays j (cond b (remember (step_record m) j) j)
    go true =
        let r = remembered j (step_record m) J (step-long m) in
        let a : length (remember (step_record m) j) ≡ 2 + 37 * records (remember (step_record m) j) = r.good.long in
        let s : records (remember (step_record m) j) ≡ records j = r.size in
        let l : length j ≡ 2 + 37 * records j = J.long in
        record { good = r.good; size = a ∙ ap (λ (n : ℕ). 2 + 37 * n) s ∙ sym l }
    go false = record { good = J; size = refl }
