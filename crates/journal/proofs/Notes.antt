-- Which steps are noted.
use mathlib.Core.Path.{◌≡◌, ap, ◌∙◌}
use mathlib.Core.Logic.{◌≢◌}
use mathlib.Core.Bool.{Bool, true, cond}
use mathlib.Core.List.{List}
use lib.IntN.{ℤ}
use native.Mathlib.Omega.{arith}
use Rattle.definition.specs.declared.Stop.{Stop}
use Rattle.definition.specs.declared.Stop.TheVariants.{OutputFull, CyclesFull}
use Rattle.definition.specs.Exception.{stop_number}
use Rattle.definition.specs.Runtime.{Machine, Outcome}
use Rattle.journal.specs.Journal.{remember, begins, begun, step_record, noted}
use Rattle.journal.specs.StepBack.{Notes}

begins-others : (s : Stop) → s ≢ OutputFull → s ≢ CyclesFull → begins (stop_number s) ≡ true
unfolding begins
begins-others s a b = grind arith

pub notes : (m : Machine) (j : List ℤ) → Notes m j
unfolding noted begun begins
notes m j =
    let by : Outcome → List ℤ = λ (o : Outcome). cond (begun o) (remember (step_record m) j) j in
    record {
      completes = λ w e. ap by e;
      stops = λ s w e a b. ap by e ∙ ap (λ (t : Bool). cond t (remember (step_record m) j) j) (begins-others s a b);
      stop_6 = λ w e. ap by e;
      stop_7 = λ w e. ap by e;
    }
