-- "Budgets that add" (document 02, Card 12): "Paused runs must get the same mark." Said of the call of run; the proof is proofs/Budgets.
use Rattle.std.specs.Prelude.{◌≡◌, ◌≢◌, cond, ℕ, ◌+◌, eqb}
use mathlib.Core.List.{List, [], ◌∷◌, foldr}
use Rattle.definition.specs.declared.Ran.{Ran}
use Rattle.definition.specs.Total.{total}
use Rattle.definition.specs.Exception.{BUDGET-SPENT}
use Rattle.definition.specs.Calls.{Lent, Called, called, done, answer, run_call}

-- A call of run behind another, which answered a: its machine, stop and detail, "and summed counts"; "a sum of empty reads stops at its
-- largest number too".
abbrev pub later_call : Ran → Called Ran Lent → Called Ran Lent
later_call a c =
    called (answer (done c.answer.refusal c.answer.place) c.answer.stop c.answer.detail (a.steps + c.answer.steps) (total a.empty c.answer.empty)) c.left

pub record Adds (m n : ℕ) (l : Lent) : Type 0 where
  -- "running m steps and, if that ended with stop 0, then n steps, with nothing between, gives the machine, stop, detail and summed counts of
  -- one run of m + n". So "a run on a larger budget passes through the machine that each smaller one leaves".
  pub through : (run_call m l).answer.stop ≡ BUDGET-SPENT → later_call (run_call m l).answer (run_call n (run_call m l).left) ≡ run_call (m + n) l
  -- "If the first run stopped otherwise, the long run gives that same result."
  pub ended : (run_call m l).answer.stop ≢ BUDGET-SPENT → run_call m l ≡ run_call (m + n) l

-- A run on m and then, one behind the other, on each budget of a list, until one does not end with stop 0.
unfoldable pub in_turn : ℕ → List ℕ → Lent → Called Ran Lent
in_turn m [] l = run_call m l
in_turn m (n ∷ ns) l =
    let c = run_call m l in
    cond (eqb c.answer.stop BUDGET-SPENT) (later_call c.answer (in_turn n ns c.left)) c

-- Of all budgets, so of those "where m + n fits the budget", and of all that is lent, refused or not.
pub record BudgetsAdd : Type 0 where
  pub two : (m n : ℕ) (l : Lent) → Adds m n l
  -- However often a run is paused, it is one run on the sum.
  pub all : (m : ℕ) (ns : List ℕ) (l : Lent) → in_turn m ns l ≡ run_call (m + foldr ◌+◌ 0 ns) l
