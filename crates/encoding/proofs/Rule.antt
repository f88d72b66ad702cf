-- The table's rule: one computed test, and the law that turns it into the rule at each entry.
use mathlib.Core.Path.{◌≡◌, refl, sym, ◌∙◌, ap}
use mathlib.Core.Bool.{Bool, true, false, cond, ◌&&◌, true≢false}
use mathlib.Core.List.{List, [], ◌∷◌}
use Prim.Native.Nat.{ℕ, zero, suc, ◌+◌, ◌*◌, ◌/◌, ◌%◌, ◌<◌, ◌≤◌}
use native.Mathlib.Omega.{arith}
use lib.Dec.{ltb, eqb}
use lib.ListN.{length, get_or}
use borrow.Author.Tests.{eqb-true, lt-ltb}
use Rattle.definition.specs.Arguments.{mode_cost}
use Rattle.definition.specs.Encoding.{legal, cost, allows, signature, op_at}
use Rattle.encoding.specs.Table.{cost_table}
use Rattle.encoding.specs.Forms.{operations, has, worked_legal, worked_cost}

-- Each number of the list is what f gives at its place, counted from k.
abbrev follows : (ℕ → ℕ) → ℕ → List ℕ → Bool
follows f k [] = true
follows f k (x ∷ l) = eqb x (f k) && follows f (suc k) l

pub both : (a b : Bool) → (a && b) ≡ true → (a ≡ true) × (b ≡ true)
both true b h = (refl, h)
both false b h = absurd (true≢false (sym h))

follows-at : (f : ℕ → ℕ) (k : ℕ) (l : List ℕ) → follows f k l ≡ true → (i : ℕ) → i < length l → get_or l i 0 ≡ f (k + i)
follows-at f k [] h i hi = absurd (omega arith)
follows-at f k (x ∷ l) h zero hi =
    let e : k ≡ k + 0 = omega arith in
    eqb-true x (f k) (both (eqb x (f k)) (follows f (suc k) l) h).0 ∙ ap f e
follows-at f k (x ∷ l) h (suc i) hi =
    let e : suc k + i ≡ k + suc i = omega arith in
    follows-at f (suc k) l (both (eqb x (f k)) (follows f (suc k) l) h).1 i (omega arith) ∙ ap f e

ruled : ℕ → ℕ
ruled k = cost (k / 36) (k / 6 % 6) (k % 6)

-- the computed test
right : follows ruled 0 cost_table ≡ true
unfolding ruled cost_table cost legal allows signature op_at mode_cost
right = refl

entries : length cost_table ≡ 1188
unfolding cost_table
entries = refl

pub rule : (k : ℕ) → k < 1188 → get_or cost_table k 0 ≡ cost (k / 36) (k / 6 % 6) (k % 6)
unfolding ruled
rule k h =
    let e : 0 + k ≡ k = omega arith in
    follows-at ruled 0 cost_table right k (omega (arith, entries)) ∙ ap ruled e

-- ---- the numbers of Forms

worked : ℕ → ℕ
worked k = worked_cost (k / 36) (k / 6 % 6) (k % 6)

-- "It is proved to be the old entry for each of the 1,188": the computed test
same : follows worked 0 cost_table ≡ true
unfolding worked worked_cost worked_legal has operations mode_cost cost_table
same = refl

pub old-entry : (k : ℕ) → k < 1188 → get_or cost_table k 0 ≡ worked_cost (k / 36) (k / 6 % 6) (k % 6)
unfolding worked
old-entry k h =
    let e : 0 + k ≡ k = omega arith in
    follows-at worked 0 cost_table same k (omega (arith, entries)) ∙ ap worked e

-- The same of an operation and its modes.
pub cost-worked : (o m₁ m₂ : ℕ) → o < 33 → m₁ < 6 → m₂ < 6 → worked_cost o m₁ m₂ ≡ cost o m₁ m₂
cost-worked o m₁ m₂ ho h₁ h₂ =
    let k = o * 36 + m₁ * 6 + m₂ in
    let l : o * 36 + m₁ * 6 + m₂ < 1188 = omega arith in
    let a : (o * 36 + m₁ * 6 + m₂) / 36 ≡ o = omega arith in
    let b : (o * 36 + m₁ * 6 + m₂) / 6 % 6 ≡ m₁ = omega arith in
    let d : (o * 36 + m₁ * 6 + m₂) % 6 ≡ m₂ = omega arith in
    rw (a, b, d) at (sym (old-entry k l) ∙ rule k l)

-- A cost is 0 where there is no instruction, and only there.
positive : (b : Bool) (x y : ℕ) → ltb 0 (cond b (1 + x + y) 0) ≡ b
positive true x y = lt-ltb 0 (1 + x + y) (omega arith)
positive false x y = refl

pub legal_worked : (o m₁ m₂ : ℕ) → o < 33 → m₁ < 6 → m₂ < 6 → worked_legal o m₁ m₂ ≡ legal o m₁ m₂
unfolding cost worked_cost
legal_worked o m₁ m₂ ho h₁ h₂ =
    sym (positive (worked_legal o m₁ m₂) (mode_cost m₁) (mode_cost m₂)) ∙ ap (ltb 0) (cost-worked o m₁ m₂ ho h₁ h₂) ∙ positive (legal o m₁ m₂) (mode_cost m₁) (mode_cost m₂)

-- ---- what the code's leaves need

pub mode_small : (m : ℕ) → mode_cost m ≤ 1
unfolding mode_cost
mode_small zero = omega arith
mode_small (suc zero) = omega arith
mode_small (suc (suc zero)) = omega arith
mode_small (suc (suc (suc zero))) = omega arith
mode_small (suc (suc (suc (suc zero)))) = omega arith
mode_small (suc (suc (suc (suc (suc zero))))) = omega arith
mode_small (suc (suc (suc (suc (suc (suc m)))))) = omega arith

pub cost_legal : (o m₁ m₂ : ℕ) → legal o m₁ m₂ ≡ true → 1 + mode_cost m₁ + mode_cost m₂ ≡ cost o m₁ m₂
unfolding cost
cost_legal o m₁ m₂ h = rw h
