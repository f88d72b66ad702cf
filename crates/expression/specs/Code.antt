-- What the code's contracts cite. Assumes nothing.
use Rattle.std.specs.Prelude.{◌≡◌, Bool, true, false, cond, List, [], ◌∷◌, ℕ, ◌-◌, pos, ltb, leb, eqb, Option, Some, None}
use Rattle.std.specs.Borrow.{Bor}
use Rattle.std.proofs.Math.Option as M
use Rattle.expression.specs.declared.Value.{Value}
use Rattle.expression.specs.declared.Operator.{Operator}
use Rattle.expression.specs.declared.Operator.TheVariants.{Times, Plus, Minus}
use Rattle.expression.specs.declared.Level as C
use Rattle.expression.specs.declared.Level.TheVariants.{Sum, Product}
unfoldable pub use Rattle.decimal.specs.Decimal.{cap_step, value_of}
pub use Rattle.decimal.specs.Decimal.{limit}
use Rattle.expression.specs.Values.{valued, plus_value, minus_value, times_value}
use Rattle.expression.specs.Reader.{Algebra, Outcome, gives, refused, skip, Level, product_level, sum_level, read_product, read_atom}

-- What a closure answers is what a test does.
abbrev pub Answers : (ℕ → Bool → Type 0) → (ℕ → Bool) → Type 0
Answers post p = (b : ℕ) (r : Bool) → post b r → r ≡ p b

-- What the code read, in the definition's words, and the text after it.
abbrev pub read_as : {X Y : Type 0} → (X → Y) → Option (X × Bor (List ℕ)) → Outcome Y
read_as f (Some p) = gives (f p.0) p.1.now
read_as f None = refused

abbrev pub told : {X : Type 0} → Option (X × Bor (List ℕ)) → Outcome X
told r = read_as (λ x. x) r

abbrev pub name_told : Option (Bor (List ℕ) × Bor (List ℕ)) → Outcome (List ℕ)
name_told r = read_as (λ n. n.now) r

abbrev pub place_found : Option ℕ → M.Option ℕ
place_found (Some k) = M.some k
place_found None = M.none

-- The text after a byte and the spaces after it.
unfoldable pub after : ℕ → List ℕ → Option (List ℕ)
after b [] = None
after b (a ∷ t) = cond (eqb a b) (Some (skip t)) None

-- ---- operators

abbrev pub join_of : Operator → Value → Value → Value
join_of Times x y = times_value x y
join_of Plus x y = plus_value x y
join_of Minus x y = minus_value x y

unfoldable pub operator_of : C.Level → ℕ → Option Operator
operator_of Product b = cond (eqb b 42) (Some Times) None
operator_of Sum b = cond (eqb b 43) (Some Plus) (cond (eqb b 45) (Some Minus) None)

abbrev pub with_rest : {X : Type 0} → Option X → List ℕ → Outcome X
with_rest (Some x) t = gives x t
with_rest None t = refused

-- The operator of a level that a text begins with, and the text after it and spaces.
unfoldable pub operator_at : C.Level → List ℕ → Outcome Operator
operator_at l [] = refused
operator_at l (b ∷ t) = with_rest (operator_of l b) (skip t)

abbrev pub level_of : {X : Type 0} → Algebra X → C.Level → Level X
level_of A Sum = sum_level A
level_of A Product = product_level A

-- What the operators of a level join.
abbrev pub operand_of : {X : Type 0} → Algebra X → C.Level → ℕ → List ℕ → Outcome X
operand_of A Sum d t = read_product A d t
operand_of A Product d t = read_atom A d t

-- ---- magnitudes

-- A magnitude, or 2^63 + 1 where it is larger.
unfoldable pub capped : ℕ → ℕ
capped n = cond (ltb 9223372036854775808 n) 9223372036854775809 n

unfoldable pub cap_decimal : ℕ → List ℕ → ℕ
cap_decimal v [] = v
cap_decimal v (b ∷ s) = cap_decimal (cap_step v (b - 48)) s

unfoldable pub sized_value : Bool → ℕ → Value
sized_value b m = cond (leb m (limit b)) (valued false false (value_of b m)) (valued false true (pos 0))
