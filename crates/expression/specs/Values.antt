-- The values of constant expressions: "each operation must stay within 64 bits".
use Rattle.std.specs.Prelude.{Bool, true, false, cond, ◌||◌, List, ℕ, ℤ, pos, ◌+ℤ◌, ◌-ℤ◌, ◌*ℤ◌}
use Rattle.std.proofs.Math.Option.{Option, some, none}
use Rattle.definition.specs.declared.Wrapped.{Wrapped}
use Rattle.definition.specs.Word.{is_word, wrapped}
use Rattle.expression.specs.declared.Value.{Value}
use Rattle.expression.specs.Grammar.{Expr, Number, Label, Plus, Minus, Times}
use Rattle.expression.specs.Reader.{Algebra, Outcome, gives, refused}

abbrev pub valued : Bool → Bool → ℤ → Value
valued m o z = record { missing = m; overflow = o; value = z }

-- A number; one that is no word is told by its overflow.
unfoldable pub number_value : ℤ → Value
number_value z = cond (is_word z) (valued false false z) (valued false true (pos 0))

-- The cell that a label means, if a line sets it.
unfoldable pub place_value : Option ℕ → Value
place_value none = valued true false (pos 0)
place_value (some k) = number_value (pos k)

unfoldable pub label_value : (List ℕ → Option ℕ) → List ℕ → Value
label_value p s = place_value (p s)

abbrev pub no_labels : List ℕ → Option ℕ
no_labels n = none

-- A value misses what one of its parts misses, and is out of range where one of them or the result is.
abbrev pub joined : Value → Value → Wrapped → Value
joined x y w = valued (x.missing || y.missing) (x.overflow || (y.overflow || w.overflow)) w.value

unfoldable pub plus_value : Value → Value → Value
plus_value x y = joined x y (wrapped (x.value +ℤ y.value))

unfoldable pub minus_value : Value → Value → Value
minus_value x y = joined x y (wrapped (x.value -ℤ y.value))

unfoldable pub times_value : Value → Value → Value
times_value x y = joined x y (wrapped (x.value *ℤ y.value))

abbrev pub values : (List ℕ → Option ℕ) → Algebra Value
values p = record { number = number_value; label = label_value p; plus = plus_value; minus = minus_value; times = times_value }

unfoldable pub eval : (List ℕ → Option ℕ) → Expr → Value
eval p (Number z) = number_value z
eval p (Label s) = label_value p s
eval p (Plus a b) = plus_value (eval p a) (eval p b)
eval p (Minus a b) = minus_value (eval p a) (eval p b)
eval p (Times a b) = times_value (eval p a) (eval p b)

-- The values of what was read.
unfoldable pub evaluated : (List ℕ → Option ℕ) → Outcome Expr → Outcome Value
evaluated p (gives e t) = gives (eval p e) t
evaluated p refused = refused
