-- A text read with values is the text read with trees and then valued. Assumes nothing.
use mathlib.Core.Path.{◌≡◌, refl, ap, ◌∙◌}
use mathlib.Core.List.{List, [], ◌∷◌, map}
use mathlib.Core.Option.{Option}
use Prim.Native.Nat.{ℕ, zero, suc}
use Rattle.expression.specs.declared.Value.{Value}
use Rattle.expression.specs.Grammar.{Expr}
use Rattle.expression.specs.Reader.{Outcome, gives, refused, trees}
use Rattle.expression.specs.Values.{values}
use Rattle.assembly.specs.Grammar.{Line}
use Rattle.assembly.specs.Reader.{row, Text, lines, broken, onto, rows_after, rows}
use Rattle.assembly.specs.Assemble.{line_values}
use Rattle.assembly.proofs.Fused.{outcome_of, row-fused}

unfoldable pub text_of : {X Y : Type 0} → (Line X → Line Y) → Text X → Text Y
text_of f (lines ls) = lines (map f ls)
text_of f (broken k) = broken k

module _ (p : List ℕ → Option ℕ) (d : ℕ) where
  after-fused : (f : List ℕ → Text Expr) (g : List ℕ → Text Value) (o : Outcome (Line Expr)) → ((t : List ℕ) → g t ≡ text_of (line_values p) (f t)) → rows_after g (outcome_of (line_values p) o) ≡ text_of (line_values p) (rows_after f o)
  unfolding rows_after outcome_of text_of onto
  after-fused f g (gives l t) h = go (f t) (g t) (h t)
    where
      go : (x : Text Expr) (y : Text Value) → y ≡ text_of (line_values p) x → onto (line_values p l) y ≡ text_of (line_values p) (onto l x)
      go (lines ls) y e = rw e
      go (broken k) y e = rw e
  after-fused f g refused h = refl

  pub rows-fused : (k : ℕ) (t : List ℕ) → rows (values p) d k t ≡ text_of (line_values p) (rows trees d k t)
  unfolding rows text_of
  rows-fused zero [] = refl
  rows-fused zero (b ∷ t) = refl
  rows-fused (suc k) [] = refl
  rows-fused (suc k) (b ∷ t) =
      ap (rows_after (rows (values p) d k)) (row-fused p d (b ∷ t)) ∙ after-fused (rows trees d k) (rows (values p) d k) (row trees d (b ∷ t)) (rows-fused k)
