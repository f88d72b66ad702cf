-- What the passes over a text answer, one line at a time.
use Rattle.std.specs.Prelude.{◌≡◌, Bool, true, false, cond, not, ◌||◌, List, [], ◌∷◌, ℕ, suc, ◌+◌, length, leb, eqb, Result, Ok, Err}
use Rattle.std.proofs.Math.Option.{Option, some, none}
use Rattle.definition.specs.declared.answers.Refusal.{Refusal}
use Rattle.definition.specs.declared.answers.Refusal.TheVariants.{Form, Label, Value}
use Rattle.expression.specs.declared.Value as E
use Rattle.expression.specs.declared.labels.Labels.{Labels}
use Rattle.expression.specs.Values.{values}
use Rattle.expression.specs.Table.{setting}
use Rattle.expression.specs.Labels.{held, among, kept, or_else}
use Rattle.assembly.specs.Grammar.{Line}
use Rattle.assembly.specs.Reader.{Text, lines, broken, rows}
use Rattle.assembly.specs.Assemble.{misses, exceeds}

-- ---- 13: how many lines stand in order, after k before them, or the first that does not

unfoldable pub shape : {X : Type 0} → ℕ → Text X → Result ℕ Refusal
shape k (lines ls) = Ok (k + length ls)
shape k (broken j) = Err (Form (suc (k + j)))

-- ---- the table of labels

-- The table after the lines before a text t, which is numbered k in a text s.
pub record Collected (s : List ℕ) (T : Labels) (t : List ℕ) (k : ℕ) : Type 0 where
  pub guessed : (n : List ℕ) → kept T n ≡ among (held T) n
  pub found : (n : List ℕ) → or_else (kept T n) (setting t k n) ≡ setting s 0 n

-- ---- 14 and 15

-- The lines of a text that is whole.
unfoldable pub lines_of : {X : Type 0} → Text X → List (Line X)
lines_of (lines ls) = ls
lines_of (broken k) = []

unfoldable pub is_whole : {X : Type 0} → Text X → Bool
is_whole (lines ls) = true
is_whole (broken k) = false

abbrev pub text_lines : (List ℕ → Option ℕ) → ℕ → List ℕ → List (Line E.Value)
text_lines p n s = lines_of (rows (values p) 32 n s)

unfoldable pub is_at : ℕ → Option ℕ → Bool
is_at k none = false
is_at k (some j) = eqb j k

-- A label that line k sets after c others: it is set again where it means another line.
unfoldable pub label_fails : (List ℕ → Option ℕ) → ℕ → ℕ → Option (List ℕ) → Bool
label_fails p k c none = false
label_fails p k c (some n) = leb 256 c || not (is_at k (p n))

abbrev pub line_fails : (List ℕ → Option ℕ) → ℕ → ℕ → Line E.Value → Bool
line_fails p k c l = label_fails p k c l.label || misses l.body

unfoldable pub label_count : Option (List ℕ) → ℕ
label_count none = 0
label_count (some n) = 1

abbrev pub Verdict : Type 0
Verdict = Result (Unit {0}) Refusal

-- The verdict on the values up to line k: the first line, from 1, that is out of range.
unfoldable pub ruled : Verdict → Bool → ℕ → Verdict
ruled (Ok u) b k = cond b (Err (Value (suc k))) (Ok u)
ruled (Err e) b k = Err e

unfoldable pub judge : (List ℕ → Option ℕ) → ℕ → ℕ → Verdict → List (Line E.Value) → Verdict
judge p k c v [] = v
judge p k c v (l ∷ ls) =
    cond (line_fails p k c l) (Err (Label (suc k))) (judge p (suc k) (c + label_count l.label) (ruled v (exceeds l.body) k) ls)
