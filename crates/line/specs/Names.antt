-- The number of a name in a list of names.
use Rattle.std.specs.Prelude.{◌≡◌, cond, List, [], ◌∷◌, ℕ, length, drop, ltb}
use Rattle.expression.specs.Reader.{Outcome, gives, refused, front, past, is_letter}
use Rattle.assembly.specs.Reader.{number_from, number_of}

-- The number of the name that a text begins with, and the rest.
unfoldable pub named_at : List (List ℕ) → List ℕ → Outcome ℕ
named_at ns t = cond (ltb (number_of ns (front is_letter t)) (length ns)) (gives (number_of ns (front is_letter t)) (past is_letter t)) refused

-- The name that a text begins with is none of the first k.
abbrev pub Skipped : List (List ℕ) → ℕ → List ℕ → Type 0
Skipped ns k t = number_of ns (front is_letter t) ≡ number_from k (drop k ns) (front is_letter t)

-- `word`
abbrev pub word_letters : List ℕ
word_letters = 119 ∷ 111 ∷ 114 ∷ 100 ∷ []
