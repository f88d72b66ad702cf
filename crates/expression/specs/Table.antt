-- Labels in a text: which line sets one.
use Rattle.std.specs.Prelude.{Bool, cond, not, ◌&&◌, List, [], ◌∷◌, ℕ, zero, suc, ◌+◌, ◌*◌, ◌%◌, eqb, length}
use Rattle.std.proofs.Math.Option.{Option, some, none}
use Rattle.expression.specs.Reader.{Outcome, gives, refused, head, tail, front, past, skip, is_letter, same}

-- "a label of 1 to 16 lower-case letters and a colon" at the front of a line.
unfoldable pub is_labelled : List ℕ → Bool
is_labelled t = is_letter (head (skip t)) && eqb (head (past is_letter (skip t))) 58

-- That label, and the text after its colon.
unfoldable pub label_at : List ℕ → Outcome (List ℕ)
label_at t = cond (is_labelled t) (gives (front is_letter (skip t)) (tail (past is_letter (skip t)))) refused

unfoldable pub sets : List ℕ → List ℕ → Bool
sets t n = is_labelled t && same (front is_letter (skip t)) n

-- What may stand before a line's end.
unfoldable pub is_inner : ℕ → Bool
is_inner b = not (eqb b 10) && not (eqb b 0)

unfoldable pub next_line : List ℕ → List ℕ
next_line t = tail (past is_inner t)

-- The first of at most j lines of a text, numbered from k, that sets a label.
unfoldable pub setting_in : ℕ → List ℕ → ℕ → List ℕ → Option ℕ
setting_in zero t k n = none
setting_in (suc j) [] k n = none
setting_in (suc j) (b ∷ t) k n = cond (sets (b ∷ t) n) (some k) (setting_in j (next_line (b ∷ t)) (suc k) n)

unfoldable pub setting : List ℕ → ℕ → List ℕ → Option ℕ
setting t k n = setting_in (length t) t k n

-- A number for a name.
unfoldable pub hash_from : ℕ → List ℕ → ℕ
hash_from h [] = h
hash_from h (b ∷ n) = hash_from ((h * 31 + b) % 1024) n
