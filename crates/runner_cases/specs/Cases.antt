-- The runner's cases in a file: each is a line with two lengths of seven digits, the input's and the output's, then the input and the output.
use Rattle.std.specs.Prelude.{Bool, true, false, cond, ◌&&◌, List, [], ◌∷◌, ◌++◌, ℕ, zero, suc, ◌+◌, ◌*◌, ◌-◌, length, take, drop, get_or, ltb, leb, eqb, Option, Some, None}
use Rattle.printing.specs.Decimal.{decimal}
use Rattle.image_run.specs.Image.{printed}
use Rattle.runner_cases.specs.declared.Case.{Case}
use Rattle.runner_cases.specs.declared.Tally.{Tally}

-- Another byte than a digit counts as 0.
unfoldable pub digit_of : ℕ → ℕ
digit_of b = cond (ltb b 48) 0 (cond (ltb b 58) (b - 48) 0)

abbrev pub digit_at : List ℕ → ℕ → ℕ
digit_at s i = digit_of (get_or s i 0)

-- The number of seven digits that a text begins with.
unfoldable pub length_of : List ℕ → ℕ
length_of s =
    digit_at s 0 * 1000000 + digit_at s 1 * 100000 + digit_at s 2 * 10000 + (digit_at s 3 * 1000 + digit_at s 4 * 100 + digit_at s 5 * 10) + digit_at s 6

-- A case: the input, the output that is due, and what is behind.
abbrev pub Whole : Type 0
Whole = List ℕ × List ℕ × List ℕ

abbrev pub whole : ℕ → ℕ → List ℕ → Whole
whole a b s = (take a s, take b (drop a s), drop b (drop a s))

-- The case that a text begins with, if one stands whole there.
unfoldable pub case_of : List ℕ → Option Whole
case_of s =
    let line = take 16 s in
    let a = length_of (take 7 line) in
    let b = length_of (take 7 (drop 8 line)) in
    cond (leb (16 + a + b) (length s)) (Some (whole a b (drop 16 s))) None

abbrev pub case_told : Option Case → Option Whole
case_told None = None
case_told (Some c) = Some (c.input.now, c.due.now, c.rest.now)

unfoldable pub same_text : List ℕ → List ℕ → Bool
same_text [] [] = true
same_text [] (b ∷ t) = false
same_text (a ∷ s) [] = false
same_text (a ∷ s) (b ∷ t) = eqb a b && same_text s t

-- Whether the runner prints what is due.
unfoldable pub passing : List ℕ → List ℕ → Bool
passing input due = same_text (printed input) due

abbrev pub tally : ℕ → ℕ → Tally
tally seen passed = record { seen = seen; passed = passed }

-- One case more is seen.
abbrev pub counted : Whole → Tally → Tally
counted c t = tally (t.seen + 1) (t.passed + cond (passing c.0 c.1) 1 0)

abbrev pub if_whole : Option Whole → (Whole → Option Tally) → Option Tally
if_whole None next = None
if_whole (Some c) next = next c

-- Up to k cases; none where the text ends within a case.
unfoldable pub tallied : ℕ → List ℕ → Tally → Option Tally
tallied k [] t = Some t
tallied zero (b ∷ s) t = None
tallied (suc k) (b ∷ s) t = if_whole (case_of (b ∷ s)) (λ c. tallied k c.2 (counted c t))

-- A file has fewer cases than bytes.
unfoldable pub tally_of : List ℕ → Option Tally
tally_of s = tallied (length s) s (tally 0 0)

-- `: passed `, ` of `, `: ends within a case`
abbrev pub passed_name : List ℕ
passed_name = 58 ∷ 32 ∷ 112 ∷ 97 ∷ 115 ∷ 115 ∷ 101 ∷ 100 ∷ 32 ∷ []

abbrev pub of_name : List ℕ
of_name = 32 ∷ 111 ∷ 102 ∷ 32 ∷ []

abbrev pub ends_name : List ℕ
ends_name = 58 ∷ 32 ∷ 101 ∷ 110 ∷ 100 ∷ 115 ∷ 32 ∷ 119 ∷ 105 ∷ 116 ∷ 104 ∷ 105 ∷ 110 ∷ 32 ∷ 97 ∷ 32 ∷ 99 ∷ 97 ∷ 115 ∷ 101 ∷ 10 ∷ []

-- What is said of a file: the numbers of the tally, where it is a file of whole cases.
unfoldable pub passed_text : Tally → List ℕ
passed_text t = passed_name ++ (decimal t.passed ++ (of_name ++ (decimal t.seen ++ (10 ∷ []))))

unfoldable pub verdict_text : Option Tally → List ℕ
verdict_text None = ends_name
verdict_text (Some t) = passed_text t
