-- What a person is told of a file that could not be read. A text is a list of bytes.
use Rattle.std.specs.Prelude.{cond, List, [], ◌∷◌, ◌++◌, ℕ, eqb}
use Rattle.std.specs.List.{starts_with}

-- ` (os error `, behind which the system's number stands
abbrev pub number_mark : List ℕ
number_mark = 32 ∷ 40 ∷ 111 ∷ 115 ∷ 32 ∷ 101 ∷ 114 ∷ 114 ∷ 111 ∷ 114 ∷ 32 ∷ []

-- What stands before the first such mark; the whole text where there is none.
unfoldable pub cause : List ℕ → List ℕ
cause [] = []
cause (b ∷ t) = cond (starts_with eqb (b ∷ t) number_mark) [] (b ∷ cause t)

-- `NAME: WHY` and a line end, of an error whose text is `said`
abbrev pub message : List ℕ → List ℕ → List ℕ
message name said = name ++ (58 ∷ 32 ∷ (cause said ++ (10 ∷ [])))
