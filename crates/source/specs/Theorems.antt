-- What a caller may rely on, as statements. The proofs are proofs/Lowest and proofs/Decimals.
use Rattle.std.specs.Prelude.{◌≡◌, Bool, true, false, List, [], ◌∷◌, ◌++◌, ℕ, suc, ◌≤◌, ◌<◌, eqb, length}
use Rattle.decimal.specs.Decimal.{Digits}
use Rattle.expression.specs.Table.{next_line}
use Rattle.assembly.specs.Assemble.{Assembled, refuses, assemble}
use Rattle.lines.specs.Reader.{following, empty_cells}
use Rattle.definition.specs.declared.Done.{Done}
use Rattle.source.specs.Source.{is_numeric, done_of, loading}

-- ---- "a line of four comma-parted decimal numbers, of any size", written without the reader

-- Digits after an optional minus.
pub data Decimal : List ℕ → Type 0 where
  plus : {s : List ℕ} {v : ℕ} → Digits s v → Decimal s
  minus : {s : List ℕ} {v : ℕ} → Digits s v → Decimal (45 ∷ s)

pub data NumericLine : List ℕ → Type 0 where
  numeric : {a b c d : List ℕ} → Decimal a → Decimal b → Decimal c → Decimal d → NumericLine (a ++ (44 ∷ (b ++ (44 ∷ (c ++ (44 ∷ (d ++ (10 ∷ []))))))))

-- A text begins with such a line.
pub record Begins (t : List ℕ) : Type 0 where
  pub s : List ℕ
  pub rest : List ℕ
  pub cut : t ≡ s ++ rest
  pub numeric : NumericLine s

-- The test is exactly this.
abbrev pub Exactly : Type 0
Exactly = (t : List ℕ) → (is_numeric t ≡ true → Begins t) × (Begins t → is_numeric t ≡ true)

-- ---- the lowest line of its kind

-- From its k-th line on, from 0, a text is q; fresh where the text itself begins a line.
pub data From : Bool → List ℕ → ℕ → List ℕ → Type 0 where
  here : {t : List ℕ} → From true t 0 t
  on : {fresh : Bool} {b k : ℕ} {t q : List ℕ} → eqb b 10 ≡ false → From false t k q → From fresh (b ∷ t) k q
  past : {fresh : Bool} {k : ℕ} {t q : List ℕ} → From true t k q → From fresh (10 ∷ t) (suc k) q

-- Line k + 1 is numeric, and no lower one is.
pub record LowestNumeric (t : List ℕ) (k : ℕ) : Type 0 where
  pub q : List ℕ
  pub stands : From true t k q
  pub fault : Begins q
  pub below : (j : ℕ) (r : List ℕ) → j < k → From true t j r → Begins r → ⊥

-- No line up to line n is numeric, and none at all.
abbrev pub NoNumericTo : List ℕ → ℕ → Type 0
NoNumericTo t n = (j : ℕ) (r : List ℕ) → j < n → From true t j r → Begins r → ⊥

abbrev pub NoNumeric : List ℕ → Type 0
NoNumeric t = (n : ℕ) → NoNumericTo t n

-- A file within the limit, its text loaded into the runner's 2,048 cells. "Lines count from the start line": line n of the text is line `following n` of the file.
abbrev pub answer : List ℕ → Done
answer t = done_of (loading t empty_cells).answer.outcome

abbrev pub made : List ℕ → Assembled
made t = assemble 2048 (next_line t)

-- No text is longer.
abbrev pub Small : List ℕ → Type 0
Small t = length (next_line t) < 18446744073709551614

-- "of 13 and 18 the lowest line counts, 18 on a tie": 18 is the lowest numeric line, and no line below it has 13;
abbrev pub LowestOf18 : Type 0
LowestOf18 =
    (t : List ℕ) → Small t → (answer t).refusal ≡ 18
    → (k : ℕ) × (((answer t).place ≡ following (suc k)) × (LowestNumeric (next_line t) k × ((p : ℕ) → made t ≡ refuses 13 p → suc k ≤ p)))

-- 13 is the assembler's lowest line, and no line up to it is numeric;
abbrev pub LowestOf13 : Type 0
LowestOf13 =
    (t : List ℕ) → Small t → (answer t).refusal ≡ 13
    → (p : ℕ) × (((answer t).place ≡ following p) × ((made t ≡ refuses 13 p) × NoNumericTo (next_line t) p))

-- 14 and 15 are the assembler's, each its lowest line, and no line is numeric.
abbrev pub ThenTheOthers : Type 0
ThenTheOthers =
    (t : List ℕ) (n : ℕ) → 14 ≤ n → n ≤ 15 → Small t → (answer t).refusal ≡ n
    → (p : ℕ) × (((answer t).place ≡ following p) × ((made t ≡ refuses n p) × NoNumeric (next_line t)))
