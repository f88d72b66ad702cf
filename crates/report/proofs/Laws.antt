-- How a line is put field by field, and that 512 bytes hold every text. Assumes nothing.
use Rattle.std.proofs.Common.{◌≡◌, ℕ, suc, ◌+◌, ◌*◌, ◌≤◌, ◌<◌, ℤ, pos, List, [], ◌∷◌, ◌++◌, length, map, take, drop, get_or, refl, sym, append_assoc, add-one, arith, length-append, drop-cons}
use lib.Seq.{drop-length}
use Rattle.printing.proofs.Laws.{texts, numeral_short}
use Rattle.definition.specs.declared.Ran.{Ran}
use Rattle.report.specs.Text.{field, fields, line, answer_text, registers_text, cells_text, empty_text, refusal_text}

-- ---- a line is put field by field

module _ {V : Type 0} (number : V → ℤ) (vs : List V) where
  -- what is left of a line before its field i
  abbrev pub left : ℕ → List ℕ
  left i = fields (map number (drop i vs)) ++ (10 ∷ [])

  pub left_start : (name : List ℕ) → name ++ left 0 ≡ line name (map number vs)
  unfolding line
  left_start name = refl

  pub left_next : (i : ℕ) (v : V) → i < length vs → v ≡ get_or vs i v → left i ≡ field (number v) ++ left (i + 1)
  unfolding fields
  left_next i v h e = rw (add-one, drop-cons vs i v h, sym e) (append_assoc (field (number v)) _ _)

  pub left_end : (i : ℕ) → i ≡ length vs → left i ≡ 10 ∷ []
  unfolding fields
  left_end i e = rw (e, drop-length)

pub ruleset left_steps = (texts, left_start, left_next, left_end)

-- ---- the numbers of the row that stand in a line

pub one_of : (number : ℤ → ℤ) (row : List ℤ) (i : ℕ) → i < length row → map number (take 1 (drop i row)) ≡ number (get_or row i (pos 0)) ∷ []
one_of number row i h = rw (drop-cons row i (pos 0) h)

pub three_of : (number : ℤ → ℤ) (row : List ℤ) (i : ℕ) → i + 2 < length row
    → map number (take 3 (drop i row)) ≡ number (get_or row i (pos 0)) ∷ number (get_or row (suc i) (pos 0)) ∷ number (get_or row (suc (suc i)) (pos 0)) ∷ []
three_of number row i h =
    rw (drop-cons row i (pos 0) (omega arith), drop-cons row (suc i) (pos 0) (omega arith), drop-cons row (suc (suc i)) (pos 0) (omega arith))

pub first_three : (number : ℤ → ℤ) (row : List ℤ) → 2 < length row
    → map number (take 3 row) ≡ number (get_or row 0 (pos 0)) ∷ number (get_or row 1 (pos 0)) ∷ number (get_or row 2 (pos 0)) ∷ []
first_three number row h = three_of number row 0 h

pub ruleset pieces = (texts, one_of, three_of, first_three)

-- ---- 512 bytes hold every text

fields-short : (vs : List ℤ) → length (fields vs) ≤ 22 * length vs
unfolding fields
fields-short [] = omega arith
fields-short (v ∷ vs) =
    let a = numeral_short v in
    let b = fields-short vs in
    simp length-append (omega arith)

line-short : (name : List ℕ) (vs : List ℤ) → length (line name vs) ≤ length name + 22 * length vs + 1
unfolding line
line-short name vs = let a = fields-short vs in simp length-append (omega arith)

pub answer_short : (ran : Ran) → length (answer_text ran) ≤ 512
unfolding answer_text
answer_short ran = simp length-append (omega (arith, line-short))

pub run_short : (ran : Ran) (row : List ℤ) → length (answer_text ran) + length (registers_text row) + length (cells_text row) + length (empty_text ran) ≤ 512
unfolding answer_text registers_text cells_text empty_text
run_short ran row = simp length-append (omega (arith, line-short))

pub refusal_short : (number place : ℕ) → length (refusal_text number place) ≤ 64
unfolding refusal_text
refusal_short number place = omega (arith, line-short)

pub ruleset shorts = (texts, answer_short, run_short, refusal_short)
