-- The reader of lines, over any algebra of values.
use Rattle.std.specs.Prelude.{true, false, cond, List, [], ◌∷◌, ℕ, zero, suc, length, leb, ltb, eqb}
use Rattle.std.proofs.Math.Option.{Option, some, none}
use Rattle.definition.specs.Encoding.{legal}
use Rattle.expression.specs.Reader.{same, Algebra, Outcome, gives, refused, then, head, tail, front, past, is_space, is_letter, skip, numbered, read_sum}
use Rattle.expression.specs.Table.{is_labelled}
use Rattle.assembly.specs.Grammar.{Arg, None, Imm, Reg, Dir, Ind, Idx, mode, Body, Word, Code, Line, line, mnemonics, registers, dot_word}

-- The number of a name in a list of names, from k; the list's length and k where it has none.
unfoldable pub number_from : ℕ → List (List ℕ) → List ℕ → ℕ
number_from k [] s = k
number_from k (n ∷ ns) s = cond (same n s) k (number_from (suc k) ns s)

abbrev pub number_of : List (List ℕ) → List ℕ → ℕ
number_of ns s = number_from 0 ns s

-- A register after its `%`.
unfoldable pub register : List ℕ → Outcome ℕ
register t =
    cond
    (ltb (number_of registers (front is_letter t)) 5)
    (gives (number_of registers (front is_letter t)) (skip (past is_letter t)))
    refused

-- A byte and the spaces after it.
unfoldable pub expect : {X : Type 0} → ℕ → X → List ℕ → Outcome X
expect b x t = cond (eqb (head t) b) (gives x (skip (tail t))) refused

module _ {X : Type 0} (A : Algebra X) (d : ℕ) where
  unfoldable pub indexed : ℕ → List ℕ → Outcome (Arg X)
  indexed r t =
      cond (eqb (head t) 43) (then (numbered A false (tail t)) (λ i u. expect 93 (Idx r i) u))
      (cond (eqb (head t) 45) (then (numbered A true (tail t)) (λ i u. expect 93 (Idx r i) u)) (expect 93 (Ind r) t))

  unfoldable pub operand : List ℕ → Outcome (Arg X)
  operand t =
      cond
      (eqb (head t) 37)
      (then (register (tail t)) (λ r u. gives (Reg r) u))
      (cond
      (eqb (head t) 91)
      (cond
      (eqb (head (skip (tail t))) 37)
      (then (register (tail (skip (tail t)))) indexed)
      (then (read_sum A d (skip (tail t))) (λ x u. expect 93 (Dir x) u)))
      (then (read_sum A d t) (λ x u. gives (Imm x) u)))

  -- Only what the signature allows.
  unfoldable pub coded : ℕ → Arg X → Arg X → List ℕ → Outcome (Body X)
  coded o x y t = cond (legal o (mode x) (mode y)) (gives (Code o x y) t) refused

  -- The operands of an operation after its mnemonic: none, one, or two with a comma between.
  unfoldable pub operands : ℕ → List ℕ → Outcome (Body X)
  operands o t =
      cond
      (legal o 0 0)
      (gives (Code o None None) (skip t))
      (cond
      (is_space (head t))
      (then (operand (skip t)) (λ x u. cond (eqb (head u) 44) (then (operand (skip (tail u))) (λ y v. coded o x y v)) (coded o x None u)))
      refused)

  unfoldable pub word_after : List ℕ → Outcome (Body X)
  word_after t = cond (is_space (head t)) (then (read_sum A d (skip t)) (λ x u. gives (Word x) u)) refused

  unfoldable pub content : List ℕ → Outcome (Body X)
  content t =
      cond
      (eqb (head t) 46)
      (cond (same dot_word (46 ∷ front is_letter (tail t))) (word_after (past is_letter (tail t))) refused)
      (cond (ltb (number_of mnemonics (front is_letter t)) 33) (operands (number_of mnemonics (front is_letter t)) (past is_letter t)) refused)

  unfoldable pub ended : Option (List ℕ) → Outcome (Body X) → Outcome (Line X)
  ended n o = then o (λ b u. cond (eqb (head u) 10) (gives (line n b) (tail u)) refused)

  -- A line, its end included.
  unfoldable pub row : List ℕ → Outcome (Line X)
  row t =
      cond
      (is_labelled t)
      (cond (leb (length (front is_letter (skip t))) 16) (ended (some (front is_letter (skip t))) (content (skip (tail (past is_letter (skip t)))))) refused)
      (ended none (content (skip t)))

-- The lines of a text, or how many stand in order before the first that does not, for which there is room or not.
pub data Text (X : Type 0) : Type 0 where
  lines : List (Line X) → Text X
  broken : ℕ → Text X

unfoldable pub onto : {X : Type 0} → Line X → Text X → Text X
onto l (lines ls) = lines (l ∷ ls)
onto l (broken k) = broken (suc k)

unfoldable pub rows_after : {X : Type 0} → (List ℕ → Text X) → Outcome (Line X) → Text X
rows_after f (gives l t) = onto l (f t)
rows_after f refused = broken 0

-- At most k lines, that is, room for k cells.
unfoldable pub rows : {X : Type 0} → Algebra X → ℕ → ℕ → List ℕ → Text X
rows A d zero [] = lines []
rows A d zero (b ∷ t) = broken 0
rows A d (suc k) [] = lines []
rows A d (suc k) (b ∷ t) = rows_after (rows A d k) (row A d (b ∷ t))
