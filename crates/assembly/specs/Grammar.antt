-- A line of the assembler (Card 1), written without the reader. 10 is a line end, 32 a space, 37 `%`, 43 a plus, 44 a comma, 45 a minus,
-- 58 a colon, 91 and 93 are the square brackets.
use Rattle.std.specs.Prelude.{◌≡◌, true, List, [], ◌∷◌, ◌++◌, ℕ, ◌<◌, ◌≤◌, pos, neg_ℤ, length, get_or}
use Rattle.std.proofs.Math.Option.{Option, some, none}
use Rattle.definition.specs.Encoding.{legal}
use Rattle.expression.specs.Grammar.{Expr, Number, Gap, Digits, Letters, sum, Reads}

-- An operand, over what stands for values: by mode 0 to 5.
pub data Arg (X : Type 0) : Type 0 where
  None : Arg X
  Imm : X → Arg X
  Reg : ℕ → Arg X
  Dir : X → Arg X
  Ind : ℕ → Arg X
  Idx : ℕ → X → Arg X

unfoldable pub mode : {X : Type 0} → Arg X → ℕ
mode None = 0
mode (Imm x) = 1
mode (Reg r) = 2
mode (Dir x) = 3
mode (Ind r) = 4
mode (Idx r i) = 5

-- What stands in a cell: `.word` and a value, or an operation by its number.
pub data Body (X : Type 0) : Type 0 where
  Word : X → Body X
  Code : ℕ → Arg X → Arg X → Body X

pub record Line (X : Type 0) : Type 0 where
  pub label : Option (List ℕ)
  pub body : Body X

abbrev pub line : {X : Type 0} → Option (List ℕ) → Body X → Line X
line n b = record { label = n; body = b }

-- The mnemonics, in the order of `Instruction`.
abbrev pub mnemonics : List (List ℕ)
mnemonics =
    (97 ∷ 100 ∷ 100 ∷ []) ∷ (97 ∷ 110 ∷ 100 ∷ []) ∷ (99 ∷ 97 ∷ 108 ∷ 108 ∷ []) ∷ (99 ∷ 109 ∷ 112 ∷ []) ∷ (100 ∷ 105 ∷ 118 ∷ []) ∷ (102 ∷ 97 ∷ 115 ∷ []) ∷ (105 ∷ 110 ∷ []) ∷ (106 ∷ 109 ∷ 112 ∷ []) ∷ (106 ∷ 101 ∷ 113 ∷ []) ∷ (106 ∷ 110 ∷ 101 ∷ []) ∷ (106 ∷ 108 ∷ 101 ∷ []) ∷ (106 ∷ 108 ∷ 116 ∷ []) ∷ (106 ∷ 103 ∷ 101 ∷ []) ∷ (106 ∷ 103 ∷ 116 ∷ []) ∷ (108 ∷ 100 ∷ []) ∷ (109 ∷ 117 ∷ 108 ∷ []) ∷ (110 ∷ 101 ∷ 103 ∷ []) ∷ (110 ∷ 111 ∷ 112 ∷ []) ∷ (110 ∷ 111 ∷ 116 ∷ []) ∷ (111 ∷ 114 ∷ []) ∷ (111 ∷ 117 ∷ 116 ∷ []) ∷ (112 ∷ 111 ∷ 112 ∷ []) ∷ (112 ∷ 117 ∷ 115 ∷ 104 ∷ []) ∷ (114 ∷ 101 ∷ 115 ∷ 101 ∷ 116 ∷ []) ∷ (114 ∷ 116 ∷ 105 ∷ []) ∷ (114 ∷ 116 ∷ 110 ∷ []) ∷ (115 ∷ 104 ∷ 108 ∷ []) ∷ (115 ∷ 104 ∷ 114 ∷ []) ∷ (115 ∷ 116 ∷ []) ∷ (115 ∷ 117 ∷ 98 ∷ []) ∷ (115 ∷ 119 ∷ 97 ∷ 112 ∷ []) ∷ (116 ∷ 114 ∷ 97 ∷ 112 ∷ []) ∷ (120 ∷ 111 ∷ 114 ∷ []) ∷ []

-- `%a`, `%b`, `%pc`, `%sp`, `%sr`
abbrev pub registers : List (List ℕ)
registers = (97 ∷ []) ∷ (98 ∷ []) ∷ (112 ∷ 99 ∷ []) ∷ (115 ∷ 112 ∷ []) ∷ (115 ∷ 114 ∷ []) ∷ []

-- `.word`
abbrev pub dot_word : List ℕ
dot_word = 46 ∷ 119 ∷ 111 ∷ 114 ∷ 100 ∷ []

-- The name at a number of a list of names.
pub data Named (names : List (List ℕ)) : List ℕ → ℕ → Type 0 where
  named : {n : ℕ} → n < length names → Named names (get_or names n []) n

-- A mark and the spaces after it; a mark that is itself a space is one space or more.
pub data Mark : ℕ → List ℕ → Type 0 where
  mark : {b : ℕ} {g : List ℕ} → Gap g → Mark b (b ∷ g)

-- "Spaces may stand around tokens, not [...] inside a register or index"
pub data Register : List ℕ → ℕ → Type 0 where
  register : {r : ℕ} {s g : List ℕ} → Named registers s r → Gap g → Register (37 ∷ (s ++ g)) r

-- "An index is + or - and digits."
pub data Index : List ℕ → Expr → Type 0 where
  plus : {v : ℕ} {s g : List ℕ} → Digits s v → Gap g → Index (43 ∷ (s ++ g)) (Number (pos v))
  minus : {v : ℕ} {s g : List ℕ} → Digits s v → Gap g → Index (45 ∷ (s ++ g)) (Number (neg_ℤ (pos v)))

-- "A bare value is immediate, one in square brackets direct."
pub data Operand : ℕ → List ℕ → Arg Expr → Type 0 where
  imm : {d : ℕ} {s : List ℕ} {e : Expr} → Reads sum d s e → Operand d s (Imm e)
  reg : {d r : ℕ} {s : List ℕ} → Register s r → Operand d s (Reg r)
  dir : {d : ℕ} {a s z : List ℕ} {e : Expr} → Mark 91 a → Reads sum d s e → Mark 93 z → Operand d (a ++ (s ++ z)) (Dir e)
  ind : {d r : ℕ} {a s z : List ℕ} → Mark 91 a → Register s r → Mark 93 z → Operand d (a ++ (s ++ z)) (Ind r)
  idx : {d r : ℕ} {i : Expr} {a s u z : List ℕ} → Mark 91 a → Register s r → Index u i → Mark 93 z → Operand d (a ++ (s ++ (u ++ z))) (Idx r i)

-- "one must follow a mnemonic or `.word` that has an operand"
pub data Content : ℕ → List ℕ → Body Expr → Type 0 where
  word : {d : ℕ} {g s : List ℕ} {e : Expr} → Mark 32 g → Reads sum d s e → Content d (dot_word ++ (g ++ s)) (Word e)
  bare : {d o : ℕ} {m g : List ℕ} → Named mnemonics m o → legal o 0 0 ≡ true → Gap g → Content d (m ++ g) (Code o None None)
  one : {d o : ℕ} {m g s : List ℕ} {x : Arg Expr} → Named mnemonics m o → legal o (mode x) 0 ≡ true → Mark 32 g → Operand d s x → Content d (m ++ (g ++ s)) (Code o x None)
  two : {d o : ℕ} {m g s c u : List ℕ} {x y : Arg Expr} → Named mnemonics m o → legal o (mode x) (mode y) ≡ true → Mark 32 g → Operand d s x → Mark 44 c → Operand d u y → Content d (m ++ (g ++ (s ++ (c ++ u)))) (Code o x y)

-- "an optional label of 1 to 16 lower-case letters and a colon, then [...], then a line end"
pub data Row : ℕ → List ℕ → Line Expr → Type 0 where
  plain : {d : ℕ} {g s : List ℕ} {b : Body Expr} → Gap g → Content d s b → Row d (g ++ (s ++ (10 ∷ []))) (line none b)
  labelled : {d : ℕ} {g n c s : List ℕ} {b : Body Expr} → Gap g → Letters n → length n ≤ 16 → Mark 58 c → Content d s b → Row d (g ++ (n ++ (c ++ (s ++ (10 ∷ []))))) (line (some n) b)

-- A whole text.
pub data Rows : ℕ → List ℕ → List (Line Expr) → Type 0 where
  end : {d : ℕ} → Rows d [] []
  more : {d : ℕ} {s t : List ℕ} {l : Line Expr} {ls : List (Line Expr)} → Row d s l → Rows d t ls → Rows d (s ++ t) (l ∷ ls)
