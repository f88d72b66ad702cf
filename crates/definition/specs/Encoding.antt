-- "Cells and row": the tag of an instruction, the 124 legal forms, the costs, and what is damaged.
use Rattle.std.specs.Prelude.{◌≡◌, Bool, true, false, cond, ◌&&◌, ◌||◌, List, [], ◌∷◌, ℕ, zero, suc, ◌+◌, ◌*◌, ◌/◌, ◌%◌, ◌<◌, ℤ, pos, negsuc, get_or, ltb, leb, eqb, None, Option, Some}
use Rattle.definition.specs.declared.Op.{Op}
use Rattle.definition.specs.declared.Op.TheVariants as O
use Rattle.definition.specs.declared.Instruction.{Instruction}
use Rattle.definition.specs.declared.Cell.{Cell}
use Rattle.definition.specs.Word.{eq_z, address_of, digit}
use Rattle.definition.specs.Registers.{reg_at}
use Rattle.definition.specs.Arguments.{operand, mode_cost}

-- "op is 0 to 32 in the order of `Instruction`"
abbrev pub ops : List Op
ops =
    O.Add ∷ O.And ∷ O.Call ∷ O.Cmp ∷ O.Div ∷ O.Fas ∷ O.In ∷ O.Jmp ∷ O.Jeq ∷ O.Jne ∷ O.Jle ∷ O.Jlt ∷ O.Jge ∷ O.Jgt ∷ O.Ld ∷ O.Mul ∷ O.Neg ∷ O.Nop ∷ O.Not ∷ O.Or ∷ O.Out ∷ O.Pop ∷ O.Push ∷ O.Reset ∷ O.Rti ∷ O.Rtn ∷ O.Shl ∷ O.Shr ∷ O.St ∷ O.Sub ∷ O.Swap ∷ O.Trap ∷ O.Xor ∷ []

-- The operation of a number; a damaged cell may have one past the last, which is taken for trap.
unfoldable pub op_at : ℕ → Op
op_at n = get_or ops n O.Trap

-- The modes that a type of operand of arguments.rs allows.
pub data Kind : Type 0 where
  NoOperand ImmRegDirIndIdx DirIndIdx RegDirIndIdx ImmReg JustReg : Kind

unfoldable pub allows : Kind → ℕ → Bool
allows NoOperand m = eqb m 0
allows ImmRegDirIndIdx m = leb 1 m && leb m 5
allows DirIndIdx m = leb 3 m && leb m 5
allows RegDirIndIdx m = leb 2 m && leb m 5
allows ImmReg m = leb 1 m && leb m 2
allows JustReg m = eqb m 2

-- The operand types of `Instruction`.
pub record Signature : Type 0 where
  pub first : Kind
  pub second : Kind

abbrev takes : Kind → Kind → Signature
takes x y = record { first = x; second = y }

unfoldable pub signature : Op → Signature
signature O.Add = takes ImmRegDirIndIdx JustReg
signature O.And = takes ImmRegDirIndIdx JustReg
signature O.Call = takes ImmRegDirIndIdx NoOperand
signature O.Cmp = takes ImmRegDirIndIdx JustReg
signature O.Div = takes ImmRegDirIndIdx JustReg
signature O.Fas = takes DirIndIdx JustReg
signature O.In = takes DirIndIdx JustReg
signature O.Jmp = takes ImmRegDirIndIdx NoOperand
signature O.Jeq = takes ImmRegDirIndIdx NoOperand
signature O.Jne = takes ImmRegDirIndIdx NoOperand
signature O.Jle = takes ImmRegDirIndIdx NoOperand
signature O.Jlt = takes ImmRegDirIndIdx NoOperand
signature O.Jge = takes ImmRegDirIndIdx NoOperand
signature O.Jgt = takes ImmRegDirIndIdx NoOperand
signature O.Ld = takes ImmRegDirIndIdx JustReg
signature O.Mul = takes ImmRegDirIndIdx JustReg
signature O.Neg = takes JustReg NoOperand
signature O.Nop = takes NoOperand NoOperand
signature O.Not = takes JustReg NoOperand
signature O.Or = takes ImmRegDirIndIdx JustReg
signature O.Out = takes ImmReg DirIndIdx
signature O.Pop = takes JustReg NoOperand
signature O.Push = takes ImmReg NoOperand
signature O.Reset = takes NoOperand NoOperand
signature O.Rti = takes NoOperand NoOperand
signature O.Rtn = takes NoOperand NoOperand
signature O.Shl = takes ImmRegDirIndIdx JustReg
signature O.Shr = takes ImmRegDirIndIdx JustReg
signature O.St = takes JustReg DirIndIdx
signature O.Sub = takes ImmRegDirIndIdx JustReg
signature O.Swap = takes RegDirIndIdx JustReg
signature O.Trap = takes NoOperand NoOperand
signature O.Xor = takes ImmRegDirIndIdx JustReg

-- Is this op, m1 and m2 an instruction?
unfoldable pub legal : ℕ → ℕ → ℕ → Bool
legal o m₁ m₂ = ltb o 33 && (allows (signature (op_at o)).first m₁ && allows (signature (op_at o)).second m₂)

-- The count of the numbers below n that pass a test, and of the entries over op, m1 and m2 that are instructions: "one table of 1,188
-- entries over op, m1 and m2, of which 124 are instructions". The proof is proofs/Encoding.
unfoldable pub sum_below : ℕ → (ℕ → ℕ) → ℕ
sum_below zero f = 0
sum_below (suc n) f = f n + sum_below n f

abbrev pub entries : (ℕ → ℕ → ℕ → Bool) → ℕ
entries test = sum_below 33 (λ o. sum_below 6 (λ m₁. sum_below 6 (λ m₂. digit (test o m₁ m₂))))

abbrev pub Forms : Type 0
Forms = entries legal ≡ 124

-- Instruction::cost, over op, m1 and m2: "An instruction costs one cycle and what its operands add", "the rest are 0".
unfoldable pub cost : ℕ → ℕ → ℕ → ℕ
cost o m₁ m₂ = cond (legal o m₁ m₂) (1 + mode_cost m₁ + mode_cost m₂) 0

-- "An instruction's tag is 2 + ((op × 36 + m1 × 6 + m2) × 25 + r1 × 5 + r2)."
abbrev pub tag_of : ℕ → ℕ → ℕ → ℕ → ℕ → ℕ
tag_of o m₁ m₂ r₁ r₂ = 2 + ((o * 36 + m₁ * 6 + m₂) * 25 + r₁ * 5 + r₂)

-- What t = tag - 2 holds.
abbrev pub op_number : ℕ → ℕ
op_number t = t / 900

abbrev pub mode₁ : ℕ → ℕ
mode₁ t = t / 150 % 6

abbrev pub mode₂ : ℕ → ℕ
mode₂ t = t / 25 % 6

abbrev pub reg₁ : ℕ → ℕ
reg₁ t = t / 5 % 5

abbrev pub reg₂ : ℕ → ℕ
reg₂ t = t % 5

-- The tag and its parts are one another: those of a tag are the numbers that made it, and every number below 33 × 36 × 25 is made of its
-- parts, each in its range.
pub record TagParts (o m₁ m₂ r₁ r₂ t : ℕ) : Type 0 where
  pub op : op_number t ≡ o
  pub first_mode : mode₁ t ≡ m₁
  pub second_mode : mode₂ t ≡ m₂
  pub first_register : reg₁ t ≡ r₁
  pub second_register : reg₂ t ≡ r₂

pub record TagLaws : Type 0 where
  pub parts : (o m₁ m₂ r₁ r₂ t : ℕ) → o < 33 → m₁ < 6 → m₂ < 6 → r₁ < 5 → r₂ < 5 → tag_of o m₁ m₂ r₁ r₂ ≡ 2 + t → TagParts o m₁ m₂ r₁ r₂ t
  pub back : (t : ℕ) → tag_of (op_number t) (mode₁ t) (mode₂ t) (reg₁ t) (reg₂ t) ≡ 2 + t
  pub op_below : (t : ℕ) → t < 29700 → op_number t < 33
  pub modes_below : (t : ℕ) → (mode₁ t < 6) × (mode₂ t < 6)
  pub registers_below : (t : ℕ) → (reg₁ t < 5) × (reg₂ t < 5)

unfoldable pub decode : ℕ → ℤ → ℤ → Instruction
decode t f s =
    record { op = op_at (op_number t); x = operand (mode₁ t) (reg₁ t) f; y = operand (mode₂ t) (reg₂ t) s; r1 = reg_at (reg₁ t); r2 = reg_at (reg₂ t); cycles = cost (op_number t) (mode₁ t) (mode₂ t) }

-- Cell::extract_instruction
unfoldable pub instruction_at : ℤ → ℤ → ℤ → Option Instruction
instruction_at (pos zero) f s = None
instruction_at (pos (suc zero)) f s = None
instruction_at (pos (suc (suc t))) f s = Some (decode t f s)
instruction_at (negsuc n) f s = None

unfoldable pub extract_instruction : Cell → Option Instruction
extract_instruction v = instruction_at v.tag v.first v.second

-- "r is 0 where the mode has no register"
unfoldable pub register_fits : ℕ → ℕ → Bool
register_fits m r = eqb r 0 || (eqb m 2 || leb 4 m)

unfoldable pub is_address : Option ℕ → Bool
is_address (Some n) = true
is_address None = false

-- "First and second hold the operands' numbers, 0 where the mode has none; a direct one is an address."
unfoldable pub number_fits : ℕ → ℤ → Bool
number_fits m w = eq_z w (pos 0) || (eqb m 1 || (eqb m 5 || (eqb m 3 && is_address (address_of w))))

unfoldable pub sound_instruction : ℕ → ℤ → ℤ → Bool
sound_instruction t f s =
    legal (op_number t) (mode₁ t) (mode₂ t) && ((register_fits (mode₁ t) (reg₁ t) && register_fits (mode₂ t) (reg₂ t)) && (number_fits (mode₁ t) f && number_fits (mode₂ t) s))

unfoldable pub sound_at : ℤ → ℤ → ℤ → Bool
sound_at (pos zero) f s = eq_z f (pos 0) && eq_z s (pos 0)
sound_at (pos (suc zero)) f s = eq_z s (pos 0)
sound_at (pos (suc (suc t))) f s = sound_instruction t f s
sound_at (negsuc n) f s = false

-- Empty, a word or an instruction: "Anything else is damaged."
unfoldable pub sound : Cell → Bool
sound v = sound_at v.tag v.first v.second
