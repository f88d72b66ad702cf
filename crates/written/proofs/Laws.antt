-- The operations that write no cell.
use Rattle.std.proofs.Common.{◌≡◌, refl}
use Rattle.definition.specs.declared.Op.{Op}
use Rattle.definition.specs.declared.Op.TheVariants as O
use Rattle.definition.specs.declared.Operand.{Operand}
use Rattle.definition.specs.declared.Reg.{Reg}
use Rattle.definition.specs.declared.Error.TheVariants.{InvalidInstruction}
use Rattle.definition.specs.Exec.{Core, err}
use Rattle.journal.specs.Writes.{aim, nowhere}

pub aim_nowhere : (o : Op) (x y : Operand) (r s : Reg) (c : Core) → (o ≡ O.Call → ⊥) → (o ≡ O.Fas → ⊥) → (o ≡ O.Push → ⊥) → (o ≡ O.St → ⊥) → (o ≡ O.Swap → ⊥) → err InvalidInstruction c ≡ aim o x y r s c
unfolding aim nowhere
aim_nowhere O.Add x y r s c _ _ _ _ _ = refl
aim_nowhere O.And x y r s c _ _ _ _ _ = refl
aim_nowhere O.Call x y r s c h _ _ _ _ = absurd (h refl)
aim_nowhere O.Cmp x y r s c _ _ _ _ _ = refl
aim_nowhere O.Div x y r s c _ _ _ _ _ = refl
aim_nowhere O.Fas x y r s c _ h _ _ _ = absurd (h refl)
aim_nowhere O.In x y r s c _ _ _ _ _ = refl
aim_nowhere O.Jmp x y r s c _ _ _ _ _ = refl
aim_nowhere O.Jeq x y r s c _ _ _ _ _ = refl
aim_nowhere O.Jne x y r s c _ _ _ _ _ = refl
aim_nowhere O.Jle x y r s c _ _ _ _ _ = refl
aim_nowhere O.Jlt x y r s c _ _ _ _ _ = refl
aim_nowhere O.Jge x y r s c _ _ _ _ _ = refl
aim_nowhere O.Jgt x y r s c _ _ _ _ _ = refl
aim_nowhere O.Ld x y r s c _ _ _ _ _ = refl
aim_nowhere O.Mul x y r s c _ _ _ _ _ = refl
aim_nowhere O.Neg x y r s c _ _ _ _ _ = refl
aim_nowhere O.Nop x y r s c _ _ _ _ _ = refl
aim_nowhere O.Not x y r s c _ _ _ _ _ = refl
aim_nowhere O.Or x y r s c _ _ _ _ _ = refl
aim_nowhere O.Out x y r s c _ _ _ _ _ = refl
aim_nowhere O.Pop x y r s c _ _ _ _ _ = refl
aim_nowhere O.Push x y r s c _ _ h _ _ = absurd (h refl)
aim_nowhere O.Reset x y r s c _ _ _ _ _ = refl
aim_nowhere O.Rti x y r s c _ _ _ _ _ = refl
aim_nowhere O.Rtn x y r s c _ _ _ _ _ = refl
aim_nowhere O.Shl x y r s c _ _ _ _ _ = refl
aim_nowhere O.Shr x y r s c _ _ _ _ _ = refl
aim_nowhere O.St x y r s c _ _ _ h _ = absurd (h refl)
aim_nowhere O.Sub x y r s c _ _ _ _ _ = refl
aim_nowhere O.Swap x y r s c _ _ _ _ h = absurd (h refl)
aim_nowhere O.Trap x y r s c _ _ _ _ _ = refl
aim_nowhere O.Xor x y r s c _ _ _ _ _ = refl
