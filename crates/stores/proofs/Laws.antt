-- swap's second half where its operand is no register: a write at the place that it names.
use Rattle.std.proofs.Common.{◌≡◌, refl, ℕ}
use Rattle.definition.specs.declared.Cell.{Cell}
use Rattle.definition.specs.declared.Reg.{Reg}
use Rattle.definition.specs.declared.Operand.{Operand}
use Rattle.definition.specs.declared.Operand.TheVariants.{Absent, Imm, Register, Dir, Ind, Idx}
use Rattle.definition.specs.Arguments.{resolve, resolved}
use Rattle.definition.specs.Exec.{Core, and_then, or_address, write}
use Rattle.definition.specs.Instructions.{place_of, swap_back}

pub swap_back_elsewhere : (g : ℕ) (x : Operand) (v : Cell) (c : Core) → ((r : Reg) → x ≡ Register r → ⊥) → swap_back g x v c ≡ and_then (place_of x c) (λ n. write g n v)
unfolding swap_back and_then or_address resolve resolved
swap_back_elsewhere g Absent v c h = refl
swap_back_elsewhere g (Imm w) v c h = refl
swap_back_elsewhere g (Register r) v c h = absurd (h r refl)
swap_back_elsewhere g (Dir w) v c h = refl
swap_back_elsewhere g (Ind r) v c h = refl
swap_back_elsewhere g (Idx r k) v c h = refl
