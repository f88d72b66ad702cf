-- The names of operations and of registers. That they are the grammar's, at their numbers, is shown in proofs/Pieces.
use Rattle.std.specs.Prelude.{List, ℕ, codes}
use Rattle.definition.specs.declared.Op.{Op}
use Rattle.definition.specs.declared.Op.TheVariants as O
use Rattle.definition.specs.declared.Reg.{Reg}
use Rattle.definition.specs.declared.Reg.TheVariants.{A, B, PC, SP, SR}

abbrev pub mnemonic : Op → List ℕ
mnemonic O.Add = codes "add"
mnemonic O.And = codes "and"
mnemonic O.Call = codes "call"
mnemonic O.Cmp = codes "cmp"
mnemonic O.Div = codes "div"
mnemonic O.Fas = codes "fas"
mnemonic O.In = codes "in"
mnemonic O.Jmp = codes "jmp"
mnemonic O.Jeq = codes "jeq"
mnemonic O.Jne = codes "jne"
mnemonic O.Jle = codes "jle"
mnemonic O.Jlt = codes "jlt"
mnemonic O.Jge = codes "jge"
mnemonic O.Jgt = codes "jgt"
mnemonic O.Ld = codes "ld"
mnemonic O.Mul = codes "mul"
mnemonic O.Neg = codes "neg"
mnemonic O.Nop = codes "nop"
mnemonic O.Not = codes "not"
mnemonic O.Or = codes "or"
mnemonic O.Out = codes "out"
mnemonic O.Pop = codes "pop"
mnemonic O.Push = codes "push"
mnemonic O.Reset = codes "reset"
mnemonic O.Rti = codes "rti"
mnemonic O.Rtn = codes "rtn"
mnemonic O.Shl = codes "shl"
mnemonic O.Shr = codes "shr"
mnemonic O.St = codes "st"
mnemonic O.Sub = codes "sub"
mnemonic O.Swap = codes "swap"
mnemonic O.Trap = codes "trap"
mnemonic O.Xor = codes "xor"

abbrev pub register : Reg → List ℕ
register A = codes "a"
register B = codes "b"
register PC = codes "pc"
register SP = codes "sp"
register SR = codes "sr"
