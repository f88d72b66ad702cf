-- What the code's types say in the reader's.
use Rattle.std.specs.Prelude.{true, false, cond, List, ℕ, eqb, Option, Some, None}
use Rattle.std.specs.Borrow.{Bor}
use Rattle.std.proofs.Math.Option as M
use Rattle.expression.specs.declared.Value.{Value}
use Rattle.expression.specs.Reader.{Outcome, gives, then, head, tail, numbered, read_sum}
use Rattle.expression.specs.Values.{values, no_labels}
use Rattle.assembly.specs.Grammar as G
use Rattle.assembly.specs.Reader.{register}
use Rattle.line.specs.declared.Arg.{Arg}
use Rattle.line.specs.declared.Arg.TheVariants as A
use Rattle.line.specs.declared.Body.{Body}
use Rattle.line.specs.declared.Body.TheVariants as B
use Rattle.line.specs.declared.Line.{Line}

-- ---- what a read thing is

abbrev pub arg_told : Arg → G.Arg Value
arg_told A.None = G.None
arg_told (A.Imm v) = G.Imm v
arg_told (A.Reg r) = G.Reg r
arg_told (A.Dir v) = G.Dir v
arg_told (A.Ind r) = G.Ind r
arg_told (A.Idx r v) = G.Idx r v

abbrev pub body_told : Body → G.Body Value
body_told (B.Word v) = G.Word v
body_told (B.Code o x y) = G.Code o (arg_told x) (arg_told y)

abbrev pub label_told : Option (Bor (List ℕ)) → M.Option (List ℕ)
label_told (Some n) = M.some n.now
label_told None = M.none

abbrev pub line_told : Line → G.Line Value
line_told l = G.line (label_told l.label) (body_told l.body)

-- ---- parts of an operand

-- After a register in square brackets: an index, or none.
unfoldable pub index_of : ℕ → List ℕ → Outcome (G.Arg Value)
index_of r t =
    cond (eqb (head t) 43) (then (numbered (values no_labels) false (tail t)) (λ i u. gives (G.Idx r i) u))
    (cond (eqb (head t) 45) (then (numbered (values no_labels) true (tail t)) (λ i u. gives (G.Idx r i) u)) (gives (G.Ind r) t))

-- After an opening square bracket and spaces, up to the closing one.
unfoldable pub inside_square : (List ℕ → M.Option ℕ) → List ℕ → Outcome (G.Arg Value)
inside_square p t =
    cond (eqb (head t) 37) (then (register (tail t)) index_of) (then (read_sum (values p) 32 t) (λ x u. gives (G.Dir x) u))
