use Rattle.std.proofs.Common.{refl}
use Rattle.expression.specs.Reader.{same}
use Rattle.assembly.specs.Grammar.{mnemonics}
use Rattle.assembly.specs.Reader.{number_from}
use Rattle.line.proofs.Places.{empty-named}
use Rattle.line.proofs.names.mnemonic.Goals as goal

pub returns-in_err-letter : goal.returns-in_err-letter
unfolding number_from same
returns-in_err-letter c = rw c.from_residual.ensures (empty-named mnemonics c.args.s.now c.in_err-letter.ensures.cases refl)
