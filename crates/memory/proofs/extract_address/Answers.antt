use mathlib.Core.Path.{◌∙◌, ap}
use Rattle.definition.specs.Memory.{as_address, extract_address}
use Rattle.memory.proofs.extract_address.Goals as goal

pub returns : goal.returns
unfolding extract_address
returns c =
    let at-extract-word = c in
    c.as_address.ensures ∙ ap as_address at-extract-word.extract_word.ensures
