use Rattle.std.proofs.Common.{rules}
use Rattle.definition.specs.Memory.{extract_word}
use Rattle.memory.proofs.Laws.{word-one, word_low, word-high}
use Rattle.memory.proofs.extract_word.Goals as goal

pub returns-then-v-eq1 : goal.returns-then-v-eq1
unfolding extract_word
returns-then-v-eq1 c = let v = c.args.v in word-one v.tag v.first (search rules) (search rules) c.if-v-eq1.true

pub returns-then-v-lt2 : goal.returns-then-v-lt2
unfolding extract_word
returns-then-v-lt2 c = let v = c.args.v in word_low v.tag v.first (search rules) c.if-v-eq1.false c.if-v-lt2.true

pub returns-else-v-lt2 : goal.returns-else-v-lt2
unfolding extract_word
returns-else-v-lt2 c = let v = c.args.v in word-high v.tag v.first (search rules) c.if-v-lt2.false
