-- What the replay makes of its input. Which bytes the input has no contract says, so each of these speaks of some text.
use Rattle.std.specs.Prelude.{◌≡◌, ℕ}
use mathlib.Core.List.{List, foldl}
use Rattle.recorded_cases.specs.declared.state.State.{State}
use Rattle.recorded_calls.specs.declared.act.Reading.{Reading}
use Rattle.recorded_calls.specs.Replay.{byte_taken, at_end, printed}

-- All reads so far: the replay is the fold over what they gave.
pub record TextTaken (before after : Reading) : Type 0 where
  pub text : List ℕ
  pub taken : after ≡ foldl byte_taken before text

-- The whole input: where the replay of it ends.
pub record TextReplayed (before : Reading) (end : State) : Type 0 where
  pub text : List ℕ
  pub ended : end ≡ at_end (foldl byte_taken before text)

-- out is what the definition prints of the text that was read.
pub record Reported (out : List ℕ) : Type 0 where
  pub text : List ℕ
  pub put : out ≡ printed text
