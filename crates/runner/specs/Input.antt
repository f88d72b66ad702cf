-- What the runner makes of its input, as far as it is known which bytes that has left: the system does not say, a reader over memory does.
use Rattle.std.specs.Prelude.{◌≡◌, List, ℕ, Option, IfSome, length, take}
use Rattle.io.specs.Counts.{IsPrefixLen}
use Rattle.image_run.specs.declared.Output.{Output}
use Rattle.image_run.specs.Image.{printed_of}

-- The first n bytes of the text are what was read: the front of the input, as much of it as there is room for.
pub record ReadsFront (known : Option (List ℕ)) (text : List ℕ) (n : ℕ) : Type 0 where
  pub bound : IsPrefixLen n text
  pub front : IfSome known (λ input. take n text ≡ take (length text) input)

-- What is printed is what the definition prints of the text that was read.
pub record ReportsInput (known : Option (List ℕ)) (p : Output) : Type 0 where
  pub text : List ℕ
  pub front : IfSome known (λ input. text ≡ take 32769 input)
  pub printed : p ≡ printed_of text
