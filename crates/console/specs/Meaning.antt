-- What the code's struct says of the definition's console. Queue and output record are lent beside it.
use Rattle.std.specs.Prelude.{◌≡◌, List, ℕ, set, ℤ, Option, Some, None}
use Rattle.definition.specs.Io.{Console, write_port}
use Rattle.console.specs.declared.ConsoleState.{ConsoleState}

abbrev pub console_of : ConsoleState → List ℕ → List ℕ → Console
console_of k queue output =
    record { marks = k.marks; queue = queue; start = k.start; count = k.count; output = output; written = k.written }

-- The output record once the byte that a write sends, if it sends one, is stored at this place.
abbrev pub sent_to : ℕ → Option ℕ → List ℕ → List ℕ
sent_to at None output = output
sent_to at (Some b) output = set output at b

-- A write to a port by k, what it leaves and sends, and that a byte is sent only to the data port.
pub record Sends (k : ConsoleState) (port : ℕ) (w : ℤ) (after : ConsoleState) (sent : Option ℕ) : Type 0 where
  pub is : (queue output : List ℕ) → console_of after queue (sent_to k.written sent output) ≡ write_port port w (console_of k queue output)
  pub port_is : (b : ℕ) → sent ≡ Some b → port ≡ 111
