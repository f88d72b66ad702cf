-- What a refusal answers as the verdict of a list of tests.
use mathlib.Core.Path.{◌≡◌, sym, ap}
use mathlib.Core.Bool.{true, false}
use mathlib.Core.List.{List}
use native.Mathlib.Omega.{arith}
use Rattle.definition.specs.declared.answers.Refusal.{Refusal}
use Rattle.definition.specs.Calls.{Test, accepted, verdict, passes}
use Rattle.definition.specs.Answers.{refused}
use Rattle.definition.proofs.Verdict.{numbered, verdict-passes, Passes}

-- no refusal has number 0
pub number_some : (e : Refusal) → passes (refused e) ≡ false
number_some e = grind arith

-- Where nothing is refused, all tests passed.
pub accepted-passes : (ts : List Test) → numbered ts ≡ true → accepted ≡ verdict ts → Passes ts
accepted-passes ts n h = verdict-passes ts n (sym (ap passes h))
