-- What differs first, and that a comparison finds nothing exactly where the two are the same.
use Rattle.std.specs.Prelude.{◌≡◌, Bool, cond, ℕ, eqb, nat_eq, Result, Ok, Err}
use Rattle.std.specs.Ordering.{int_eq}
use lib.Pointwise.{pointwise}
use Rattle.definition.specs.declared.Done.{Done}
use Rattle.definition.specs.declared.Drained.{Drained}
use Rattle.definition.specs.declared.Raised.{Raised}
use Rattle.definition.specs.declared.Ran.{Ran}
use Rattle.recorded.specs.declared.compare.Answer.{Answer}
use Rattle.recorded.specs.declared.compare.Fault.{Fault}
use Rattle.recorded.specs.declared.compare.Fault.TheVariants as F
use Rattle.recorded.specs.declared.machine.Machine.{Machine}

-- Nothing differs, or this does.
abbrev pub Verdict : Type 0
Verdict = Result (Unit {0}) Fault

abbrev pub Exactly : Type 0 → Verdict → Type 0
Exactly Same r = (r ≡ Ok tt → Same) × (Same → r ≡ Ok tt)

-- The fault, unless this holds; then what is found after.
abbrev pub unless : Bool → Fault → Verdict → Verdict
unless holds f after = cond holds after (Err f)

-- refusal, its place, stop, detail, count and empty reads
abbrev pub answer : ℕ → ℕ → ℕ → ℕ → ℕ → ℕ → Answer
answer r p s d n e = record { refusal = r; place = p; stop = s; detail = d; count = n; empty = e }

-- What each call answers; the numbers that it does not give are 0.
abbrev pub of_done : Done → Answer
of_done x = answer x.refusal x.place 0 0 0 0

abbrev pub of_drained : Drained → Answer
of_drained x = answer x.refusal x.place 0 0 x.count 0

abbrev pub of_raised : Raised → Answer
of_raised x = answer x.refusal x.place x.stop x.detail 0 0

abbrev pub of_ran : Ran → Answer
of_ran x = answer x.refusal x.place x.stop x.detail x.steps x.empty

-- "Lines 10 to 14 [...] compare its answer": in the order refusal, its place, stop, detail, count, empty reads.
unfoldable pub answer_fault : Answer → Answer → Verdict
answer_fault got due =
    unless (eqb got.refusal due.refusal) F.Refusal (
    unless (eqb got.place due.place) F.Place (
    unless (eqb got.stop due.stop) F.Stop (
    unless (eqb got.detail due.detail) F.Detail (
    unless (eqb got.count due.count) F.Count (
    unless (eqb got.empty due.empty) F.Empty (Ok tt))))))

-- "Line 29 compares the two in every cell, every number of the row and every byte": in the order row, cells, queue, output record, buffer.
unfoldable pub left_fault : Machine → Machine → Verdict
left_fault machine due =
    unless (pointwise int_eq machine.row due.row) F.Row (
    unless (pointwise int_eq machine.cells due.cells) F.Cells (
    unless (pointwise nat_eq machine.queue due.queue) F.Queue (
    unless (pointwise nat_eq machine.output due.output) F.Output (
    unless (pointwise nat_eq machine.buffer due.buffer) F.Buffer (Ok tt)))))
