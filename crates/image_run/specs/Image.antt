-- How the runner runs a program (document 01, "The runner"; document 02, Card 7).
use Rattle.std.specs.Prelude.{List, [], ℕ, ℤ, pos, Result, Ok, Err, replicate}
use Rattle.definition.specs.declared.Ran.{Ran}
use Rattle.definition.specs.Constants.{ROW, ROW-PC, ROW-SP, ROW-SR}
use Rattle.definition.specs.Calls.{put, Called, Lent, lent, run_call}
use Rattle.lines.specs.declared.Start.{Start}
use Rattle.lines.specs.Reader.{empty_cells}
use Rattle.image_run.specs.declared.Output.{Output}
use Rattle.source.specs.declared.Refused.{Refused}
use Rattle.source.specs.declared.Loaded.{Loaded}
use Rattle.source.specs.Source.{bounded, loading}
use Rattle.source.specs.Message.{message_text}
use Rattle.report.specs.Text.{run_text, refusal_text}

-- pc, sp and sr in the row.
abbrev pub start_row : List ℤ → Start → List ℤ
start_row row s = put ROW-SR s.sr (put ROW-SP s.sp (put ROW-PC s.pc row))

-- "start,pc,sp,sr" in a row of zeros.
abbrev pub image_row : Start → List ℤ
image_row s = start_row (replicate ROW (pos 0)) s

-- "queue 256, output 4,096, budget 100,000"
unfoldable pub image_run : List ℤ → List ℤ → Called Ran Lent
image_run cells row = run_call 100000 (lent cells (replicate 256 0) (replicate 4096 0) row)

-- The lines of an image: a row of zeros but for pc, sp and sr, run on these cells.
unfoldable pub image_text : List ℤ → Start → List ℕ
image_text cells s =
    let m = image_run cells (image_row s) in
    run_text m.answer m.left.row

-- What is printed where these cells are left: the lines of the run, or "`refused`, number and line".
abbrev pub outcome_text : List ℤ → Start → Result (Unit {0}) Refused → List ℕ
outcome_text cells s (Ok _) = image_text cells s
outcome_text cells s (Err e) = refusal_text e.number e.place

-- What a person is told of a text on standard error.
abbrev pub outcome_message : List ℕ → Result (Unit {0}) Refused → List ℕ
outcome_message t (Ok _) = []
outcome_message t (Err e) = message_text t e.number e.place

-- What is printed and told of a file within the limit.
unfoldable pub report_of : Called Loaded (List ℤ) → List ℕ
report_of m = outcome_text m.left m.answer.start m.answer.outcome

unfoldable pub message_of : List ℕ → Called Loaded (List ℤ) → List ℕ
message_of t m = outcome_message t m.answer.outcome

abbrev pub printed_texts : List ℕ → List ℕ × List ℕ
printed_texts t = let m = loading t empty_cells in (report_of m, message_of t m)

-- A file, "loaded from cell 0" of 2,048 empty cells.
abbrev pub loaded_file : List ℕ → Called Loaded (List ℤ)
loaded_file file = loading (bounded file) empty_cells

-- What the runner prints of a whole file, on standard output and on standard error.
unfoldable pub printed : List ℕ → List ℕ
printed file = report_of (loaded_file file)

unfoldable pub said : List ℕ → List ℕ
said file = message_of (bounded file) (loaded_file file)

abbrev pub printed_of : List ℕ → Output
printed_of file = record { out = printed file; err = said file }
