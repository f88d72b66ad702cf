-- Document 01's own case of the runner, by computation: "The proved run's cell lines become `add 5, %a` and `reset`." Assumes nothing.
use mathlib.Core.Path.{◌≡◌, refl, ap, ◌∙◌}
use mathlib.Core.Bool.{true}
use mathlib.Core.List.{List, [], ◌∷◌}
use Prim.Native.Nat.{ℕ}
use lib.IntN.{ℤ, pos}
use Rattle.definition.specs.Total.{total}
use Rattle.definition.specs.Word.{wrap, is_word, wrapped, address_of, bit, put_bit, low_byte}
use Rattle.definition.specs.Exception.{ending}
use Rattle.definition.specs.Memory.{word_at, extract_word, is_instruction, cell_at, put_cell, found, get}
use Rattle.definition.specs.Registers.{reg_at, supervisor, interrupt_enable, get_reg, counted, put_pc, put_sp, put_sr, put_reg}
use Rattle.definition.specs.Arguments.{operand, mode_cost, resolved, read_there, cell_there, extract_cell}
use Rattle.definition.specs.Encoding.{op_at, allows, signature, legal, cost, decode, instruction_at, extract_instruction, register_fits, is_address, number_fits, sound_instruction, sound_at, sound}
use Rattle.definition.specs.Io.{output_full}
use Rattle.definition.specs.Exec.{and_then, branch, or_word, or_cell, or_given, or_put, check_privileged}
use Rattle.definition.specs.Instructions.{and_flags, put_result, put_wrapped, words, reset, quiet, out_op, execute}
use Rattle.definition.specs.Runtime.{or_instruction, fetch, attempt, ends, poll, conclude, serve, after_attempt, turn, has_handler, settle, reached, limit, step, later, go_on, run}
use Rattle.definition.specs.Calls.{called, machine_of, row_of, verdict, is_below, is_mark, lowest_damaged, cells_test, queue_test, output_test, length_test, row_tests, damage_test, run_check, ran, run_call}
use Rattle.definition.specs.Memory.{cell}
use Rattle.lines.specs.Reader.{letter, opening_byte, value_of, digit, comma, minus, plain, within, following, next, start_line, empty_cells}
use Rattle.lines.proofs.Complete.{start_of}
use Rattle.expression.specs.Reader.{then, head, tail, same, front, past, is_space, is_digit, is_letter, decimal, signed, is_star, is_sign, chain, chained, links, numbered, labelled, closed, atom_with, product_with, sum_with, nothing, read_sum, read_product, read_atom}
use Rattle.expression.specs.Reader as E
use Rattle.expression.specs.Values.{number_value, place_value, label_value, plus_value, minus_value, times_value, eval}
use Rattle.expression.specs.Table.{is_labelled, is_inner, next_line}
use Rattle.assembly.specs.Grammar.{mode}
use Rattle.assembly.specs.Reader.{number_from, register, expect, indexed, coded, operands, word_after, content, ended, row, onto, rows_after, rows}
use Rattle.assembly.specs.Reader as A
use Rattle.assembly.specs.Assemble.{sets_label, place_in, arg_of, body_of, arg_misses, arg_exceeds, arg_register, arg_number, misses, exceeds, body_cell, count_set, any_sets, label_wrong, lowest, otherwise, assembled, assemble, put_cells, answered, assemble_call}
use Rattle.assembly.specs.Assemble as J
use Rattle.source.specs.Source.{bounded, start_end, start_read, start_good, after_minus, after_number, numeric_from, begins_numeric, line_after, numeric_line, text_judged, loaded, loading}
use Rattle.std.specs.Prelude.{None, Ok}
use Rattle.printing.specs.Decimal.{decimal_in, numeral}
use Rattle.report.specs.Text.{fields, line, answer_text, registers_text, cells_text, empty_text, run_text}
use Rattle.image_run.specs.Image.{image_run, image_text, report_of, printed}

-- `start,0,0,0`, `add 5, %a`, `reset`
abbrev input : List ℕ
input =
    115 ∷ 116 ∷ 97 ∷ 114 ∷ 116 ∷ 44 ∷ 48 ∷ 44 ∷ 48 ∷ 44 ∷ 48 ∷ 10 ∷ 97 ∷ 100 ∷ 100 ∷ 32 ∷ 53 ∷ 44 ∷ 32 ∷ 37 ∷ 97 ∷ 10 ∷ 114 ∷ 101 ∷ 115 ∷ 101 ∷ 116 ∷ 10 ∷ []

-- The lines that these "give, whole", and the last one: add took the word of a, which is empty.
abbrev output : List ℕ
output = 115 ∷ 116 ∷ 111 ∷ 112 ∷ 44 ∷ 49 ∷ 44 ∷ 48 ∷ 10 ∷ 115 ∷ 116 ∷ 101 ∷ 112 ∷ 115 ∷ 44 ∷ 49 ∷ 10 ∷ 99 ∷ 121 ∷ 99 ∷ 108 ∷ 101 ∷ 115 ∷ 44 ∷ 49 ∷ 10 ∷ 114 ∷ 101 ∷ 103 ∷ 115 ∷ 44 ∷ 49 ∷ 44 ∷ 48 ∷ 44 ∷ 48 ∷ 10 ∷ 97 ∷ 44 ∷ 49 ∷ 44 ∷ 53 ∷ 44 ∷ 48 ∷ 10 ∷ 98 ∷ 44 ∷ 48 ∷ 44 ∷ 48 ∷ 44 ∷ 48 ∷ 10 ∷ 111 ∷ 117 ∷ 116 ∷ 44 ∷ 48 ∷ 10 ∷ 101 ∷ 109 ∷ 112 ∷ 116 ∷ 121 ∷ 44 ∷ 49 ∷ 10 ∷ []

abbrev cells : List ℤ
cells = put_cell (put_cell empty_cells 0 (cell (pos 202) (pos 5) (pos 0))) 1 (cell (pos 20702) (pos 0) (pos 0))

made : assemble_call (next_line input) empty_cells ≡ called (J.counted 0 0 2) cells
unfolding next_line is_inner wrap is_word wrapped address_of op_at allows signature legal is_address then head tail same front past is_space is_digit is_letter decimal signed is_star is_sign chain chained links numbered labelled closed atom_with product_with sum_with nothing E.within read_sum read_product read_atom number_value place_value label_value plus_value minus_value times_value eval is_labelled mode number_from register expect indexed A.operand coded operands word_after content ended row onto rows_after rows sets_label place_in arg_of body_of arg_misses arg_exceeds arg_register arg_number misses exceeds body_cell count_set any_sets label_wrong lowest otherwise J.judged assembled assemble put_cells answered assemble_call
made = refl

started : start_good input ≡ true
unfolding start_good start_read start_end is_inner head front past letter opening_byte value_of digit comma minus plain within following next start_line wrap address_of is_address
started = refl

start_is : (start_read (front is_inner input)).start ≡ start_of (pos 0) (pos 0) (pos 0)
unfolding start_read start_end is_inner front letter opening_byte value_of digit comma minus plain within following next start_line wrap address_of is_address
start_is = refl

none-numeric : numeric_line 1 true (next_line input) ≡ None
unfolding next_line is_inner past tail head is_digit after_minus after_number numeric_from begins_numeric line_after numeric_line following
none-numeric = refl

read : loading input empty_cells ≡ called (loaded (Ok tt) (start_of (pos 0) (pos 0) (pos 0))) cells
unfolding loading text_judged
read = rw (started, made, none-numeric, start_is)

shown : image_text cells (start_of (pos 0) (pos 0) (pos 0)) ≡ output
unfolding total wrap is_word wrapped address_of bit put_bit low_byte ending word_at extract_word is_instruction cell_at put_cell found get reg_at supervisor interrupt_enable get_reg counted put_pc put_sp put_sr put_reg operand mode_cost resolved read_there cell_there extract_cell op_at allows signature legal cost decode instruction_at extract_instruction register_fits is_address number_fits sound_instruction sound_at sound output_full and_then branch or_word or_cell or_given or_put check_privileged and_flags put_result put_wrapped words reset quiet out_op execute or_instruction fetch attempt ends poll conclude serve after_attempt turn has_handler settle reached limit step later go_on run machine_of row_of verdict is_below is_mark lowest_damaged cells_test queue_test output_test length_test row_tests damage_test run_check ran run_call decimal_in numeral fields line answer_text registers_text cells_text empty_text run_text image_run image_text
shown = refl

pub worked : printed input ≡ output
unfolding printed bounded report_of
worked = ap report_of read ∙ shown
