-- The course cases, by computation.
use mathlib.Core.Path.{refl}
use Rattle.definition.specs.Word.{wrap, is_word, wrapped, address_of, quotient, is_shift, shl_w, shr_w, and_w, or_w, xor_w, not_w, bit, put_bit, low_byte}
use Rattle.definition.specs.Total.{total}
use Rattle.definition.specs.Exception.{ending}
use Rattle.definition.specs.Memory.{word_at, extract_word, as_address, extract_address, is_instruction, cell_at, put_cell, found, get}
use Rattle.definition.specs.Registers.{reg_at, counted, supervisor, interrupt_enable, get_reg, put_pc, put_sp, put_sr, put_reg}
use Rattle.definition.specs.Arguments.{operand, mode_cost, indexed, resolve, resolved, read_there, cell_there, extract_cell}
use Rattle.definition.specs.Encoding.{op_at, allows, signature, legal, sum_below, cost, decode, instruction_at, extract_instruction, register_fits, is_address, number_fits, sound_instruction, sound_at, sound}
use Rattle.definition.specs.Timer.{interval_of, set_timer, tick, tick_entry, read_timer}
use Rattle.definition.specs.Io.{input_ready, status, read_status, write_control, around, read_data, read_port, write_data, write_port, output_full, delivered, put_bytes, first_free, drained}
use Rattle.definition.specs.Exec.{and_then, branch, or_word, or_address, or_cell, or_given, or_put, permits, write, check_privileged, below, push, pop}
use Rattle.definition.specs.Instructions.{and_flags, put_result, put_wrapped, put_compared, put_quotient, put_shifted, words, neg, not_op, jump, jump_if, call, rtn, pop_op, push_op, ld, st, fas, swap_back, swap, rti, reset, quiet, in_op, out_op, execute}
use Rattle.definition.specs.Runtime.{or_instruction, fetch, attempt, ends, poll, conclude, serve, after_attempt, guard, turn, has_handler, saved, entered_sr, entered_registers, entered_core, entered, recover, elapses, settle, reached, limit, step, later, go_on, run}
use Rattle.definition.specs.Calls.{machine_of, row_of, verdict, is_below, is_mark, lowest_damaged, cells_test, queue_test, output_test, length_test, row_tests, damage_test, fresh_check, fresh, run_check, ran, run_refused, run_call, deliver_check, delivered_row, deliver, drain_check, drain, read_check, read_cell, load_check, loaded, load, is_settable, set_register_check, with_register, set_register, raise_check, raised, raise, calls, answers, lent_supervisor}
use Rattle.definition.specs.Course.{Course, table, cells_of, lent_case, shown, Shows, raised_row}

-- Every definition is opened, and the table runs.
pub course : Course
unfolding wrap is_word wrapped address_of quotient is_shift shl_w shr_w and_w or_w xor_w not_w bit put_bit low_byte total ending word_at extract_word as_address extract_address is_instruction cell_at put_cell found get reg_at counted supervisor interrupt_enable get_reg put_pc put_sp put_sr put_reg operand mode_cost indexed resolve resolved read_there cell_there extract_cell op_at allows signature legal sum_below cost decode instruction_at extract_instruction register_fits is_address number_fits sound_instruction sound_at sound interval_of set_timer tick tick_entry read_timer input_ready status read_status write_control around read_data read_port write_data write_port output_full delivered put_bytes first_free drained and_then branch or_word or_address or_cell or_given or_put permits write check_privileged below push pop and_flags put_result put_wrapped put_compared put_quotient put_shifted words neg not_op jump jump_if call rtn pop_op push_op ld st fas swap_back swap rti reset quiet in_op out_op execute or_instruction fetch attempt ends poll conclude serve after_attempt guard turn has_handler saved entered_sr entered_registers entered_core entered recover elapses settle reached limit step later go_on run machine_of row_of verdict is_below is_mark lowest_damaged cells_test queue_test output_test length_test row_tests damage_test fresh_check fresh run_check ran run_refused run_call deliver_check delivered_row deliver drain_check drain read_check read_cell load_check loaded load is_settable set_register_check with_register set_register raise_check raised raise calls answers lent_supervisor table cells_of lent_case shown Shows raised_row
course = record { table_shows = (refl, (refl, (refl, (refl, (refl, (refl, (refl, (refl, (refl, (refl, (refl, (refl, (refl, (refl, (refl, (refl, (refl, (refl, (refl, (refl, (refl, (refl, (refl, (refl, (refl, (refl, (refl, (refl, (refl, (refl, (refl, (refl, (refl, (refl, (refl, (refl, (refl, (refl, (refl, (refl, (refl, (refl, (refl, (refl, (refl, (refl, (refl, (refl, (refl, (refl, (refl, (refl, (refl, (refl, (refl, (refl, (refl, (refl, (refl, (refl, (refl, (refl, (refl, (refl, (refl, (refl, (refl, tt))))))))))))))))))))))))))))))))))))))))))))))))))))))))))))))))))); raise_shows = record { cycles = refl; remaining = refl; mark = refl } }
