-- Texts and what is made of them, computed. Assumes nothing.
use mathlib.Core.Path.{◌≡◌, refl}
use mathlib.Core.List.{[], ◌∷◌}
use lib.IntN.{pos, negsuc}
use Rattle.definition.specs.Memory.{cell}
use Rattle.definition.specs.Word.{wrap, is_word, wrapped, address_of}
use Rattle.definition.specs.Encoding.{tag_of, op_at, allows, signature, legal, is_address}
use Rattle.expression.specs.Reader.{then, head, tail, same, front, past, is_space, is_digit, is_letter, decimal, signed, is_star, is_sign, chain, chained, links, numbered, labelled, closed, atom_with, product_with, sum_with, nothing, within, read_sum, read_product, read_atom}
use Rattle.expression.specs.Values.{number_value, place_value, label_value, plus_value, minus_value, times_value, eval}
use Rattle.expression.specs.Table.{is_labelled}
use Rattle.assembly.specs.Grammar.{mode}
use Rattle.assembly.specs.Reader.{number_from, register, expect, indexed, operand, coded, operands, word_after, content, ended, row, onto, rows_after, rows}
use Rattle.assembly.specs.Assemble.{cells, refuses, sets_label, place_in, arg_of, body_of, arg_misses, arg_exceeds, arg_register, arg_number, misses, exceeds, body_cell, count_set, any_sets, label_wrong, lowest, otherwise, judged, assembled, assemble}

-- 'loop: add 5, %a\n  jmp loop\n'
pub two-lines : assemble 4 (108 ∷ 111 ∷ 111 ∷ 112 ∷ 58 ∷ 32 ∷ 97 ∷ 100 ∷ 100 ∷ 32 ∷ 53 ∷ 44 ∷ 32 ∷ 37 ∷ 97 ∷ 10 ∷ 32 ∷ 32 ∷ 106 ∷ 109 ∷ 112 ∷ 32 ∷ 108 ∷ 111 ∷ 111 ∷ 112 ∷ 10 ∷ []) ≡ cells (cell (pos (tag_of 0 1 2 0 0)) (pos 5) (pos 0) ∷ cell (pos (tag_of 7 1 0 0 0)) (pos 0) (pos 0) ∷ [])
unfolding wrap is_word wrapped address_of op_at allows signature legal is_address then head tail same front past is_space is_digit is_letter decimal signed is_star is_sign chain chained links numbered labelled closed atom_with product_with sum_with nothing within read_sum read_product read_atom number_value place_value label_value plus_value minus_value times_value eval is_labelled mode number_from register expect indexed operand coded operands word_after content ended row onto rows_after rows sets_label place_in arg_of body_of arg_misses arg_exceeds arg_register arg_number misses exceeds body_cell count_set any_sets label_wrong lowest otherwise judged assembled assemble
two-lines = refl

-- 'jmp end\n.word (2 + 3) * -2\nend:ld [%sp+1], %b\n'
pub forward : assemble 3 (106 ∷ 109 ∷ 112 ∷ 32 ∷ 101 ∷ 110 ∷ 100 ∷ 10 ∷ 46 ∷ 119 ∷ 111 ∷ 114 ∷ 100 ∷ 32 ∷ 40 ∷ 50 ∷ 32 ∷ 43 ∷ 32 ∷ 51 ∷ 41 ∷ 32 ∷ 42 ∷ 32 ∷ 45 ∷ 50 ∷ 10 ∷ 101 ∷ 110 ∷ 100 ∷ 58 ∷ 108 ∷ 100 ∷ 32 ∷ 91 ∷ 37 ∷ 115 ∷ 112 ∷ 43 ∷ 49 ∷ 93 ∷ 44 ∷ 32 ∷ 37 ∷ 98 ∷ 10 ∷ []) ≡ cells (cell (pos (tag_of 7 1 0 0 0)) (pos 2) (pos 0) ∷ cell (pos 1) (negsuc 9) (pos 0) ∷ cell (pos (tag_of 14 5 2 3 1)) (pos 1) (pos 0) ∷ [])
unfolding wrap is_word wrapped address_of op_at allows signature legal is_address then head tail same front past is_space is_digit is_letter decimal signed is_star is_sign chain chained links numbered labelled closed atom_with product_with sum_with nothing within read_sum read_product read_atom number_value place_value label_value plus_value minus_value times_value eval is_labelled mode number_from register expect indexed operand coded operands word_after content ended row onto rows_after rows sets_label place_in arg_of body_of arg_misses arg_exceeds arg_register arg_number misses exceeds body_cell count_set any_sets label_wrong lowest otherwise judged assembled assemble
forward = refl

-- 'nop\nadd5, %a\n'
pub no-space : assemble 2 (110 ∷ 111 ∷ 112 ∷ 10 ∷ 97 ∷ 100 ∷ 100 ∷ 53 ∷ 44 ∷ 32 ∷ 37 ∷ 97 ∷ 10 ∷ []) ≡ refuses 13 2
unfolding wrap is_word wrapped address_of op_at allows signature legal is_address then head tail same front past is_space is_digit is_letter decimal signed is_star is_sign chain chained links numbered labelled closed atom_with product_with sum_with nothing within read_sum read_product read_atom number_value place_value label_value plus_value minus_value times_value eval is_labelled mode number_from register expect indexed operand coded operands word_after content ended row onto rows_after rows sets_label place_in arg_of body_of arg_misses arg_exceeds arg_register arg_number misses exceeds body_cell count_set any_sets label_wrong lowest otherwise judged assembled assemble
no-space = refl

-- 'nop\nnop\n'
pub no_room : assemble 1 (110 ∷ 111 ∷ 112 ∷ 10 ∷ 110 ∷ 111 ∷ 112 ∷ 10 ∷ []) ≡ refuses 13 2
unfolding wrap is_word wrapped address_of op_at allows signature legal is_address then head tail same front past is_space is_digit is_letter decimal signed is_star is_sign chain chained links numbered labelled closed atom_with product_with sum_with nothing within read_sum read_product read_atom number_value place_value label_value plus_value minus_value times_value eval is_labelled mode number_from register expect indexed operand coded operands word_after content ended row onto rows_after rows sets_label place_in arg_of body_of arg_misses arg_exceeds arg_register arg_number misses exceeds body_cell count_set any_sets label_wrong lowest otherwise judged assembled assemble
no_room = refl

-- 'jmp there\n.word 9223372036854775808\n'
pub missing-label : assemble 2 (106 ∷ 109 ∷ 112 ∷ 32 ∷ 116 ∷ 104 ∷ 101 ∷ 114 ∷ 101 ∷ 10 ∷ 46 ∷ 119 ∷ 111 ∷ 114 ∷ 100 ∷ 32 ∷ 57 ∷ 50 ∷ 50 ∷ 51 ∷ 51 ∷ 55 ∷ 50 ∷ 48 ∷ 51 ∷ 54 ∷ 56 ∷ 53 ∷ 52 ∷ 55 ∷ 55 ∷ 53 ∷ 56 ∷ 48 ∷ 56 ∷ 10 ∷ []) ≡ refuses 14 1
unfolding wrap is_word wrapped address_of op_at allows signature legal is_address then head tail same front past is_space is_digit is_letter decimal signed is_star is_sign chain chained links numbered labelled closed atom_with product_with sum_with nothing within read_sum read_product read_atom number_value place_value label_value plus_value minus_value times_value eval is_labelled mode number_from register expect indexed operand coded operands word_after content ended row onto rows_after rows sets_label place_in arg_of body_of arg_misses arg_exceeds arg_register arg_number misses exceeds body_cell count_set any_sets label_wrong lowest otherwise judged assembled assemble
missing-label = refl

-- 'a:nop\na:nop\n'
pub set-again : assemble 2 (97 ∷ 58 ∷ 110 ∷ 111 ∷ 112 ∷ 10 ∷ 97 ∷ 58 ∷ 110 ∷ 111 ∷ 112 ∷ 10 ∷ []) ≡ refuses 14 2
unfolding wrap is_word wrapped address_of op_at allows signature legal is_address then head tail same front past is_space is_digit is_letter decimal signed is_star is_sign chain chained links numbered labelled closed atom_with product_with sum_with nothing within read_sum read_product read_atom number_value place_value label_value plus_value minus_value times_value eval is_labelled mode number_from register expect indexed operand coded operands word_after content ended row onto rows_after rows sets_label place_in arg_of body_of arg_misses arg_exceeds arg_register arg_number misses exceeds body_cell count_set any_sets label_wrong lowest otherwise judged assembled assemble
set-again = refl

-- 'nop\nst %a, [-1]\n'
pub too_large : assemble 2 (110 ∷ 111 ∷ 112 ∷ 10 ∷ 115 ∷ 116 ∷ 32 ∷ 37 ∷ 97 ∷ 44 ∷ 32 ∷ 91 ∷ 45 ∷ 49 ∷ 93 ∷ 10 ∷ []) ≡ refuses 15 2
unfolding wrap is_word wrapped address_of op_at allows signature legal is_address then head tail same front past is_space is_digit is_letter decimal signed is_star is_sign chain chained links numbered labelled closed atom_with product_with sum_with nothing within read_sum read_product read_atom number_value place_value label_value plus_value minus_value times_value eval is_labelled mode number_from register expect indexed operand coded operands word_after content ended row onto rows_after rows sets_label place_in arg_of body_of arg_misses arg_exceeds arg_register arg_number misses exceeds body_cell count_set any_sets label_wrong lowest otherwise judged assembled assemble
too_large = refl

-- 'st %a , [ 100 ]\nout 7, [%b - 3]\n'
pub store : assemble 2 (115 ∷ 116 ∷ 32 ∷ 37 ∷ 97 ∷ 32 ∷ 44 ∷ 32 ∷ 91 ∷ 32 ∷ 49 ∷ 48 ∷ 48 ∷ 32 ∷ 93 ∷ 10 ∷ 111 ∷ 117 ∷ 116 ∷ 32 ∷ 55 ∷ 44 ∷ 32 ∷ 91 ∷ 37 ∷ 98 ∷ 32 ∷ 45 ∷ 32 ∷ 51 ∷ 93 ∷ 10 ∷ []) ≡ refuses 13 2
unfolding wrap is_word wrapped address_of op_at allows signature legal is_address then head tail same front past is_space is_digit is_letter decimal signed is_star is_sign chain chained links numbered labelled closed atom_with product_with sum_with nothing within read_sum read_product read_atom number_value place_value label_value plus_value minus_value times_value eval is_labelled mode number_from register expect indexed operand coded operands word_after content ended row onto rows_after rows sets_label place_in arg_of body_of arg_misses arg_exceeds arg_register arg_number misses exceeds body_cell count_set any_sets label_wrong lowest otherwise judged assembled assemble
store = refl
