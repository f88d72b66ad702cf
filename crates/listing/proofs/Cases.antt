-- Images and their texts, computed. Assumes nothing.
use mathlib.Core.Path.{◌≡◌, refl}
use mathlib.Core.List.{[], ◌∷◌}
use lib.IntN.{pos, negsuc}
use lib.ListN.{replicate}
use Rattle.definition.specs.Word.{address_of}
use Rattle.definition.specs.Encoding.{op_at, allows, signature, legal, is_address, register_fits, number_fits, sound_instruction, sound_at, sound}
use Rattle.definition.specs.Calls.{called, verdict, lowest_damaged}
use Rattle.assembly.specs.Assemble.{counted}
use Rattle.printing.specs.Decimal.{decimal_in, numeral}
use Rattle.listing.specs.Listing.{index_text, operand_text, operands_text, code_text, content_text, line_text, listing, image_cells, any_empty}
use Rattle.listing.specs.Call.{image_text, is_image, may_list, listed_check, listed, list_call}

-- `ld [%a+0], %b`, `out -7, [%sp-9]`, `st %b, [65]`, `.word -9223372036854775808`, `nop` and an empty cell, into one byte more than they take
pub six-lines : list_call 1 (pos 13403 ∷ pos 0 ∷ pos 0 ∷ pos 18280 ∷ negsuc 6 ∷ negsuc 8 ∷ pos 25582 ∷ pos 0 ∷ pos 65 ∷ pos 1 ∷ negsuc 9223372036854775807 ∷ pos 0 ∷ pos 15302 ∷ pos 0 ∷ pos 0 ∷ pos 0 ∷ pos 0 ∷ pos 0 ∷ []) (replicate 82 0) ≡ called (counted 0 0 81) (108 ∷ 100 ∷ 32 ∷ 91 ∷ 37 ∷ 97 ∷ 43 ∷ 48 ∷ 93 ∷ 44 ∷ 32 ∷ 37 ∷ 98 ∷ 10 ∷ 111 ∷ 117 ∷ 116 ∷ 32 ∷ 45 ∷ 55 ∷ 44 ∷ 32 ∷ 91 ∷ 37 ∷ 115 ∷ 112 ∷ 45 ∷ 57 ∷ 93 ∷ 10 ∷ 115 ∷ 116 ∷ 32 ∷ 37 ∷ 98 ∷ 44 ∷ 32 ∷ 91 ∷ 54 ∷ 53 ∷ 93 ∷ 10 ∷ 46 ∷ 119 ∷ 111 ∷ 114 ∷ 100 ∷ 32 ∷ 45 ∷ 57 ∷ 50 ∷ 50 ∷ 51 ∷ 51 ∷ 55 ∷ 50 ∷ 48 ∷ 51 ∷ 54 ∷ 56 ∷ 53 ∷ 52 ∷ 55 ∷ 55 ∷ 53 ∷ 56 ∷ 48 ∷ 56 ∷ 10 ∷ 110 ∷ 111 ∷ 112 ∷ 10 ∷ 46 ∷ 119 ∷ 111 ∷ 114 ∷ 100 ∷ 32 ∷ 48 ∷ 10 ∷ 0 ∷ [])
unfolding op_at allows signature legal address_of is_address register_fits number_fits sound_instruction sound_at sound verdict lowest_damaged decimal_in numeral index_text operand_text operands_text code_text content_text line_text listing image_cells any_empty image_text is_image may_list listed_check listed list_call
six-lines = refl

-- the same, one byte short
pub one-byte-short : list_call 1 (pos 13403 ∷ pos 0 ∷ pos 0 ∷ pos 18280 ∷ negsuc 6 ∷ negsuc 8 ∷ pos 25582 ∷ pos 0 ∷ pos 65 ∷ pos 1 ∷ negsuc 9223372036854775807 ∷ pos 0 ∷ pos 15302 ∷ pos 0 ∷ pos 0 ∷ pos 0 ∷ pos 0 ∷ pos 0 ∷ []) (replicate 80 0) ≡ called (counted 17 0 0) (replicate 80 0)
unfolding op_at allows signature legal address_of is_address register_fits number_fits sound_instruction sound_at sound verdict lowest_damaged decimal_in numeral index_text operand_text operands_text code_text content_text line_text listing image_cells any_empty image_text is_image may_list listed_check listed list_call
one-byte-short = refl

-- an empty cell without leave, and no buffer: 16 comes before 17
pub no-leave-first : list_call 0 (pos 0 ∷ pos 0 ∷ pos 0 ∷ []) ([]) ≡ called (counted 16 0 0) ([])
unfolding op_at allows signature legal address_of is_address register_fits number_fits sound_instruction sound_at sound verdict lowest_damaged decimal_in numeral index_text operand_text operands_text code_text content_text line_text listing image_cells any_empty image_text is_image may_list listed_check listed list_call
no-leave-first = refl

-- an empty cell without leave and a damaged one: 9 comes before 16
pub damaged-first : list_call 0 (pos 0 ∷ pos 0 ∷ pos 0 ∷ pos 1 ∷ pos 0 ∷ pos 1 ∷ []) ([]) ≡ called (counted 9 0 0) ([])
unfolding op_at allows signature legal address_of is_address register_fits number_fits sound_instruction sound_at sound verdict lowest_damaged decimal_in numeral index_text operand_text operands_text code_text content_text line_text listing image_cells any_empty image_text is_image may_list listed_check listed list_call
damaged-first = refl

-- an image of no cells
pub nothing : list_call 0 [] (7 ∷ []) ≡ called (counted 0 0 0) (7 ∷ [])
unfolding op_at allows signature legal address_of is_address register_fits number_fits sound_instruction sound_at sound verdict lowest_damaged decimal_in numeral index_text operand_text operands_text code_text content_text line_text listing image_cells any_empty image_text is_image may_list listed_check listed list_call
nothing = refl
