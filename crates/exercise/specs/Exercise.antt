-- "A stated exercise load": a lent image filled from a seed.
use Rattle.std.specs.Prelude.{ℕ, zero, suc, ◌+◌, ◌*◌, ◌/◌, ◌%◌, ◌^◌, Bool, cond, List, [], ◌∷◌, length, ℤ, pos, ◌==◌, slice_index}
use Rattle.definition.specs.declared.Cell.{Cell}
use Rattle.definition.specs.declared.Done.{Done}
use Rattle.definition.specs.declared.Counted.{Counted}
use Rattle.definition.specs.Memory.{cell, cell_count}
use Rattle.definition.specs.Encoding.{legal, tag_of, register_fits, number_fits}
use Rattle.definition.specs.Calls.{Called, called, test, verdict, passes}

-- "state times 6364136223846793005 plus 1442695040888963407 modulo 2^64 gives the next state"
unfoldable pub next_state : ℕ → ℕ
next_state s = (s * 6364136223846793005 + 1442695040888963407) % 2 ^ 64

-- "whose upper 32 bits are the draw"
unfoldable pub draw : ℕ → ℕ
draw s = s / 2 ^ 32

-- Is the table's entry k, op × 36 + m1 × 6 + m2, an instruction?
abbrev pub is_form : ℕ → Bool
is_form k = legal (k / 36) (k / 6 % 6) (k % 6)

-- The forms among the n entries from k on.
unfoldable pub forms_from : ℕ → ℕ → List ℕ
forms_from zero k = []
forms_from (suc n) k = let l = forms_from n (suc k) in cond (is_form k) (k ∷ l) l

-- The forms "in table order, op slowest and m2 fastest", each by its entry.
unfoldable pub forms : List ℕ
forms = forms_from 1188 0

-- "the first [draw] modulo 124 picks the form"
unfoldable pub form_of : ℕ → ℕ
form_of d = slice_index forms (d % 124)

-- A register, "0 where unused".
unfoldable pub register : ℕ → ℕ → ℕ
register m r = cond (register_fits m r) r 0

-- A number in its place, 0 where the mode holds none. One below 16,384 is an address, as a direct one has to be.
unfoldable pub number : ℕ → ℤ → ℤ
number m w = cond (number_fits m w) w (pos 0)

-- "Three draws make a cell: the first [...] picks the form [...]; the second picks its registers, r1 by modulo 5 and r2 by the quotient
-- modulo 5, 0 where unused; the third modulo 16,384 is every number that the form holds."
unfoldable pub cell_of : ℕ → ℕ → ℕ → Cell
cell_of d₁ d₂ d₃ =
    let k = form_of d₁ in
    let m₁ = k / 6 % 6 in
    let m₂ = k % 6 in
    let w = pos (d₃ % 16384) in
    cell (pos (tag_of (k / 36) m₁ m₂ (register m₁ (d₂ % 5)) (register m₂ (d₂ / 5 % 5)))) (number m₁ w) (number m₂ w)

-- The state after a cell's three draws, and the cell that they make. The first state drawn from is the one after s.
abbrev pub third_state : ℕ → ℕ
third_state s = next_state (next_state (next_state s))

unfoldable pub cell_from : ℕ → Cell
cell_from s = cell_of (draw (next_state s)) (draw (next_state (next_state s))) (draw (third_state s))

-- So many cells, one after another, from state s on.
unfoldable pub made : ℕ → ℕ → List ℤ
made zero s = []
made (suc n) s = (cell_from s).tag ∷ (cell_from s).first ∷ (cell_from s).second ∷ made n (third_state s)

-- "9. The image is no whole number of cells": the only test.
unfoldable pub exercise_check : List ℤ → Done
exercise_check image = verdict (test 9 0 (length image % 3 == 0) ∷ [])

-- "A lent image is filled from a 64-bit seed"
unfoldable pub exercise : List ℤ → ℕ → Called Counted (List ℤ)
exercise image seed =
    let d = exercise_check image in
    cond
    (passes d)
    (called (record { refusal = 0; place = 0; count = cell_count image }) (made (cell_count image) seed))
    (called (record { refusal = d.refusal; place = d.place; count = 0 }) image)
