-- What a line's numbers make of the list that they are put into, and what is wrong where there is no such place.
use Rattle.std.specs.Prelude.{cond, List, ℕ, ◌-◌, ltb, ℤ, length, set, None, Option, Some, Ok, Err}
use Rattle.definition.specs.Constants.{ROW}
use Rattle.definition.specs.declared.Cell.{Cell}
use Rattle.definition.specs.Memory.{put_cell}
use Rattle.recorded.specs.declared.compare.Fault.TheVariants as F
use Rattle.recorded.specs.Compare.{Verdict}

-- The list as it was, since a number is out of range.
abbrev pub not_put : {A : Type 0} → List A → Verdict × List A
not_put l = (Err F.Number, l)

-- address and cell
abbrev pub cell_put : Option ℕ → Cell → List ℤ → Verdict × List ℤ
cell_put None v l = not_put l
cell_put (Some n) v l = cond (ltb n 10000) (Ok tt, put_cell l n v) (not_put l)

-- place, 1 to 20, and number
abbrev pub number_put : Option ℕ → ℤ → List ℤ → Verdict × List ℤ
number_put None z l = not_put l
number_put (Some n) z l = cond (ltb n 1) (not_put l) (cond (ltb ROW n) (not_put l) (Ok tt, set l (n - 1) z))

-- index, from 0, and byte
abbrev pub byte_put : Option ℕ → Option ℕ → List ℕ → Verdict × List ℕ
byte_put None b l = not_put l
byte_put (Some n) None l = not_put l
byte_put (Some n) (Some b) l = cond (ltb n (length l)) (cond (ltb b 256) (Ok tt, set l n b) (not_put l)) (not_put l)
