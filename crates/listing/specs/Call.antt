-- "Listings from images": the call.
use Rattle.std.specs.Prelude.{Bool, cond, not, ◌&&◌, ◌||◌, List, [], ◌∷◌, ◌++◌, ℕ, ◌%◌, ℤ, length, drop, leb, eqb}
use Rattle.definition.specs.declared.Done.{Done}
use Rattle.definition.specs.declared.Counted.{Counted}
use Rattle.definition.specs.Memory.{cell_count}
use Rattle.definition.specs.Calls.{Called, called, test, verdict, passes, lowest_damaged}
use Rattle.assembly.specs.Assemble.{counted}
use Rattle.listing.specs.Listing.{image_cells, any_empty, listing}

-- The image's text.
unfoldable pub image_text : List ℤ → List ℕ
image_text image = listing (image_cells image)

-- "9. The image is no whole number of cells [...] or holds a damaged cell."
unfoldable pub is_image : List ℤ → Bool
is_image image = eqb (length image % 3) 0 && eqb (lowest_damaged 0 image) (cell_count image)

-- "16 empty cell without leave"
unfoldable pub may_list : Bool → List ℤ → Bool
may_list leave image = leave || not (any_empty (image_cells image))

-- Any number but 0 is leave.
unfoldable pub has_leave : ℕ → List ℤ → Bool
has_leave leave image = may_list (not (eqb leave 0)) image

-- "17 text buffer too short; in that order after 15"
unfoldable pub listed_check : Bool → List ℤ → List ℕ → Done
listed_check leave image buffer =
    verdict (test 9 0 (is_image image) ∷ test 16 0 (may_list leave image) ∷ test 17 0 (leb (length (image_text image)) (length buffer)) ∷ [])

unfoldable pub list_check : ℕ → List ℤ → List ℕ → Done
list_check leave image buffer = listed_check (not (eqb leave 0)) image buffer

-- A text in the front of a buffer: "the room behind is kept".
abbrev pub in_front : List ℕ → List ℕ → List ℕ
in_front t buffer = t ++ drop (length t) buffer

-- "It answers the count of cells written, Card 3's of bytes, from the front".
unfoldable pub listed : Bool → List ℤ → List ℕ → Called Counted (List ℕ)
listed leave image buffer =
    let d = listed_check leave image buffer in
    cond
    (passes d)
    (called (counted 0 0 (length (image_text image))) (in_front (image_text image) buffer))
    (called (counted d.refusal d.place 0) buffer)

-- The call: any number but 0 is leave.
unfoldable pub list_call : ℕ → List ℤ → List ℕ → Called Counted (List ℕ)
list_call leave image buffer = listed (not (eqb leave 0)) image buffer
