-- What Theorems states: a listing is a text of the grammar, and assembling it gives the cells back. Assumes nothing.
use mathlib.Core.Path.{◌≡◌, refl, sym, ap, ◌∙◌}
use mathlib.Core.Logic.{◌≢◌}
use mathlib.Core.Bool.{Bool, true, false, not, ◌&&◌, ◌||◌}
use mathlib.Core.List.{List, [], ◌∷◌, map}
use mathlib.Core.Option.{Option, none}
use Prim.Native.Nat.{ℕ, zero, suc, ◌+◌, ◌*◌, ◌/◌, ◌%◌}
use native.Mathlib.Omega.{arith}
use lib.IntN.{ℤ, pos, negsuc}
use lib.ListN.{length, drop}
use lib.Seq.{take-append_seam, drop-append_seam}
use lib.Dec.{leb, eqb}
use borrow.Author.Tests.{eqb-true, eq-eqb}
use Rattle.definition.specs.declared.Cell.{Cell}
use Rattle.definition.specs.declared.Counted.{Counted}
use Rattle.definition.specs.Word.{is_word, eq_z}
use Rattle.definition.specs.Memory.{cell, cell_count, put_cell}
use Rattle.definition.specs.Encoding.{sound}
use Rattle.definition.specs.Calls.{Called, called, verdict, passes, lowest_damaged}
use Rattle.expression.specs.Grammar.{Expr}
use Rattle.expression.proofs.Spans.{by_bool, clash}
use Rattle.expression.proofs.Sound.{both}
use Rattle.assembly.specs.Grammar.{Line, Rows}
use Rattle.assembly.specs.Grammar as G
use Rattle.assembly.specs.Assemble.{place_in, labels_of, line_values, line_cell, label_wrong, lowest, wrong_labels, wrong_values, cells, otherwise, judged, assembled, assemble, counted, put_cells, answered, assemble_call}
use Rattle.assembly.proofs.Complete.{rows-complete}
use Rattle.assembly.proofs.Cells.{one-reading}
use Rattle.listing.specs.Listing.{listing, image_cells, is_empty, any_empty}
use Rattle.listing.specs.Call.{image_text, is_image, may_list, listed_check, in_front, listed, list_call}
use Rattle.listing.specs.Theorems.{all_words, kept_at, kept, numbers_of, listed_back, ListLaws}
use Rattle.listing.proofs.Readings.{shortest, line_of, line_reads, whole_of, line-of}

-- ---- cells in order

pub data Good : List Cell → Type 0 where
  nil : Good []
  more : {v : Cell} {vs : List Cell} → sound v ≡ true → is_word v.first ≡ true → is_word v.second ≡ true → Good vs → Good (v ∷ vs)

listing-reads : {vs : List Cell} → Good vs → Rows 32 (listing vs) (map line_of vs)
unfolding listing
listing-reads nil = G.end
listing-reads (more {v} h x y g) = G.more (line_reads 32 v h x y) (listing-reads g)

line-count : (vs : List Cell) → length (map line_of vs) ≡ length vs
line-count [] = refl
line-count (v ∷ vs) = ap suc (line-count vs)

module _ (p : List ℕ → Option ℕ) where
  labels_right : (k : ℕ) (before : List (Option (List ℕ))) {vs : List Cell} → Good vs → lowest wrong_labels k before (map (line_values p) (map line_of vs)) ≡ none
  unfolding lowest label_wrong
  labels_right k before nil = refl
  labels_right k before (more {v} h x y g) = rw (whole_of p v h x y).found (labels_right (suc k) (none ∷ before) g)

  values-right : (k : ℕ) (before : List (Option (List ℕ))) {vs : List Cell} → Good vs → lowest wrong_values k before (map (line_values p) (map line_of vs)) ≡ none
  unfolding lowest
  values-right k before nil = refl
  values-right k before (more {v} h x y g) = rw (whole_of p v h x y).fits (values-right (suc k) (none ∷ before) g)

  cells-back : {vs : List Cell} → Good vs → map line_cell (map (line_values p) (map line_of vs)) ≡ map kept vs
  cells-back nil = refl
  cells-back (more {v} h x y g) = rw ((whole_of p v h x y).is, cells-back g)

pub assembles : {vs : List Cell} → Good vs → assemble (length vs) (listing vs) ≡ cells (map kept vs)
unfolding assemble assembled judged otherwise
assembles {vs} g =
    let p = place_in 0 (labels_of (map line_of vs)) in
    let l = line-count vs in
    rw (rows-complete 32 (length vs) (listing-reads g) (omega arith), labels_right p 0 [] g, values-right p 0 [] g, cells-back p g)

-- "each text has one reading": whatever derivation a listing has, it makes these cells
reading-makes : {vs : List Cell} → Good vs → (ls : List (Line Expr)) → Rows 32 (listing vs) ls → (p : List ℕ → Option ℕ) → map line_cell (map (line_values p) ls) ≡ map kept vs
reading-makes {vs} g ls r p =
    ap (λ (l : List (Line Expr)). map line_cell (map (line_values p) l)) (one-reading (listing vs) ls (map line_of vs) r (listing-reads g)) ∙ cells-back p g

-- ---- the image's cells

cells-good : (k : ℕ) (image : List ℤ) → lowest_damaged k image ≡ k + cell_count image → all_words image ≡ true → Good (image_cells image)
unfolding image_cells lowest_damaged all_words
cells-good k [] h w = nil
cells-good k (t ∷ []) h w = nil
cells-good k (t ∷ f ∷ []) h w = nil
cells-good k (t ∷ f ∷ s ∷ l) h w =
    let a = both (is_word t) (is_word f && (is_word s && all_words l)) w in
    let b = both (is_word f) (is_word s && all_words l) a.1 in
    let c = both (is_word s) (all_words l) b.1 in
    by_bool (sound (cell t f s))
    (λ e. more e b.0 c.0 (cells-good (suc k) l (rw e at h ∙ omega arith) c.1))
    (λ e. let z : k ≡ k + suc (suc (suc (length l))) / 3 = rw e at h in absurd (omega arith))

image-good : (image : List ℤ) → lowest_damaged 0 image ≡ cell_count image → all_words image ≡ true → Good (image_cells image)
image-good image h w = cells-good 0 image (h ∙ omega arith) w

pub count-cells : (image : List ℤ) → length (image_cells image) ≡ cell_count image
unfolding image_cells
count-cells [] = refl
count-cells (t ∷ []) = refl
count-cells (t ∷ f ∷ []) = refl
count-cells (t ∷ f ∷ s ∷ l) = let a = count-cells l in omega arith

numbers-back : (image : List ℤ) → length image % 3 ≡ 0 → numbers_of (image_cells image) ≡ image
unfolding image_cells numbers_of
numbers-back [] h = refl
numbers-back (t ∷ []) h = absurd (omega arith)
numbers-back (t ∷ f ∷ []) h = absurd (omega arith)
numbers-back (t ∷ f ∷ s ∷ l) h = ap (λ (r : List ℤ). t ∷ f ∷ s ∷ r) (numbers-back l (omega arith))

kept-cell : (v : Cell) → is_empty v ≡ false → kept v ≡ v
unfolding kept_at
kept-cell v e = go v.tag v.first v.second e
  where
    go : (t f s : ℤ) → eq_z t (pos 0) ≡ false → kept_at t f s ≡ cell t f s
    go (pos zero) f s h = clash refl h
    go (pos (suc t)) f s h = refl
    go (negsuc n) f s h = refl

or-false : (a b : Bool) → (a || b) ≡ false → (a ≡ false) × (b ≡ false)
or-false true b h = clash refl h
or-false false b h = (refl, h)

kept-cells : (vs : List Cell) → any_empty vs ≡ false → map kept vs ≡ vs
unfolding any_empty
kept-cells [] h = refl
kept-cells (v ∷ vs) h =
    let a = or-false (is_empty v) (any_empty vs) h in
    rw (kept-cell v a.0, kept-cells vs a.1)

-- ---- cells put into as much room

put-behind : (k : ℕ) (vs : List Cell) (a b c : ℤ) (l : List ℤ) → put_cells (suc k) vs (a ∷ b ∷ c ∷ l) ≡ a ∷ b ∷ c ∷ put_cells k vs l
unfolding put_cells put_cell
put-behind k [] a b c l = refl
put-behind k (v ∷ vs) a b c l =
    let e : 3 * suc k ≡ suc (suc (suc (3 * k))) = omega arith in
    let f : 3 * suc k + 1 ≡ suc (suc (suc (3 * k + 1))) = omega arith in
    let g : 3 * suc k + 2 ≡ suc (suc (suc (3 * k + 2))) = omega arith in
    rw (f, g, e) (put-behind (suc k) vs a b c (put_cell l k v))

filled : (vs : List Cell) (room : List ℤ) → length room ≡ 3 * length vs → put_cells 0 vs room ≡ numbers_of vs
unfolding put_cells put_cell numbers_of
filled [] [] h = refl
filled [] (a ∷ l) h = absurd (omega arith)
filled (v ∷ vs) [] h = absurd (omega arith)
filled (v ∷ vs) (a ∷ []) h = absurd (omega arith)
filled (v ∷ vs) (a ∷ b ∷ []) h = absurd (omega arith)
filled (v ∷ vs) (a ∷ b ∷ c ∷ l) h =
    put-behind 0 vs v.tag v.first v.second l ∙ ap (λ (r : List ℤ). v.tag ∷ v.first ∷ v.second ∷ r) (filled vs l (omega arith))

map-length : (vs : List Cell) → length (map kept vs) ≡ length vs
map-length [] = refl
map-length (v ∷ vs) = ap suc (map-length vs)

-- ---- the call

record Passed (leave : ℕ) (image : List ℤ) (buffer : List ℕ) : Type 0 where
  whole : length image % 3 ≡ 0
  undamaged : lowest_damaged 0 image ≡ cell_count image
  leave-given : may_list (not (eqb leave 0)) image ≡ true
  is : list_call leave image buffer ≡ called (counted 0 0 (length (image_text image))) (in_front (image_text image) buffer)

refused-is : {P : Type 0} (n : ℕ) (x : Called Counted (List ℕ)) (buffer : List ℕ) → x ≡ called (counted (suc n) 0 0) buffer → x.answer.refusal ≡ 0 → P
refused-is n x buffer e h = let z : suc n ≡ 0 = sym (ap (λ (c : Called Counted (List ℕ)). c.answer.refusal) e) ∙ h in absurd (omega arith)

list-passed : (leave : ℕ) (image : List ℤ) (buffer : List ℕ) → (list_call leave image buffer).answer.refusal ≡ 0 → Passed leave image buffer
unfolding list_call listed listed_check verdict is_image
list-passed leave image buffer h =
    by_bool (is_image image)
    (λ a. by_bool (may_list (not (eqb leave 0)) image)
    (λ b. by_bool (leb (length (image_text image)) (length buffer))
    (λ c. let i = both (eqb (length image % 3) 0) (eqb (lowest_damaged 0 image) (cell_count image)) a in
    record { whole = eqb-true (length image % 3) 0 i.0; undamaged = eqb-true (lowest_damaged 0 image) (cell_count image) i.1; leave-given = b; is = rw (a, b, c) })
    (λ c. refused-is 16 (list_call leave image buffer) buffer (rw (a, b, c)) h))
    (λ b. refused-is 15 (list_call leave image buffer) buffer (rw (a, b)) h))
    (λ a. refused-is 8 (list_call leave image buffer) buffer (rw a) h)

any_reading : (leave : ℕ) (image : List ℤ) (buffer : List ℕ) → all_words image ≡ true → (list_call leave image buffer).answer.refusal ≡ 0 → (ls : List (Line Expr)) → Rows 32 (image_text image) ls → (p : List ℕ → Option ℕ) → map line_cell (map (line_values p) ls) ≡ map kept (image_cells image)
unfolding image_text
any_reading leave image buffer w h = reading-makes (image-good image (list-passed leave image buffer h).undamaged w)

round_trip : (leave : ℕ) (image : List ℤ) (buffer : List ℕ) (room : List ℤ) → all_words image ≡ true → length room ≡ length image → (list_call leave image buffer).answer.refusal ≡ 0 → listed_back leave image buffer room ≡ called (counted 0 0 (cell_count image)) (numbers_of (map kept (image_cells image)))
unfolding assemble_call answered image_text
round_trip leave image buffer room w l h =
    let q = list-passed leave image buffer h in
    let vs = image_cells image in
    let t = take-append_seam (listing vs) (drop (length (listing vs)) buffer) in
    let n = count-cells image in
    let m = map-length vs in
    let r = q.whole in
    let e : length room % 3 ≡ 0 = rw l r in
    let k : cell_count room ≡ length vs = rw l (sym n) in
    let a = assembles (image-good image q.undamaged w) in
    let f = filled (map kept vs) room (omega arith) in
    rw (q.is, t, eq-eqb (length room % 3) 0 e, k, a, m, f, n)

exactly : (leave : ℕ) (image : List ℤ) (buffer : List ℕ) (room : List ℤ) → all_words image ≡ true → length room ≡ length image → (list_call leave image buffer).answer.refusal ≡ 0 → any_empty (image_cells image) ≡ false → listed_back leave image buffer room ≡ called (counted 0 0 (cell_count image)) image
exactly leave image buffer room w l h e =
    let q = list-passed leave image buffer h in
    round_trip leave image buffer room w l h ∙ ap (called (counted 0 0 (cell_count image))) (ap numbers_of (kept-cells (image_cells image) e) ∙ numbers-back image q.whole)

none-empty : (image : List ℤ) → may_list false image ≡ true → any_empty (image_cells image) ≡ false
unfolding may_list
none-empty image h = by_bool (any_empty (image_cells image)) (λ e. clash (rw e at h) refl) (λ e. e)

behind : (leave : ℕ) (image : List ℤ) (buffer : List ℕ) → drop (list_call leave image buffer).answer.count (list_call leave image buffer).left ≡ drop (list_call leave image buffer).answer.count buffer
unfolding list_call listed
behind leave image buffer =
    by_bool (passes (listed_check (not (eqb leave 0)) image buffer))
    (λ e. rw e (drop-append_seam (image_text image) (drop (length (image_text image)) buffer)))
    (λ e. rw e refl)

keeps : (leave : ℕ) (image : List ℤ) (buffer : List ℕ) → (list_call leave image buffer).answer.refusal ≢ 0 → (list_call leave image buffer).left ≡ buffer
unfolding list_call listed
keeps leave image buffer h =
    by_bool (passes (listed_check (not (eqb leave 0)) image buffer))
    (λ e. absurd (h (rw e refl)))
    (λ e. rw e refl)

pub list-laws : ListLaws
list-laws =
    record { shortest = shortest; line-of = line-of; any_reading = any_reading; round_trip = round_trip; exactly = exactly; without_leave = λ image buffer room w l h. exactly 0 image buffer room w l h (none-empty image (list-passed 0 image buffer h).leave-given); behind = behind; keeps = keeps }
