-- What the listings tool prints (Card 7): "The listings tool reads old files for good, with the limits they had, and prints cells 0 to the highest named as Card 3's
-- text, gaps as empty cells, with leave only if its argument is `loss`; it prints refusals likewise, 16 with line 0."
use Rattle.std.specs.Prelude.{◌≡◌, Bool, cond, not, ◌&&◌, ℕ, ◌*◌, ◌-◌, ◌^◌, ◌<◌, ℤ, nat_abs, ltb, eqb, length, take, replicate, Option, IfSome}
use Rattle.std.specs.Option.{option_map_or}
use mathlib.Core.List.{List, [], ◌∷◌, foldl}
use Rattle.definition.specs.Calls.{passes}
use Rattle.expression.specs.Reader.{same}
use Rattle.lines.specs.declared.Reader.{Reader}
use Rattle.lines.specs.declared.State.{State}
use Rattle.lines.specs.Reader.{state, step, opened, empty_cells, following, broken_line}
use Rattle.listing.specs.Call.{image_text, listed_check}
use Rattle.report.specs.Text.{refusal_text}
use Rattle.lister.specs.declared.seen.Seen.{Seen}

-- ---- an old file, read

-- The reader and its cells, and how many cells "0 to the highest named" are.
abbrev pub seen : State → ℕ → Seen
seen s n = record { state = s; named = n }

-- After the byte b, which took the reader to q: at the end of a cell's line its address counts.
unfoldable pub names_cell : ℕ → Reader → Bool
names_cell b q = eqb b 10 && (not q.broken && ltb 2 q.line)

unfoldable pub larger : ℕ → ℕ → ℕ
larger n m = cond (ltb n m) m n

unfoldable pub named_after : ℕ → Reader → ℕ → ℕ
named_after b q n = cond (names_cell b q) (larger n (following (nat_abs q.last.x))) n

unfoldable pub seen_step : Seen → ℕ → Seen
seen_step u b = let s = step u.state b in seen s (named_after b s.reader u.named)

-- Before the first byte.
abbrev pub unseen : Seen
unseen = seen (state opened empty_cells) 0

unfoldable pub seen_text : List ℕ → Seen
seen_text text = foldl seen_step unseen text

-- ---- what is printed

-- `loss`
abbrev pub loss_name : List ℕ
loss_name = 108 ∷ 111 ∷ 115 ∷ 115 ∷ []

-- "with leave only if its argument is `loss`"
unfoldable pub leave_of : List ℕ → Bool
leave_of word = same loss_name word

-- Room for 2,048 lines of at most 80 bytes.
abbrev pub room : List ℕ
room = replicate 163840 0

-- Card 3's text, or its refusal.
unfoldable pub listing_text : Bool → List ℤ → List ℕ
listing_text leave image =
    let d = listed_check leave image room in
    cond (passes d) (image_text image) (refusal_text d.refusal d.place)

-- "prints cells 0 to the highest named"
abbrev pub image_of : Seen → List ℤ
image_of u = take (3 * u.named) u.state.cells

unfoldable pub output_of : Bool → Seen → List ℕ
output_of leave u = option_map_or (refusal_text 12) (broken_line u.state.reader) (listing_text leave (image_of u))

-- What is printed of a file, with this argument.
unfoldable pub output : List ℕ → List ℕ → List ℕ
output word text = output_of (leave_of word) (seen_text text)

-- ---- what is read, and what is made of it, as far as it is known which bytes the input has left: the system does not say, a reader over memory does

-- What was seen is the fold over what was read; where the input's bytes are known, over all of them, unless there are so many that the reads run out.
pub record SeesInput (known : Option (List ℕ)) (u : Seen) : Type 0 where
  pub text : List ℕ
  pub taken : u ≡ seen_text text
  pub whole : IfSome known (λ input. length input < 2 ^ 64 - 1 → u ≡ seen_text input)

-- What is printed is what the definition prints of the text that was read.
pub record ListsInput (known : Option (List ℕ)) (word printed : List ℕ) : Type 0 where
  pub text : List ℕ
  pub put : printed ≡ output word text
  pub whole : IfSome known (λ input. length input < 2 ^ 64 - 1 → printed ≡ output word input)
