-- Where a text is cut into parts does not matter. Assumes nothing.
use mathlib.Core.Path.{◌≡◌, refl, sym, ◌∙◌}
use mathlib.Core.List.{List, [], ◌∷◌, foldl, foldl-append}
use Prim.Native.Nat.{ℕ}
use Rattle.lines.specs.Reader.{State, state, step, opened, empty_cells, read_text, joined, read_parts}

pub parts : (s : State) (ps : List (List ℕ)) → read_parts s ps ≡ foldl step s (joined ps)
unfolding joined read_parts
parts s [] = refl
parts s (p ∷ ps) = parts (foldl step s p) ps ∙ sym (foldl-append step s p (joined ps))

-- A text read in parts is the text read whole.
pub cut : (ps : List (List ℕ)) → read_parts (state opened empty_cells) ps ≡ read_text (joined ps)
unfolding read_text
cut ps = parts (state opened empty_cells) ps
