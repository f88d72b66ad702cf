-- The words of the definition: which numbers are words, and what wrapping gives.
use mathlib.Core.Path.{◌≡◌, ap, ◌∙◌}
use mathlib.Core.Bool.{Bool, true, not}
use Prim.Native.Nat.{◌^◌}
use lib.IntN.{ℤ, pos, negsuc}
use borrow.Author.Tests.{lt-ltb}
use mir.Syntax.{w64}
use mir.Val.{to_z, SFits}
use mir.Facts.{to_z-of_z}
use Rattle.definition.specs.Word.{wrap, is_word, wrapped}
use Rattle.definition.proofs.Bits.{bits-of_z}

-- `is_word` is the range that the machine holds
pub is_word_lem : (z : ℤ) → SFits w64 z → is_word z ≡ true
unfolding is_word
is_word_lem (pos n) f = lt-ltb n (2 ^ 63) f.sfits
is_word_lem (negsuc n) f = lt-ltb n (2 ^ 63) f.sfits

-- a word wraps to itself
pub wrap-word : (z : ℤ) → SFits w64 z → wrap z ≡ z
unfolding wrap
wrap-word z f = ap (to_z w64) (bits-of_z z f) ∙ to_z-of_z f

-- a result from its two parts
pub wrapped-by : (z : ℤ) {o : Bool} → o ≡ not (is_word z) → record { value = wrap z; overflow = o } ≡ wrapped z
unfolding wrapped
wrapped-by z e = rw e
