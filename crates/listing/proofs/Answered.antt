-- What the call answers, by the tests that it makes. Assumes nothing.
use mathlib.Core.Path.{◌≡◌, refl, sym}
use mathlib.Core.Bool.{true, false, not}
use mathlib.Core.List.{List}
use Prim.Native.Nat.{ℕ, ◌≤◌}
use lib.IntN.{ℤ}
use lib.ListN.{length}
use lib.Dec.{leb, eqb}
use borrow.Author.Tests.{le-leb}
use Rattle.definition.specs.declared.Counted.{Counted}
use Rattle.definition.specs.Calls.{called, verdict}
use Rattle.assembly.specs.Assemble.{counted}
use Rattle.listing.specs.Call.{image_text, is_image, may_list, has_leave, listed_check, in_front, listed, list_call}

module _ (leave : ℕ) (image : List ℤ) (buffer : List ℕ) where
  list_done : is_image image ≡ true → has_leave leave image ≡ true → length (image_text image) ≤ length buffer → list_call leave image buffer ≡ called (counted 0 0 (length (image_text image))) (in_front (image_text image) buffer)
  unfolding has_leave list_call listed listed_check verdict
  list_done a b c =
      let m : may_list (not (eqb leave 0)) image ≡ true = b in
      rw (a, m, le-leb (length (image_text image)) (length buffer) c) refl

  pub list-answer : (r : Counted) (after : List ℕ) (n : ℕ) → r ≡ counted 0 0 n → n ≡ length (image_text image) → after ≡ in_front (image_text image) buffer → is_image image ≡ true → has_leave leave image ≡ true → length (image_text image) ≤ length buffer → called r after ≡ list_call leave image buffer
  list-answer r after n e f g a b c = rw (e, f, g) (sym (list_done a b c))

  pub list-17 : is_image image ≡ true → has_leave leave image ≡ true → leb (length (image_text image)) (length buffer) ≡ false → list_call leave image buffer ≡ called (counted 17 0 0) buffer
  unfolding has_leave list_call listed listed_check verdict
  list-17 a b c = let m : may_list (not (eqb leave 0)) image ≡ true = b in rw (a, m, c) refl

  pub list-16 : is_image image ≡ true → has_leave leave image ≡ false → list_call leave image buffer ≡ called (counted 16 0 0) buffer
  unfolding has_leave list_call listed listed_check verdict
  list-16 a b = let m : may_list (not (eqb leave 0)) image ≡ false = b in rw (a, m) refl

  pub list-9 : is_image image ≡ false → list_call leave image buffer ≡ called (counted 9 0 0) buffer
  unfolding list_call listed listed_check verdict
  list-9 a = rw a refl
