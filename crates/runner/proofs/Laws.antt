-- How the reads add up to a text. Assumes nothing.
use Rattle.std.proofs.Common.{◌≡◌, sym, ◌∙◌, subst, ℕ, ◌+◌, ◌≤◌, List, ◌++◌, arith, length, take, length-take, Option}
use Rattle.std.proofs.lemmas.List.{take-append-le}
use Rattle.std.proofs.Math.Seq.{take-append-add}
use Rattle.std.specs.Io.KnownBytes.{Consumes}
use Rattle.std.proofs.KnownBytes.{Consumes-trans}

-- One read more: n bytes behind the first a ones.
pub read_more : (k l m : Option (List ℕ)) (a n : ℕ) (xs u v : List ℕ) → a ≤ length xs → n ≤ length u → Consumes k l (take a xs) → Consumes l m (take n u) → Consumes k m (take (a + n) (take a xs ++ (u ++ v)))
read_more k l m a n xs u v h i p q =
    let w : length (take a xs) ≡ a = simp length-take (omega arith) in
    let e : take (a + n) (take a xs ++ (u ++ v)) ≡ take a xs ++ take n u = rw w at (take-append-add (take a xs) (u ++ v) n) ∙ rw take-append-le in
    subst (Consumes k m) (sym e) (Consumes-trans k l m _ _ p q)
