-- Places in the queue, and bytes put into it.
use mathlib.Core.Path.{◌≡◌}
use mathlib.Core.List.{List}
use Prim.Native.Nat.{ℕ, ◌+◌, ◌<◌}
use native.Mathlib.Numerals.{add-one}
use native.Mathlib.Omega.{arith}
use lib.ListN.{length, drop, get_or, set}
use lib.Seq.{drop-cons}
use Rattle.definition.specs.Io.{around, put_bytes}
use Rattle.word.proofs.Laws.{ltb-elim}

pub around-below : (size n : ℕ) → n < size + size → around size n < size
unfolding around
around-below size n h = ltb-elim n size (λ e k. rw e k) (λ e k. rw e (omega arith))

pub put-more : (p i : ℕ) (bytes queue : List ℕ) → i < length bytes
    → put_bytes (around (length queue) (p + 1)) (drop (i + 1) bytes) (set queue p (get_or bytes i 0)) ≡ put_bytes p (drop i bytes) queue
unfolding put_bytes
put-more p i bytes queue h = rw (add-one p, add-one i, drop-cons bytes i 0)
