-- How the reads add up to a text. Assumes nothing.
use Rattle.std.proofs.Common.{◌≡◌, refl, sym, ap, ◌∙◌, Bool, true, false, ℕ, ◌+◌, ◌-◌, ◌^◌, ◌<◌, ◌≤◌, List, [], ◌∷◌, ◌++◌, arith, length, take, drop, length-append, length-take, ◌*◌, ℤ, min, leb, leb-true, leb-false, Option, Some, None, eqb}
use mathlib.Core.List.{foldl, foldl-append}
use Rattle.std.specs.Io.KnownBytes.{Consumes, IsAtEnd}
use Rattle.std.proofs.KnownBytes.{Consumes-nil, Consumes-trans, Consumes-whole}
use Rattle.expression.proofs.Spans.{by_bool}
use Rattle.lines.specs.declared.Reader.{Reader}
use Rattle.lines.proofs.Exact.{dead-stays}
use Rattle.lister.specs.declared.seen.Seen.{Seen}
use Rattle.lister.specs.Output.{names_cell, named_after, seen_step, unseen, seen_text, loss_name, leave_of, room, listing_text, output_of, output, SeesInput, ListsInput}
use Rattle.definition.specs.declared.Counted.{Counted}
use Rattle.definition.specs.declared.answers.Refusal.{Refusal}
use Rattle.definition.specs.declared.answers.Refusal.TheVariants as R
use Rattle.definition.specs.Answers.{number_of}
use Rattle.definition.specs.Calls.{Called, called, passes}
use Rattle.assembly.specs.Assemble.{counted}
use Rattle.listing.specs.Call.{image_text, listed_check, in_front, listed}
use Rattle.report.specs.Text.{refusal_text}
use Rattle.std.proofs.lemmas.Bool.{eqb-false}
use Rattle.std.proofs.Math.Seq.{take_all, take-append_seam}
use Rattle.expression.specs.Reader.{same}
use Rattle.assembly.proofs.Names.{same_true}

-- What was seen of a text that so many reads gave.
pub record SeesSoFar (before after : Option (List ℕ)) (reads : ℕ) (u : Seen) : Type 0 where
  pub text : List ℕ
  pub taken : u ≡ seen_text text
  pub consumed : Consumes before after text
  pub long : reads ≤ length text

-- a broken reader is left as it is
named-stays : (b : ℕ) (q : Reader) (n : ℕ) → q.broken ≡ true → named_after b q n ≡ n
unfolding named_after names_cell
named-stays b q n h = by_bool (eqb b 10) (λ e. rw (e, h)) (λ e. rw e)

broken-stays : (u : Seen) (b : ℕ) → u.state.reader.broken ≡ true → seen_step u b ≡ u
unfolding seen_step
broken-stays u b h = rw (dead-stays u.state b h, named-stays b u.state.reader u.named h)

broken-all : (t : List ℕ) (u : Seen) → u.state.reader.broken ≡ true → foldl seen_step u t ≡ u
broken-all [] u h = refl
broken-all (b ∷ t) u h = ap (λ (v : Seen). foldl seen_step v t) (broken-stays u b h) ∙ broken-all t u h

-- before the first read
pub none_read : (k : Option (List ℕ)) → SeesSoFar k k 0 unseen
unfolding seen_text
none_read k = record { text = []; taken = refl; consumed = Consumes-nil k; long = omega arith }

-- one read more
pub read_more : (k l m : Option (List ℕ)) (i n : ℕ) (u v : Seen) (buf : List ℕ) → SeesSoFar k l i u → n ≤ length buf → (n ≡ 0 → ⊥) → Consumes l m (take n buf) → v ≡ foldl seen_step u (take n buf) → SeesSoFar k m (i + 1) v
unfolding seen_text
read_more k l m i n u v buf a h z p e =
    let w : length (take n buf) ≡ n = simp length-take (omega arith) in
    record { text = a.text ++ take n buf; taken = e ∙ ap (λ (x : Seen). foldl seen_step x (take n buf)) a.taken ∙ sym (foldl-append seen_step unseen a.text (take n buf)); consumed = Consumes-trans k l m _ _ a.consumed p; long = simp length-append (omega (arith, a.long)) }

-- nothing is left; a line is broken; the reads are used up
pub all_read : (k l : Option (List ℕ)) (i : ℕ) (u : Seen) → SeesSoFar k l i u → IsAtEnd l → SeesInput k u
all_read k l i u a e =
    record { text = a.text; taken = a.taken; whole = Consumes-whole k l a.text (λ input. length input < 2 ^ 64 - 1 → u ≡ seen_text input) a.consumed e (λ _. a.taken) }

rest-broken : (u : Seen) (s t : List ℕ) → u ≡ seen_text s → u.state.reader.broken ≡ true → u ≡ seen_text (s ++ t)
unfolding seen_text
rest-broken u s t e h = sym (foldl-append seen_step unseen s t ∙ ap (λ (x : Seen). foldl seen_step x t) (sym e) ∙ broken-all t u h)

pub broken_read : (k l : Option (List ℕ)) (i : ℕ) (u : Seen) → SeesSoFar k l i u → u.state.reader.broken ≡ true → SeesInput k u
broken_read None l i u a b = record { text = a.text; taken = a.taken; whole = tt }
broken_read (Some xs) None i u a b = absurd a.consumed
broken_read (Some xs) (Some ys) i u a b = record { text = a.text; taken = a.taken; whole = λ _. rest-broken u a.text ys a.taken b ∙ ap seen_text (sym a.consumed) }

pub reads_used : (k l : Option (List ℕ)) (i : ℕ) (u : Seen) → SeesSoFar k l i u → 2 ^ 64 - 1 ≤ i → SeesInput k u
reads_used None l i u a h = record { text = a.text; taken = a.taken; whole = tt }
reads_used (Some xs) None i u a h = absurd a.consumed
reads_used (Some xs) (Some ys) i u a h = record { text = a.text; taken = a.taken; whole = λ f. absurd (omega (arith, a.long, simp length-append at (ap length a.consumed))) }

-- ---- the argument

-- the test of equality is the definition's
pub by_equal : (word : List ℕ) (b : Bool) → (b ≡ true → word ≡ loss_name) → (word ≡ loss_name → b ≡ true) → b ≡ leave_of word
unfolding leave_of same
by_equal word true f g = rw (f refl) refl
by_equal word false f g = by_bool (same loss_name word) (λ e. g (sym (same_true loss_name word e)) ∙ sym e) (λ e. sym e)

-- ---- what is printed

module _ (leave : Bool) (image : List ℤ) (left : List ℕ) (r : Counted) (e : called r left ≡ listed leave image room) where
  record IsListed : Type 0 where
    answer : r ≡ counted 0 0 (length (image_text image))
    text : left ≡ in_front (image_text image) room
    shown : image_text image ≡ listing_text leave image

  record IsRefused : Type 0 where
    refused : r.refusal ≡ 0 → ⊥
    shown : refusal_text r.refusal r.place ≡ listing_text leave image

  is-listed : passes (listed_check leave image room) ≡ true → IsListed
  unfolding listed listing_text
  is-listed p =
      let c : called r left ≡ called (counted 0 0 (length (image_text image))) (in_front (image_text image) room) = e ∙ rw p in
      record { answer = ap (λ (x : Called Counted (List ℕ)). x.answer) c; text = ap (λ (x : Called Counted (List ℕ)). x.left) c; shown = rw p }

  is-refused : passes (listed_check leave image room) ≡ false → IsRefused
  unfolding listed listing_text
  is-refused p =
      let d = listed_check leave image room in
      let c : called r left ≡ called (counted d.refusal d.place 0) room = e ∙ rw p in
      let a = ap (λ (x : Called Counted (List ℕ)). x.answer) c in
      record { refused = λ z. eqb-false d.refusal 0 p (sym (ap (λ (x : Counted). x.refusal) a) ∙ z); shown = rw (p, a) }

  pub text-put : r.refusal ≡ 0 → (take r.count left ≡ listing_text leave image) × (r.count ≤ length left)
  text-put z =
      by_bool (passes (listed_check leave image room))
      (λ p. let l = is-listed p in
      let t = image_text image in
      let n = ap (λ (x : Counted). x.count) l.answer in
      (ap (λ (k : ℕ). take k left) n ∙ ap (take (length t)) l.text ∙ take-append_seam t (drop (length t) room) ∙ l.shown, omega (arith, n, simp length-append at (ap length l.text))))
      (λ p. absurd ((is-refused p).refused z))

  pub refusal-put : (r.refusal ≡ 0 → ⊥) → refusal_text r.refusal r.place ≡ listing_text leave image
  refusal-put n =
      by_bool (passes (listed_check leave image room))
      (λ p. absurd (n (ap (λ (x : Counted). x.refusal) (is-listed p).answer)))
      (λ p. (is-refused p).shown)

-- no refusal's number is 0
pub numbered : (e : Refusal) → 1 ≤ number_of e
numbered R.Cells = omega arith
numbered R.Queue = omega arith
numbered R.Output = omega arith
numbered (R.Row i) = omega arith
numbered (R.DamagedCell n) = omega arith
numbered R.QueueRoom = omega arith
numbered R.DrainBuffer = omega arith
numbered R.Address = omega arith
numbered R.Image = omega arith
numbered R.Register = omega arith
numbered R.Code = omega arith
numbered (R.ImageLine n) = omega arith
numbered (R.Form n) = omega arith
numbered (R.Label n) = omega arith
numbered (R.Value n) = omega arith
numbered R.EmptyCell = omega arith
numbered R.TextRoom = omega arith
numbered (R.NumericLine n) = omega arith
numbered R.Seats = omega arith
numbered R.Journal = omega arith
numbered R.NothingKept = omega arith

-- no more cells are there than 2,048
pub all_named : (n : ℕ) (cells : List ℤ) → length cells ≡ 6144 → take (3 * min n 2048) cells ≡ take (3 * n) cells
all_named n cells l =
    by_bool (leb n 2048)
    (λ e. let h = leb-true n 2048 e in let m : min n 2048 ≡ n = omega arith in rw m)
    (λ e. let h = leb-false n 2048 e in let m : min n 2048 ≡ 2048 = omega arith in rw m (take_all 6144 cells (omega arith) ∙ sym (take_all (3 * n) cells (omega arith))))

-- what is printed of what was seen
module _ {u : Seen} {leave : Bool} (word printed : List ℕ) (l : leave ≡ leave_of word) (p : printed ≡ output_of leave u) where
  shown : (t : List ℕ) → u ≡ seen_text t → printed ≡ output word t
  unfolding output
  shown t e = p ∙ ap (λ (k : Bool). output_of k u) l ∙ ap (output_of (leave_of word)) e

  pub lists : (known : Option (List ℕ)) → SeesInput known u → ListsInput known word printed
  lists None s = record { text = s.text; put = shown s.text s.taken; whole = tt }
  lists (Some xs) s = record { text = s.text; put = shown s.text s.taken; whole = λ h. shown xs (s.whole h) }
