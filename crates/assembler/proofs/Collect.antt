-- The table of labels, line by line. Assumes nothing.
use mathlib.Core.Path.{◌≡◌, refl, sym, ap, ◌∙◌, fun_ext}
use mathlib.Core.Bool.{true, cond}
use mathlib.Core.List.{List, [], ◌∷◌, ◌++◌}
use mathlib.Core.Option.{Option, some, none}
use Prim.Native.Nat.{ℕ, zero, suc, ◌+◌, ◌*◌, ◌%◌, ◌≤◌, ◌<◌}
use native.Mathlib.Omega.{arith}
use lib.ListN.{length, get_or, set}
use lib.Seq.{get_or-set_same, get_or-set_other}
use lib.Dec.{eqb}
use borrow.Author.Tests.{eqb-true, eqb-false}
use Rattle.std.specs.Prelude.{Some, None, slice_get}
use Rattle.std.specs.Prelude as O
use Rattle.std.specs.Option.{is_some}
use Rattle.expression.specs.declared.labels.Entry.{Entry}
use Rattle.expression.specs.declared.labels.Lines.{Lines}
use Rattle.expression.specs.declared.labels.Labels.{Labels}
use Rattle.expression.specs.Reader.{gives, refused, same}
use Rattle.expression.specs.Code.{place_found}
use Rattle.expression.specs.Table.{label_at, next_line, setting, hash_from}
use Rattle.expression.specs.Labels.{line_of, line_at, or_else, among, held, guess, guessed, kept, lookup, IsEmpty, Pushed, Inserted, Left}
use Rattle.expression.proofs.Spans.{by_bool}
use Rattle.expression.proofs.Names.{sets-label, sets-nothing, setting-first, setting-rest}
use Rattle.assembly.proofs.Names.{same_true}
use Rattle.assembler.specs.Meaning.{Collected}

or-or : (x y z : Option ℕ) → or_else (or_else x y) z ≡ or_else x (or_else y z)
unfolding or_else
or-or none y z = refl
or-or (some k) y z = refl

or-none : (x : Option ℕ) → or_else x none ≡ x
unfolding or_else
or-none none = refl
or-none (some k) = refl

hash-below : (n : List ℕ) (h : ℕ) → h < 1024 → hash_from h n < 1024
unfolding hash_from
hash-below [] h l = l
hash-below (b ∷ n) h l = hash-below n ((h * 31 + b) % 1024) (omega arith)

none-or : (x : Option ℕ) → x ≡ or_else none x
unfolding or_else
none-or x = refl

among-last : (es : List Entry) (e : Entry) (m : List ℕ) → among (es ++ e ∷ []) m ≡ or_else (among es m) (line_of e m)
unfolding among
among-last [] e m = or-none (line_of e m) ∙ none-or (line_of e m)
among-last (d ∷ es) e m = ap (or_else (line_of d m)) (among-last es e m) ∙ sym (or-or (line_of d m) (among es m) (line_of e m))

slot-last : (es : List Entry) (e : Entry) → slice_get (es ++ e ∷ []) (length es) ≡ Some e
slot-last [] e = refl
slot-last (d ∷ es) e = slot-last es e

slot_other : (es : List Entry) (e : Entry) (g : ℕ) (m : List ℕ) → line_of e m ≡ none → line_at (slice_get (es ++ e ∷ []) g) m ≡ line_at (slice_get es g) m
slot_other [] e zero m h = h
slot_other [] e (suc g) m h = refl
slot_other (d ∷ es) e zero m h = refl
slot_other (d ∷ es) e (suc g) m h = slot_other es e g m h

-- ---- a label more

module _ (S T : Labels) (name : List ℕ) (line : ℕ) (q : Pushed S T name line) (known : (m : List ℕ) → kept S m ≡ among (held S) m) (new : kept S name ≡ none) where
  abbrev last : List ℕ → Option ℕ
  last m = cond (same name m) (some line) none

  entry-line : (m : List ℕ) → line_of q.entry m ≡ last m
  entry-line m = rw (q.named, q.at_line)

  among-added : (m : List ℕ) → among (held T) m ≡ or_else (among (held S) m) (last m)
  among-added m = ap (λ (es : List Entry). among es m) q.last ∙ (among-last (held S) q.entry m ∙ ap (or_else (among (held S) m)) (entry-line m))

  guess-same : (m : List ℕ) → hash_from 0 m ≡ hash_from 0 name → guess T m ≡ S.count
  guess-same m e =
      ap (λ (l : List ℕ). get_or l (hash_from 0 m) 0) q.guesses
      ∙ (ap (λ (h : ℕ). get_or (set S.guesses (hash_from 0 name) S.count) h 0) e
      ∙ get_or-set_same S.guesses (hash_from 0 name) S.count 0 (let h = hash-below name 0 (omega arith) in let n = q.numbers in omega arith))

  guess_other : (m : List ℕ) → (hash_from 0 m ≡ hash_from 0 name → ⊥) → guess T m ≡ guess S m
  guess_other m e =
      ap (λ (l : List ℕ). get_or l (hash_from 0 m) 0) q.guesses ∙ get_or-set_other S.guesses (hash_from 0 name) (hash_from 0 m) S.count 0 e

  guessed-same : (m : List ℕ) → hash_from 0 m ≡ hash_from 0 name → guessed T m ≡ last m
  guessed-same m e =
      ap (λ (j : ℕ). line_at (slice_get (held T) j) m) (guess-same m e ∙ sym q.place)
      ∙ (ap (λ (es : List Entry). line_at (slice_get es (length (held S))) m) q.last
      ∙ (ap (λ (o : O.Option Entry). line_at o m) (slot-last (held S) q.entry) ∙ entry-line m))

  pub guess-added : (m : List ℕ) → kept T m ≡ among (held T) m
  unfolding kept or_else
  guess-added m =
      by_bool (same name m)
      (λ f. let z : among (held S) m ≡ none = sym (known m) ∙ (ap (kept S) (sym (same_true name m f)) ∙ new) in
      rw (guessed-same m (ap (hash_from 0) (sym (same_true name m f))), among-added m, z, f))
      (λ f. let n : line_of q.entry m ≡ none = entry-line m ∙ rw f refl in
      let a : among (held T) m ≡ among (held S) m = among-added m ∙ rw f (or-none (among (held S) m)) in
      by_bool (eqb (hash_from 0 m) (hash_from 0 name))
      (λ h. rw (guessed-same m (eqb-true (hash_from 0 m) (hash_from 0 name) h), f))
      (λ h. let g : guessed T m ≡ guessed S m = ap (λ (j : ℕ). line_at (slice_get (held T) j) m) (guess_other m (eqb-false (hash_from 0 m) (hash_from 0 name) h)) ∙ (ap (λ (es : List Entry). line_at (slice_get es (guess S m)) m) q.last ∙ slot_other (held S) q.entry (guess S m) m n) in
      rw (g, a) (known m)))

  pub kept-added : (m : List ℕ) → kept T m ≡ or_else (kept S m) (last m)
  kept-added m = guess-added m ∙ (among-added m ∙ ap (λ (x : Option ℕ). or_else x (last m)) (sym (known m)))

-- ---- a line more

pub collected-none : (s : List ℕ) (T : Labels) (t : List ℕ) (k : ℕ) → IsEmpty T → t ≡ s → k ≡ 0 → Collected s T t k
unfolding kept among or_else
collected-none s T t k e f g =
    record { guessed = λ n. rw e.none_held refl; found = λ n. rw (e.none_held, f, g) refl }

module _ (s : List ℕ) (T : Labels) (t : List ℕ) (k : ℕ) (some-text : 1 ≤ length t) (c : Collected s T t k) where
  pub line-plain : refused ≡ label_at t → Collected s T (next_line t) (k + 1)
  line-plain e =
      record {
        guessed = c.guessed;
        found = λ m. ap (or_else (kept T m)) (setting-rest t k m some-text (sets-nothing t m e)) ∙ c.found m;
      }

  module _ (name u : List ℕ) (e : gives name u ≡ label_at t) where
    -- the line that sets it, found at once or in the lines after it
    line-again : (m : List ℕ) → or_else (cond (same name m) (some k) none) (setting (next_line t) (k + 1) m) ≡ setting t k m
    unfolding or_else
    line-again m =
        by_bool (same name m)
        (λ f. rw f (setting-first t k m some-text (sets-label t name u m e ∙ f)))
        (λ f. rw f (setting-rest t k m some-text (sets-label t name u m e ∙ f)))

    again-found : (j : ℕ) → kept T name ≡ some j → (m : List ℕ) → or_else (kept T m) (setting (next_line t) (k + 1) m) ≡ or_else (kept T m) (setting t k m)
    unfolding or_else
    again-found j z m =
        by_bool (same name m)
        (λ f. let w : kept T m ≡ some j = ap (kept T) (sym (same_true name m f)) ∙ z in rw w)
        (λ f. ap (or_else (kept T m)) (setting-rest t k m some-text (sets-label t name u m e ∙ f)))

    line-by : (o : Option ℕ) (T' : Labels) → kept T name ≡ o → Inserted o T T' name k → Collected s T' (next_line t) (k + 1)
    line-by (some j) T' z q =
        rw q (record { guessed = c.guessed; found = λ m. again-found j z m ∙ c.found m })
    line-by none T' z q =
        record {
          guessed = guess-added T T' name k q c.guessed z;
          found = λ m. ap (λ (x : Option ℕ). or_else x (setting (next_line t) (k + 1) m)) (kept-added T T' name k q c.guessed z m) ∙ (or-or (kept T m) (cond (same name m) (some k) none) (setting (next_line t) (k + 1) m) ∙ (ap (or_else (kept T m)) (line-again m) ∙ c.found m));
        }

    -- a label that is held already
    pub line-held : (o : O.Option ℕ) → place_found o ≡ kept T name → is_some o ≡ true → Collected s T (next_line t) (k + 1)
    line-held (Some j) e f = line-by (some j) T (sym e) refl
    line-held None e f = cc

    pub line-labelled : (T' : Labels) → Inserted (kept T name) T T' name k → Collected s T' (next_line t) (k + 1)
    line-labelled T' q = line-by (kept T name) T' refl q

-- the lines that are left are searched
pub all-found : (s : List ℕ) (S T : Labels) (rest : Lines) → Collected s S rest.text.now rest.number → Left S T rest → lookup T ≡ setting s 0
unfolding lookup kept
all-found s S T rest c l = fun_ext (λ n. rw (l.entries, l.count, l.guesses, l.beyond) (c.found n))
