-- What the reader accepts is exactly the grammar, and what it refuses it refuses at the lowest line that breaks the form. Assumes nothing.
use mathlib.Core.Path.{◌≡◌, refl, sym, ap, ◌∙◌, subst}
use mathlib.Core.Bool.{Bool, true, false, cond, ◌&&◌, ◌||◌, false≢true, true≢false}
use mathlib.Core.List.{List, [], ◌∷◌, ◌++◌, foldl, foldl-append, append_assoc, append-nil}
use Prim.Native.Nat.{ℕ, zero, suc, ◌+◌, ◌*◌, ◌-◌, ◌≤◌, ◌<◌}
use native.Mathlib.Omega.{arith}
use native.Mathlib.Numerals.{add-one}
use lib.Dec.{eqb, ltb, leb}
use Rattle.std.specs.Prelude.{Option, Some, None}
use lib.IntN.{ℤ, pos, nat_abs}
use lib.ListN.{length, take, length-append}
use borrow.Author.Tests.{ltb-true, ltb-false, leb-true, eqb-true, lt-ltb, eq-eqb, ne_eqb}
use Rattle.definition.specs.Word.{address_of}
use Rattle.definition.specs.Memory.{cell, put_cell}
use Rattle.definition.specs.Encoding.{sound, is_address}
use Rattle.definition.specs.Calls.{is_below}
use Rattle.encoding.proofs.Rule.{both}
use Rattle.lines.specs.declared.Field.{Field}
use Rattle.lines.specs.declared.Start.{Start}
use Rattle.lines.specs.declared.Reader.{Reader}
use Rattle.lines.specs.Reader.{no_field, has_digits, size_of, opened, limit, value_of, letter, opening_byte, digit, comma, minus, plain, within, following, next, start_line, State, state, line_cell, cell_line, line_end, step, broken_line, empty_cells, read_text, broken}
use Rattle.lines.specs.Grammar.{Digits, Numeral, StartLine, CellLine, CellLines, Image, Front, Good, Breaks}
use Rattle.lines.specs.Grammar as G
use Rattle.decimal.specs.Decimal as D
use Rattle.decimal.proofs.Laws.{value-plus, value-minus}
use Rattle.lines.proofs.Complete.{at, field_of, start_of, complete, start-line, cell-line, followed}

-- a Bool is one of two
by_bool : (b : Bool) {P : Type 0} → (b ≡ true → P) → (b ≡ false → P) → P
by_bool true t f = t refl
by_bool false t f = f refl

either : {A : Type 0} (P : A → Type 0) (b : Bool) {x y : A} → P x → P y → P (cond b x y)
either P true p q = p
either P false p q = q

-- ---- a broken reader stays, and no line number falls

pub dead-stays : (u : State) (b : ℕ) → u.reader.broken ≡ true → step u b ≡ u
unfolding step line_end within
dead-stays u b h = by_bool (eqb b 10) (λ e. rw (e, h)) (λ e. rw (e, h))

following-grows : (n : ℕ) → n ≤ following n
unfolding following
following-grows n = either (λ (m : ℕ). n ≤ m) (ltb n 18446744073709551615) (omega arith) (omega arith)

abbrev Past : ℕ → Reader → Type 0
Past n r = n ≤ r.line

abbrev PastS : ℕ → State → Type 0
PastS n s = n ≤ s.reader.line

within-grows : (r : Reader) (b : ℕ) → Past r.line (within r b)
unfolding within opening_byte plain digit comma minus
within-grows r b =
    let n = r.line in
    let P = Past n in
    either P r.broken (omega arith)
    (either P (ltb r.opening 6) (either P (eqb (letter r.opening) b) (omega arith) (omega arith))
    (either P (ltb b 48)
    (either P (eqb b 44) (either P (has_digits r.field && ltb r.count 3) (omega arith) (omega arith)) (either P (eqb b 45) (either P (r.field.minus || has_digits r.field) (omega arith) (omega arith)) (omega arith)))
    (either P (ltb b 58) (either P (leb (size_of r.field * 10 + (b - 48)) (limit r.field.minus)) (omega arith) (omega arith)) (omega arith))))

end-grows : (s : State) → PastS s.reader.line (line_end s)
unfolding line_end start_line cell_line next
end-grows s =
    let r = s.reader in
    let n = r.line in
    let P = PastS n in
    let g = following-grows n in
    either P r.broken (omega arith)
    (either P (has_digits r.field && eqb r.count 3)
    (either P (eqb n 1)
    (either (Past n) (is_address (address_of r.last.y) && is_address (address_of r.last.z)) g (omega arith))
    (either P (is_below 2048 r.last.x && sound (line_cell r)) g (omega arith)))
    (omega arith))

step-grows : (s : State) (b : ℕ) → PastS s.reader.line (step s b)
unfolding step
step-grows s b = either (PastS s.reader.line) (eqb b 10) (end-grows s) (within-grows s.reader b)

fold-grows : (t : List ℕ) (s : State) → PastS s.reader.line (foldl step s t)
fold-grows [] s = omega arith
fold-grows (b ∷ t) s =
    let g = step-grows s b in
    let h = fold-grows t (step s b) in
    omega arith

-- ---- what an unbroken reader has seen of its line

-- a field so far
data Partial : List ℕ → Field → Type 0 where
  empty : Partial [] no_field
  sign : Partial (45 ∷ []) (field_of true None)
  plus : {s : List ℕ} {v : ℕ} → Digits s v → v ≤ 9223372036854775807 → Partial s (field_of false (Some v))
  neg : {s : List ℕ} {v : ℕ} → Digits s v → v ≤ 9223372036854775808 → Partial (45 ∷ s) (field_of true (Some v))

-- the whole fields so far, each with its comma, on the line after k lines: how many commas, and the last three
data Commas : ℕ → ℕ → ℤ → ℤ → ℤ → List ℕ → Type 0 where
  first : Commas 0 1 (pos 0) (pos 0) (pos 0) G.word
  later : {k : ℕ} {x y z : ℤ} → Commas (suc k) 0 x y z []
  field : {k c : ℕ} {x y z v : ℤ} {s a : List ℕ} → Commas k c x y z s → Numeral a v → Commas k (suc c) y z v (s ++ (a ++ (44 ∷ [])))

abbrev start₀ : Start
start₀ = start_of (pos 0) (pos 0) (pos 0)

-- i bytes of `start,` are seen
abbrev opening_at : ℕ → State
opening_at i =
    state (record { line = 1; broken = false; opening = i; count = 1; last = record { x = pos 0; y = pos 0; z = pos 0 }; field = no_field; start = start₀ }) empty_cells

data Within : ℕ → Start → List ℤ → List ℕ → State → Type 0 where
  opening : (i : ℕ) → i < 6 → Within 0 start₀ empty_cells (take i G.word) (opening_at i)
  fields : {k c : ℕ} {st : Start} {m : List ℤ} {x y z : ℤ} {s a : List ℕ} {f : Field} → Commas k c x y z s → Partial a f → Within k st m (s ++ a) (state (at (k + 1) st c x y z f) m)

-- what a byte more does: the line goes on, breaks, or ends in order
data Outcome : ℕ → Start → List ℤ → List ℕ → State → Type 0 where
  stays : {k : ℕ} {st : Start} {m : List ℤ} {q : List ℕ} {u : State} → Within k st m q u → Outcome k st m q u
  breaks : {k : ℕ} {st : Start} {m : List ℤ} {q : List ℕ} {u : State} → u.reader.broken ≡ true → u.reader.line ≡ k + 1 → Outcome k st m q u
  starts : {st : Start} {m : List ℤ} {q : List ℕ} {pc sp sr x y z : ℤ} → StartLine q pc sp sr → Outcome 0 st m q (state (at (following 1) (start_of pc sp sr) 0 x y z no_field) m)
  writes : {k : ℕ} {st : Start} {m : List ℤ} {q : List ℕ} {n t f s : ℤ} → CellLine q n t f s → Outcome (suc k) st m q (state (at (following (suc k + 1)) st 0 n t f no_field) (put_cell m (nat_abs n) (cell t f s)))

-- a field that has a digit is a number
whole : {a : List ℕ} {f : Field} → Partial a f → has_digits f ≡ true → Numeral a (value_of f.minus (size_of f))
whole empty d = absurd (false≢true d)
whole sign d = absurd (false≢true d)
whole (plus {s} {v} r h) d = subst (Numeral s) (sym (value-plus v h)) (G.plus r h)
whole (neg {s} {v} r h) d = subst (Numeral (45 ∷ s)) (sym (value-minus v h)) (G.minus r h)

digit-is : (b : ℕ) → 48 ≤ b → 48 + (b - 48) ≡ b
digit-is b h = omega arith

-- a digit more
digit-one : (b : ℕ) → 48 ≤ b → b < 58 → Digits (b ∷ []) (b - 48)
digit-one b l h =
    let t : Digits ((48 + (b - 48)) ∷ []) (b - 48) = D.one {d = b - 48} (omega arith) in
    rw (digit-is b l) at t

digit-more : {s : List ℕ} {v : ℕ} (b : ℕ) → Digits s v → 48 ≤ b → b < 58 → Digits (s ++ (b ∷ [])) (v * 10 + (b - 48))
digit-more {s} {v} b r l h =
    let t : Digits (s ++ ((48 + (b - 48)) ∷ [])) (v * 10 + (b - 48)) = D.more {d = b - 48} r (omega arith) in
    subst (λ (d : ℕ). Digits (s ++ (d ∷ [])) (v * 10 + (b - 48))) (digit-is b l) t

grown : {a : List ℕ} {f : Field} (b : ℕ) → Partial a f → 48 ≤ b → b < 58 → leb (size_of f * 10 + (b - 48)) (limit f.minus) ≡ true → Partial (a ++ (b ∷ [])) (field_of f.minus (Some (size_of f * 10 + (b - 48))))
grown b empty l h e =
    let z : 0 * 10 + (b - 48) ≡ b - 48 = omega arith in
    rw z (plus (digit-one b l h) (omega arith))
grown b sign l h e =
    let z : 0 * 10 + (b - 48) ≡ b - 48 = omega arith in
    rw z (neg (digit-one b l h) (omega arith))
grown b (plus {s} {v} r k) l h e = plus (digit-more b r l h) (leb-true _ _ e)
grown b (neg {s} {v} r k) l h e = neg (digit-more b r l h) (leb-true _ _ e)

-- where the step leads
to : {k : ℕ} {st : Start} {m : List ℤ} {q : List ℕ} {u v : State} → u ≡ v → Outcome k st m q v → Outcome k st m q u
to {k} {st} {m} {q} e o = subst (Outcome k st m q) (sym e) o

on : {k : ℕ} {st : Start} {m : List ℤ} {q r : List ℕ} {u : State} → q ≡ r → Outcome k st m q u → Outcome k st m r u
on {k} {st} {m} {q} {r} {u} e o = subst (λ (t : List ℕ). Outcome k st m t u) e o

no_sign : {a : List ℕ} {f : Field} → Partial a f → (f.minus || has_digits f) ≡ false → (a ≡ []) × (f ≡ no_field)
no_sign empty e = (refl, refl)
no_sign sign e = absurd (true≢false e)
no_sign (plus r h) e = absurd (true≢false e)
no_sign (neg r h) e = absurd (true≢false e)

module _ (n : ℕ) (st : Start) (m : List ℤ) (c : ℕ) (x y z : ℤ) (f : Field) where
  abbrev r₀ : Reader
  r₀ = at n st c x y z f

  abbrev u₀ : State
  u₀ = state r₀ m

  abbrev dead : State
  dead = state (broken r₀) m

  module _ (b : ℕ) (e : eqb b 10 ≡ false) where
    low-comma : ltb b 48 ≡ true → eqb b 44 ≡ true → (has_digits f && ltb c 3) ≡ true → step u₀ b ≡ state (at n st (c + 1) y z (value_of f.minus (size_of f)) no_field) m
    unfolding step within plain comma
    low-comma h k t = rw (e, h, k, t)

    low-comma-bad : ltb b 48 ≡ true → eqb b 44 ≡ true → (has_digits f && ltb c 3) ≡ false → step u₀ b ≡ dead
    unfolding step within plain comma
    low-comma-bad h k t = rw (e, h, k, t)

    low-minus : ltb b 48 ≡ true → eqb b 44 ≡ false → eqb b 45 ≡ true → (f.minus || has_digits f) ≡ false → step u₀ b ≡ state (at n st c x y z (field_of true None)) m
    unfolding step within plain minus
    low-minus h k l t = rw (e, h, k, l, t)

    low-minus-bad : ltb b 48 ≡ true → eqb b 44 ≡ false → eqb b 45 ≡ true → (f.minus || has_digits f) ≡ true → step u₀ b ≡ dead
    unfolding step within plain minus
    low-minus-bad h k l t = rw (e, h, k, l, t)

    low-other : ltb b 48 ≡ true → eqb b 44 ≡ false → eqb b 45 ≡ false → step u₀ b ≡ dead
    unfolding step within plain
    low-other h k l = rw (e, h, k, l)

    high_digit : ltb b 48 ≡ false → ltb b 58 ≡ true → leb (size_of f * 10 + (b - 48)) (limit f.minus) ≡ true → step u₀ b ≡ state (at n st c x y z (field_of f.minus (Some (size_of f * 10 + (b - 48))))) m
    unfolding step within plain digit
    high_digit h k t = rw (e, h, k, t)

    high-digit-bad : ltb b 48 ≡ false → ltb b 58 ≡ true → leb (size_of f * 10 + (b - 48)) (limit f.minus) ≡ false → step u₀ b ≡ dead
    unfolding step within plain digit
    high-digit-bad h k t = rw (e, h, k, t)

    high-other : ltb b 48 ≡ false → ltb b 58 ≡ false → step u₀ b ≡ dead
    unfolding step within plain
    high-other h k = rw (e, h, k)

  ends : (b : ℕ) → eqb b 10 ≡ true → step u₀ b ≡ line_end u₀
  unfolding step
  ends b e = rw e

  ends-short : (has_digits f && eqb c 3) ≡ false → line_end u₀ ≡ dead
  unfolding line_end
  ends-short t = rw t

  ends-first : (has_digits f && eqb c 3) ≡ true → n ≡ 1 → (is_address (address_of y) && is_address (address_of z)) ≡ true → line_end u₀ ≡ state (at (following n) (start_of y z (value_of f.minus (size_of f))) 0 x y z no_field) m
  unfolding line_end start_line next
  ends-first t e a = rw (t, eq-eqb n 1 e, a)

  ends-first-bad : (has_digits f && eqb c 3) ≡ true → n ≡ 1 → (is_address (address_of y) && is_address (address_of z)) ≡ false → line_end u₀ ≡ dead
  unfolding line_end start_line next
  ends-first-bad t e a = rw (t, eq-eqb n 1 e, a)

  ends-later : (has_digits f && eqb c 3) ≡ true → (n ≡ 1 → ⊥) → (is_below 2048 x && sound (cell y z (value_of f.minus (size_of f)))) ≡ true → line_end u₀ ≡ state (at (following n) st 0 x y z no_field) (put_cell m (nat_abs x) (cell y z (value_of f.minus (size_of f))))
  unfolding line_end cell_line next
  ends-later t e a = rw (t, ne_eqb n 1 e, a)

  ends-later-bad : (has_digits f && eqb c 3) ≡ true → (n ≡ 1 → ⊥) → (is_below 2048 x && sound (cell y z (value_of f.minus (size_of f)))) ≡ false → line_end u₀ ≡ dead
  unfolding line_end cell_line next
  ends-later-bad t e a = rw (t, ne_eqb n 1 e, a)

-- a byte in a line's fields that is no line end
field_step : {k c : ℕ} {x y z : ℤ} {s a : List ℕ} {f : Field} (st : Start) (m : List ℤ) (b : ℕ) → Commas k c x y z s → Partial a f → eqb b 10 ≡ false → Outcome k st m ((s ++ a) ++ (b ∷ [])) (step (state (at (k + 1) st c x y z f) m) b)
field_step {k} {c} {x} {y} {z} {s} {a} {f} st m b cs p e =
    let n = k + 1 in
    by_bool (ltb b 48)
    (λ h.
    by_bool (eqb b 44)
    (λ i.
    by_bool (has_digits f && ltb c 3)
    (λ t.
    let d = both (has_digits f) (ltb c 3) t in
    let w = value_of f.minus (size_of f) in
    let b' : b ≡ 44 = eqb-true b 44 i in
    let o : Outcome k st m ((s ++ (a ++ (44 ∷ []))) ++ []) (state (at (k + 1) st (suc c) y z w no_field) m) = stays (fields (field cs (whole p d.0)) empty) in
    let o' : Outcome k st m ((s ++ a) ++ (44 ∷ [])) (state (at (k + 1) st (suc c) y z w no_field) m) = on (simp (append_assoc, append-nil)) o in
    to (low-comma n st m c x y z f b e h i t ∙ ap (λ (j : ℕ). state (at (k + 1) st j y z w no_field) m) (add-one c)) (rw b' o'))
    (λ t. to (low-comma-bad n st m c x y z f b e h i t) (breaks refl refl)))
    (λ i.
    by_bool (eqb b 45)
    (λ j.
    by_bool (f.minus || has_digits f)
    (λ t. to (low-minus-bad n st m c x y z f b e h i j t) (breaks refl refl))
    (λ t.
    let b' : b ≡ 45 = eqb-true b 45 j in
    let a' = (no_sign p t).0 in
    let o : Outcome k st m (s ++ (45 ∷ [])) (state (at (k + 1) st c x y z (field_of true None)) m) = stays (fields cs sign) in
    to (low-minus n st m c x y z f b e h i j t) (rw (b', a', append-nil) o)))
    (λ j. to (low-other n st m c x y z f b e h i j) (breaks refl refl))))
    (λ h.
    by_bool (ltb b 58)
    (λ i.
    by_bool (leb (size_of f * 10 + (b - 48)) (limit f.minus))
    (λ t.
    let g = grown b p (ltb-false b 48 h) (ltb-true b 58 i) t in
    to (high_digit n st m c x y z f b e h i t) (on (sym (append_assoc s a (b ∷ []))) (stays (fields cs g))))
    (λ t. to (high-digit-bad n st m c x y z f b e h i t) (breaks refl refl)))
    (λ i. to (high-other n st m c x y z f b e h i) (breaks refl refl)))

-- the line end where three commas and a number stand
ended : {k c : ℕ} {x y z : ℤ} {s a : List ℕ} {f : Field} (st : Start) (m : List ℤ) → Commas k c x y z s → Partial a f → has_digits f ≡ true → c ≡ 3 → (has_digits f && eqb c 3) ≡ true → Outcome k st m ((s ++ a) ++ (10 ∷ [])) (line_end (state (at (k + 1) st c x y z f) m))
ended st m first p d e t = absurd (omega arith)
ended st m later p d e t = absurd (omega arith)
ended st m (field first ra) p d e t = absurd (omega arith)
ended st m (field later ra) p d e t = absurd (omega arith)
ended st m (field (field later ra) rb) p d e t = absurd (omega arith)
ended st m (field (field (field first ra) rb) rc) p d e t = absurd (omega arith)
ended st m (field (field (field (field cs ra) rb) rc) rd) p d e t = absurd (omega arith)
ended {f = f} st m (field {v = sp} {a = b} (field {v = pc} {a} first ra) rb) p d e t =
    by_bool (is_address (address_of pc) && is_address (address_of sp))
    (λ g.
    let ok = both (is_address (address_of pc)) (is_address (address_of sp)) g in
    to (ends-first 1 st m 3 (pos 0) pc sp f t refl g) (on (simp append_assoc) (starts (G.start_line ra rb (whole p d) ok.0 ok.1))))
    (λ g. to (ends-first-bad 1 st m 3 (pos 0) pc sp f t refl g) (breaks refl refl))
ended {f = f} st m (field {v = vc} (field {v = vb} (field {v = va} (later {k}) ra) rb) rc) p d e t =
    let w = value_of f.minus (size_of f) in
    by_bool (is_below 2048 va && sound (cell vb vc w))
    (λ g.
    let ok = both (is_below 2048 va) (sound (cell vb vc w)) g in
    to (ends-later (suc k + 1) st m 3 va vb vc f t (omega arith) g) (on (simp append_assoc) (writes (G.cell_line ra rb rc (whole p d) ok.0 ok.1))))
    (λ g. to (ends-later-bad (suc k + 1) st m 3 va vb vc f t (omega arith) g) (breaks refl refl))

line_step : {k c : ℕ} {x y z : ℤ} {s a : List ℕ} {f : Field} (st : Start) (m : List ℤ) (b : ℕ) → Commas k c x y z s → Partial a f → eqb b 10 ≡ true → Outcome k st m ((s ++ a) ++ (b ∷ [])) (step (state (at (k + 1) st c x y z f) m) b)
line_step {k} {c} {x} {y} {z} {s} {a} {f} st m b cs p e =
    let n = k + 1 in
    let b' : b ≡ 10 = eqb-true b 10 e in
    let o : Outcome k st m ((s ++ a) ++ (10 ∷ [])) (line_end (state (at (k + 1) st c x y z f) m)) =
    by_bool (has_digits f && eqb c 3)
    (λ t. let d = both (has_digits f) (eqb c 3) t in ended st m cs p d.0 (eqb-true c 3 d.1) t)
    (λ t. to (ends-short n st m c x y z f t) (breaks refl refl)) in
    to (ends n st m c x y z f b e) (subst (λ (j : ℕ). Outcome k st m ((s ++ a) ++ (j ∷ [])) (line_end (state (at (k + 1) st c x y z f) m))) (sym b') o)

-- a byte of `start,`
opening-ends : (i b : ℕ) → eqb b 10 ≡ true → step (opening_at i) b ≡ state (broken (opening_at i).reader) empty_cells
unfolding step line_end
opening-ends i b e = rw e

opening-bad : (i b : ℕ) → i < 6 → eqb b 10 ≡ false → eqb (letter i) b ≡ false → step (opening_at i) b ≡ state (broken (opening_at i).reader) empty_cells
unfolding step within opening_byte
opening-bad i b h e t = rw (e, lt-ltb i 6 h, t)

opening-more : (i b : ℕ) → i < 6 → eqb b 10 ≡ false → eqb (letter i) b ≡ true → step (opening_at i) b ≡ opening_at (i + 1)
unfolding step within opening_byte
opening-more i b h e t = rw (e, lt-ltb i 6 h, t)

-- the letters, one more
spelled : (i : ℕ) → i < 5 → take i G.word ++ (letter i ∷ []) ≡ take (i + 1) G.word
unfolding letter
spelled zero h = refl
spelled (suc zero) h = refl
spelled (suc (suc zero)) h = refl
spelled (suc (suc (suc zero))) h = refl
spelled (suc (suc (suc (suc zero)))) h = refl
spelled (suc (suc (suc (suc (suc i))))) h = absurd (omega arith)

opening-step : (i b : ℕ) → i < 6 → Outcome 0 start₀ empty_cells (take i G.word ++ (b ∷ [])) (step (opening_at i) b)
unfolding letter
opening-step i b h =
    by_bool (eqb b 10)
    (λ e. to (opening-ends i b e) (breaks refl refl))
    (λ e.
    by_bool (eqb (letter i) b)
    (λ t.
    let b' : letter i ≡ b = eqb-true (letter i) b t in
    by_bool (ltb i 5)
    (λ l.
    let o : Outcome 0 start₀ empty_cells (take (i + 1) G.word) (opening_at (i + 1)) = stays (opening (i + 1) (omega (arith, ltb-true i 5 l))) in
    to (opening-more i b h e t) (on (sym (spelled i (ltb-true i 5 l)) ∙ ap (λ (j : ℕ). take i G.word ++ (j ∷ [])) b') o))
    (λ l.
    let i' : i ≡ 5 = omega (arith, ltb-false i 5 l) in
    let b'' : b ≡ 44 = sym b' ∙ ap letter i' in
    let o : Outcome 0 start₀ empty_cells (G.word ++ []) (opening_at 6) = stays (fields first empty) in
    to (opening-more i b h e t) (rw (i', b'') o)))
    (λ t. to (opening-bad i b h e t) (breaks refl refl)))

within_step : {k : ℕ} {st : Start} {m : List ℤ} {q : List ℕ} {u : State} (b : ℕ) → Within k st m q u → Outcome k st m (q ++ (b ∷ [])) (step u b)
within_step b (opening i h) = opening-step i b h
within_step {st = st} {m = m} b (fields cs p) = by_bool (eqb b 10) (line_step st m b cs p) (field_step st m b cs p)

-- ---- what is known of a text so far

-- the state after k whole lines
data Began : ℕ → List ℕ → Start → List ℤ → State → Type 0 where
  nothing : Began 0 [] start₀ empty_cells (state opened empty_cells)
  lines : {k : ℕ} {p : List ℕ} {pc sp sr x y z : ℤ} {m : List ℤ} → Image k p pc sp sr m → Began k p (start_of pc sp sr) m (state (at (k + 1) (start_of pc sp sr) 0 x y z no_field) m)

data Part : ℕ → Start → List ℤ → List ℕ → State → Type 0 where
  alive : {k : ℕ} {st : Start} {m : List ℤ} {q : List ℕ} {u : State} → Within k st m q u → Part k st m q u
  dead' : {k : ℕ} {st : Start} {m : List ℤ} {q : List ℕ} {u : State} → u.reader.broken ≡ true → u.reader.line ≡ k + 1 → Part k st m q u

record Known (s : List ℕ) (u : State) : Type 0 where
  k : ℕ
  p : List ℕ
  q : List ℕ
  st : Start
  m : List ℤ
  r₀ : State
  cut : s ≡ p ++ q
  front : Began k p st m r₀
  few : k ≤ length s
  reads : foldl step r₀ q ≡ u
  part : Part k st m q u

-- at the start of a line
line-start : {k : ℕ} {s : List ℕ} {pc sp sr x y z : ℤ} {m : List ℤ} {u : State} → Image (suc k) s pc sp sr m → suc k ≤ length s → u ≡ state (at (suc k + 1) (start_of pc sp sr) 0 x y z no_field) m → Known s u
line-start {k} {s} {pc} {sp} {sr} {x} {y} {z} {m} {u} i h e =
    record { k = suc k; p = s; q = []; st = start_of pc sp sr; m = m; r₀ = state (at (suc k + 1) (start_of pc sp sr) 0 x y z no_field) m; cut = sym (append-nil s); front = lines i; few = h; reads = sym e; part = alive (subst (Within (suc k) (start_of pc sp sr) m []) (sym e) (fields later empty)) }

module _ (s : List ℕ) (b : ℕ) (fits : length s < 18446744073709551614) where
  longer : length (s ++ (b ∷ [])) ≡ length s + 1
  longer = length-append s (b ∷ [])

  extended : (q : List ℕ) {k : ℕ} {p q' : List ℕ} {st : Start} {m : List ℤ} {r₀ u' : State} → s ≡ p ++ q → Began k p st m r₀ → k ≤ length s → q' ≡ q ++ (b ∷ []) → foldl step r₀ q' ≡ u' → Outcome k st m q' u' → Known (s ++ (b ∷ [])) u'
  extended q {k} {p} {q'} {st} {m} {r₀} {u'} c f n e r (stays w) =
      record { k = k; p = p; q = q'; st = st; m = m; r₀ = r₀; cut = rw (c, e, append_assoc); front = f; few = omega (arith, longer); reads = r; part = alive w }
  extended q {k} {p} {q'} {st} {m} {r₀} {u'} c f n e r (breaks h l) =
      record { k = k; p = p; q = q'; st = st; m = m; r₀ = r₀; cut = rw (c, e, append_assoc); front = f; few = omega (arith, longer); reads = r; part = dead' h l }
  extended q {q' = q'} c nothing n e r (starts {pc = pc} {sp} {sr} {x} {y} {z} line) =
      let i : Image 1 (q' ++ []) pc sp sr empty_cells = G.image line G.none in
      let t : q' ++ [] ≡ s ++ (b ∷ []) = rw (append-nil, c) e in
      line-start (subst (λ (j : List ℕ). Image 1 j pc sp sr empty_cells) t i) (omega (arith, longer)) (ap (λ (j : ℕ). state (at j (start_of pc sp sr) 0 x y z no_field) empty_cells) (followed 1 (omega arith)))
  extended q {p = p} {q' = q'} {m = m} c (lines x22) n e r (starts {pc = pc} {sp = sp} {sr = sr} {x = x} {y = y} {z = z} line) = elim x22 [ ]
  extended q {q' = q'} c (lines {pc = pc} {sp} {sr} (G.image {k} {u = v} {v = w} {m = m} a cs)) n e r (writes {n = na} {t = nt} {f = nf} {s = nw} line) =
      let m' = put_cell m (nat_abs na) (cell nt nf nw) in
      let i : Image (suc (suc k)) (v ++ (w ++ q')) pc sp sr m' = G.image a (G.more cs line) in
      let t : v ++ (w ++ q') ≡ s ++ (b ∷ []) = rw (c, e) simp append_assoc in
      line-start (subst (λ (j : List ℕ). Image (suc (suc k)) j pc sp sr m') t i) (omega (arith, longer)) (ap (λ (j : ℕ). state (at j (start_of pc sp sr) 0 na nt nf no_field) m') (followed (suc k + 1) (omega arith) ∙ omega arith))

  extend : {u : State} → Known s u → Known (s ++ (b ∷ [])) (step u b)
  extend {u} a = go a.part
    where
      go : Part a.k a.st a.m a.q u → Known (s ++ (b ∷ [])) (step u b)
      go (alive w) = extended a.q a.cut a.front a.few refl (foldl-append step a.r₀ a.q (b ∷ []) ∙ ap (λ (v : State). step v b) a.reads) (within_step b w)
      go (dead' h l) =
          let e = dead-stays u b h in
          extended a.q a.cut a.front a.few refl (foldl-append step a.r₀ a.q (b ∷ []) ∙ ap (λ (v : State). step v b) a.reads) (breaks (ap (λ (v : State). v.reader.broken) e ∙ h) (ap (λ (v : State). v.reader.line) e ∙ l))

known_from : (t s : List ℕ) (u : State) → Known s u → length s + length t < 18446744073709551615 → Known (s ++ t) (foldl step u t)
known_from [] s u a h = subst (λ (j : List ℕ). Known j u) (sym (append-nil s)) a
known_from (b ∷ t) s u a h =
    let n = length-append s (b ∷ []) in
    subst (λ (j : List ℕ). Known j (foldl step (step u b) t)) (append_assoc s (b ∷ []) t) (known_from t (s ++ (b ∷ [])) (step u b) (extend s b (omega arith) a) (omega arith))

known : (s : List ℕ) → length s < 18446744073709551615 → Known s (read_text s)
unfolding read_text
known s h =
    known_from s [] (state opened empty_cells) (record { k = 0; p = []; q = []; st = start₀; m = empty_cells; r₀ = state opened empty_cells; cut = refl; front = nothing; few = omega arith; reads = refl; part = alive (opening 0 (omega arith)) }) (omega arith)

-- ---- what the answer says

dead-line : (r : Reader) → r.broken ≡ true → broken_line r ≡ Some r.line
unfolding broken_line
dead-line r h = rw h

none_yet : {k c : ℕ} {x y z : ℤ} {s : List ℕ} → Commas k c x y z s → c ≡ 0 → s ≡ []
none_yet first e = absurd (omega arith)
none_yet later e = refl
none_yet (field cs r) e = absurd (omega arith)

first-has : {k c : ℕ} {x y z : ℤ} {s : List ℕ} → Commas k c x y z s → k ≡ 0 → 1 ≤ c
first-has first e = omega arith
first-has later e = absurd (omega arith)
first-has (field cs r) e = omega arith

-- The image that a reader holds.
pub record Accepted (s : List ℕ) (u : State) : Type 0 where
  pub n : ℕ
  pub image : Image n s u.reader.start.pc u.reader.start.sp u.reader.start.sr u.cells

either-false : (a b : Bool) → (a || b) ≡ false → (a ≡ false) × (b ≡ false)
either-false true b e = absurd (true≢false e)
either-false false b e = (refl, e)

read_whole : {k : ℕ} {p : List ℕ} {st : Start} {m : List ℤ} {r₀ u : State} (s q : List ℕ) → s ≡ p ++ q → Began k p st m r₀ → Part k st m q u → broken_line u.reader ≡ None → Accepted s u
unfolding broken_line
read_whole s q c f (dead' {u = u} h l) e = absurd (let z = dead-line u.reader h in cc)
read_whole s q c f (alive (opening i h)) e = absurd (cc)
read_whole s q c nothing (alive (fields {c = n} {f = g} cs r)) e =
    by_bool ((g.minus || has_digits g) || ltb 0 n)
    (λ t. absurd (let z : Some 1 ≡ None = rw t at e in cc))
    (λ t. absurd (let o = first-has cs refl in let l = ltb-false 0 n (either-false (g.minus || has_digits g) (ltb 0 n) t).1 in omega arith))
read_whole s q c (lines {k} {p} {pc} {sp} {sr} {m = m} i) (alive (fields {c = n} {s = w} {a} {f = g} cs r)) e =
    by_bool ((g.minus || has_digits g) || ltb 0 n)
    (λ t. absurd (let z : Some (k + 1) ≡ None = rw t at e in cc))
    (λ t.
    let o = either-false (g.minus || has_digits g) (ltb 0 n) t in
    let l = ltb-false 0 n o.1 in
    let w' : w ≡ [] = none_yet cs (omega arith) in
    let a' = (no_sign r o.0).0 in
    let s' : s ≡ p = rw (w', a', append-nil) at c in
    record { n = k; image = subst (λ (j : List ℕ). Image k j pc sp sr m) (sym s') i })

-- Where no line breaks the form, the text is an image, and the reader holds it.
pub accepted : (s : List ℕ) → length s < 18446744073709551615 → broken_line (read_text s).reader ≡ None → Accepted s (read_text s)
accepted s h e =
    let a = known s h in
    read_whole s a.q a.cut a.front a.part e

part-line : {k : ℕ} {st : Start} {m : List ℤ} {q : List ℕ} {u : State} → Part k st m q u → u.reader.line ≡ k + 1
part-line (dead' h l) = l
part-line (alive (opening i h)) = refl
part-line (alive (fields cs r)) = refl

front_of : {k : ℕ} {p : List ℕ} {st : Start} {m : List ℤ} {r₀ : State} → Began k p st m r₀ → Front k p
front_of nothing = G.nothing
front_of (lines i) = G.lines i

-- a reader that stands at the start of a line names none, unless no line stands before
some_left : {k : ℕ} {p : List ℕ} {st : Start} {m : List ℤ} {r₀ : State} → Began k p st m r₀ → (n : ℕ) → broken_line r₀.reader ≡ Some (n + 1) → k ≡ 0
unfolding broken_line
some_left nothing n e = refl
some_left (lines i) n e = absurd (cc)

-- no line in order stands in front of what was read onto a line without its end
none-good : {k : ℕ} {p : List ℕ} {st : Start} {m : List ℤ} {r₀ : State} (l v : List ℕ) → Began k p st m r₀ → k < 18446744073709551614 → Good k l → (foldl step r₀ (l ++ v)).reader.line ≡ k + 1 → ⊥
none-good l v nothing h (G.first g) e =
    let b = start-line g in
    let w = fold-grows v (foldl step (state opened empty_cells) l) in
    let o : (foldl step (state opened empty_cells) l).reader.line ≡ 2 = ap (λ (u : State). u.reader.line) b in
    let t = ap (λ (u : State). u.reader.line) (foldl-append step (state opened empty_cells) l v) in
    omega arith
none-good {k = zero} {p = p} {m = m} l v (lines {pc = pc} {sp = sp} {sr = sr} {x = x} {y = y} {z = z} i) h _ e = elim i [ ]
none-good l v (lines {k = suc k} {pc = pc} {sp} {sr} {x} {y} {z} {m} i) h (G.later g) e =
    let n = suc k + 1 in
    let st = start_of pc sp sr in
    let r = state (at n st 0 x y z no_field) m in
    let b = cell-line n st m x y z (omega arith) g in
    let w = fold-grows v (foldl step r l) in
    let o : (foldl step r l).reader.line ≡ following n = ap (λ (u : State). u.reader.line) b in
    let f = followed n (omega arith) in
    let t = ap (λ (u : State). u.reader.line) (foldl-append step r l v) in
    omega arith

answer-line : (r : Reader) (n : ℕ) → broken_line r ≡ Some n → r.line ≡ n
unfolding broken_line
answer-line r n e =
    by_bool (r.broken || ((r.field.minus || has_digits r.field) || ltb 0 r.count))
    (λ t. let z : Some r.line ≡ Some n = rw t at e in cc)
    (λ t. absurd (let z : None ≡ Some n = rw t at e in cc))

-- Where the answer is line n + 1, that line breaks the form, and n lines in order stand before it.
pub refused : (s : List ℕ) (n : ℕ) → length s < 18446744073709551614 → broken_line (read_text s).reader ≡ Some (n + 1) → Breaks n s
refused s n h e =
    let a = known s (omega arith) in
    let l = part-line a.part in
    let l' = answer-line (read_text s).reader (n + 1) e in
    let k : a.k ≡ n = omega arith in
    let d = a.reads in
    let few = a.few in
    subst (λ (j : ℕ). Breaks j s) k
    (record {
      p = a.p;
      q = a.q;
      cut = a.cut;
      front = front_of a.front;
      left = λ z. some_left a.front n (ap (λ (u : State). broken_line u.reader) (ap (foldl step a.r₀) (sym z) ∙ d) ∙ e);
      none = λ i v z g. none-good i v a.front (omega arith) g (ap (λ (u : State). u.reader.line) (ap (foldl step a.r₀) (sym z) ∙ d) ∙ l);
    })

-- ---- a text has no more lines than bytes, so that a bound on its length is enough

cell-long : {v : List ℕ} {n t f s : ℤ} → CellLine v n t f s → 1 ≤ length v
cell-long (G.cell_line {a} {b} {c} {d} ra rb rc rd below good) = simp length-append (omega arith)

cells-long : {k : ℕ} {v : List ℕ} {l m : List ℤ} → CellLines k v l m → k ≤ length v
cells-long G.none = omega arith
cells-long (G.more {k} {u} {v} cs c) =
    let a = cells-long cs in
    let b = cell-long c in
    simp length-append (omega arith)

start-long : {v : List ℕ} {pc sp sr : ℤ} → StartLine v pc sp sr → 1 ≤ length v
start-long (G.start_line {a} {b} {c} ra rb rc ok_pc ok_sp) = simp length-append (omega arith)

image-long : {n : ℕ} {s : List ℕ} {pc sp sr : ℤ} {m : List ℤ} → Image n s pc sp sr m → n ≤ length s
image-long (G.image {k} {u} {v} a b) =
    let x = start-long a in
    let y = cells-long b in
    simp length-append (omega arith)

-- In a text of the grammar no line breaks the form, and the reader holds its image.
pub taken : {n : ℕ} {s : List ℕ} {pc sp sr : ℤ} {m : List ℤ} → length s < 18446744073709551615 → Image n s pc sp sr m → (broken_line (read_text s).reader ≡ None) × (((read_text s).reader.start ≡ start_of pc sp sr) × ((read_text s).cells ≡ m))
unfolding broken_line
taken {n} {s} {pc} {sp} {sr} {m} h i =
    let l = image-long i in
    let r = (complete i (omega arith)).is in
    (ap (λ (u : State). broken_line u.reader) r, (ap (λ (u : State). u.reader.start) r, ap (λ (u : State). u.cells) r))

-- So a text has one reading.
pub one-reading : {n n' : ℕ} {s : List ℕ} {pc sp sr pc' sp' sr' : ℤ} {m m' : List ℤ} → length s < 18446744073709551615 → Image n s pc sp sr m → Image n' s pc' sp' sr' m' → (n ≡ n') × ((start_of pc sp sr ≡ start_of pc' sp' sr') × (m ≡ m'))
one-reading h a b =
    let k = image-long a in
    let l = image-long b in
    let p = ap (λ (u : State). u.reader.line) (complete a (omega arith)).is in
    let q = ap (λ (u : State). u.reader.line) (complete b (omega arith)).is in
    let x = taken h a in
    let y = taken h b in
    (omega arith, (sym x.1.0 ∙ y.1.0, sym x.1.1 ∙ y.1.1))

-- ---- only one line can be the lowest that breaks the form

fold-dead : (t : List ℕ) (u : State) → u.reader.broken ≡ true → foldl step u t ≡ u
fold-dead [] u h = refl
fold-dead (b ∷ t) u h = ap (λ (w : State). foldl step w t) (dead-stays u b h) ∙ fold-dead t u h

abbrev NoLine : ℕ → List ℕ → Type 0
NoLine k q = (l v : List ℕ) → q ≡ l ++ v → Good k l → ⊥

-- a line that does not end in order is still open at the end, or broken
abbrev Unended : ℕ → Start → List ℤ → List ℕ → Type 0
Unended k st m q = (d : List ℕ) (u : State) → Within k st m d u → NoLine k (d ++ q) → Part k st m (d ++ q) (foldl step u q)

unended-by : (q d : List ℕ) {k : ℕ} {st : Start} {m : List ℤ} {u : State} → Outcome k st m d u → Unended k st m q → NoLine k (d ++ q) → Part k st m (d ++ q) (foldl step u q)
unended-by q d {u = u} (stays w) go none = go d u w none
unended-by q d {u = u} (breaks h l) go none =
    let e = fold-dead q u h in
    dead' (ap (λ (w : State). w.reader.broken) e ∙ h) (ap (λ (w : State). w.reader.line) e ∙ l)
unended-by q d (starts line) go none = absurd (none d q refl (G.first line))
unended-by q d (writes line) go none = absurd (none d q refl (G.later line))

unended : (k : ℕ) (st : Start) (m : List ℤ) (q : List ℕ) → Unended k st m q
unended k st m [] d u w none = alive (subst (λ (j : List ℕ). Within k st m j u) (sym (append-nil d)) w)
unended k st m (b ∷ q) d u w none =
    let e = append_assoc d (b ∷ []) q in
    subst (λ (j : List ℕ). Part k st m j (foldl step (step u b) q)) e (unended-by q (d ++ (b ∷ [])) (within_step b w) (unended k st m q) (λ l v z. none l v (sym e ∙ z)))

-- where such a line has a byte, or is the first, its number is the answer
open-line : {k : ℕ} {st : Start} {m : List ℤ} {q : List ℕ} {u : State} → Part k st m q u → (q ≡ [] → k ≡ 0) → broken_line u.reader ≡ Some (k + 1)
unfolding broken_line
open-line (dead' {u = u} h l) z = dead-line u.reader h ∙ ap Some l
open-line (alive (opening i h)) z = refl
open-line (alive (fields {k} {c = n} {s = w} {a} {f = g} cs r)) z =
    by_bool ((g.minus || has_digits g) || ltb 0 n)
    (λ t. rw t)
    (λ t.
    let o = either-false (g.minus || has_digits g) (ltb 0 n) t in
    let l = ltb-false 0 n o.1 in
    let w' : w ≡ [] = none_yet cs (omega arith) in
    let a' = (no_sign r o.0).0 in
    let e : w ++ a ≡ [] = rw (w', a') in
    let f = first-has cs (z e) in
    absurd (omega arith))

next-line : {n : ℕ} {s : List ℕ} {pc sp sr : ℤ} {m : List ℤ} (x y z : ℤ) → Image n s pc sp sr m → Within n (start_of pc sp sr) m [] (state (at (n + 1) (start_of pc sp sr) 0 x y z no_field) m)
next-line x y z (G.image a b) = fields later empty

-- at the start of line k + 1
record Begun (k : ℕ) (u : State) : Type 0 where
  st : Start
  m : List ℤ
  start : Within k st m [] u

begun : {k : ℕ} {p : List ℕ} → Front k p → length p < 18446744073709551615 → Begun k (read_text p)
unfolding read_text
begun G.nothing h = record { st = start₀; m = empty_cells; start = opening 0 (omega arith) }
begun (G.lines {k} {p} {pc} {sp} {sr} {m} i) h =
    let l = image-long i in
    let r = complete i (omega arith) in
    record { st = start_of pc sp sr; m = m; start = subst (Within k (start_of pc sp sr) m []) (sym r.is) (next-line r.x r.y r.z i) }

-- The line that breaks the form is the one that the reader answers.
pub broken-at : {k : ℕ} {s : List ℕ} → length s < 18446744073709551615 → Breaks k s → broken_line (read_text s).reader ≡ Some (k + 1)
unfolding read_text
broken-at {k} {s} h b =
    let n = ap length b.cut ∙ length-append b.p b.q in
    let a = begun b.front (omega arith) in
    let e : read_text s ≡ foldl step (read_text b.p) b.q = ap read_text b.cut ∙ foldl-append step (state opened empty_cells) b.p b.q in
    ap (λ (u : State). broken_line u.reader) e ∙ open-line (unended k a.st a.m b.q [] (read_text b.p) a.start b.none) b.left

-- So only one line can be the lowest that breaks the form.
pub one-broken : {j k : ℕ} {s : List ℕ} → length s < 18446744073709551615 → Breaks j s → Breaks k s → j ≡ k
one-broken {j} {k} h a b =
    let x = broken-at h a in
    let y = broken-at h b in
    let e : j + 1 ≡ k + 1 = cc in
    omega arith

-- And none of an image does.
pub none-broken : {n k : ℕ} {s : List ℕ} {pc sp sr : ℤ} {m : List ℤ} → length s < 18446744073709551615 → Image n s pc sp sr m → Breaks k s → ⊥
none-broken h i b =
    let x = (taken h i).0 in
    let y = broken-at h b in
    cc

-- Each text is an image or breaks at a line.
pub data Judged (s : List ℕ) : Type 0 where
  image : Accepted s (read_text s) → Judged s
  breaking : (k : ℕ) → Breaks k s → Judged s

pub judged : (s : List ℕ) → length s < 18446744073709551614 → Judged s
judged s h = go (broken_line (read_text s).reader) refl
  where
    go : (n : Option ℕ) → broken_line (read_text s).reader ≡ n → Judged s
    go None e = image (accepted s (omega arith) e)
    go (Some n) e =
        let a = known s (omega arith) in
        let l = part-line a.part in
        let m = answer-line (read_text s).reader n e in
        let k : n ≡ a.k + 1 = omega arith in
        breaking a.k (refused s a.k h (e ∙ ap Some k))
