-- Each text of the grammar is read to the grammar's image. Assumes nothing.
use mathlib.Core.Path.{◌≡◌, refl, ap, ◌∙◌}
use mathlib.Core.Bool.{Bool, true, false}
use mathlib.Core.List.{List, [], ◌∷◌, ◌++◌, foldl, foldl-append}
use Prim.Native.Nat.{ℕ, suc, ◌+◌, ◌*◌, ◌-◌, ◌≤◌, ◌<◌}
use native.Mathlib.Omega.{arith}
use lib.IntN.{ℤ, pos, nat_abs}
use Rattle.std.specs.Prelude.{Option, Some, None, unwrap_or}
use borrow.Author.Tests.{lt-ltb, le-ltb, le-leb, ne_eqb}
use Rattle.definition.specs.Word.{address_of}
use Rattle.definition.specs.Memory.{cell, put_cell}
use Rattle.definition.specs.Encoding.{sound, is_address}
use Rattle.definition.specs.Calls.{is_below}
use Rattle.decimal.specs.Decimal as D
use Rattle.decimal.proofs.Laws.{value-plus, value-minus}
use Rattle.lines.specs.declared.Field.{Field}
use Rattle.lines.specs.declared.Start.{Start}
use Rattle.lines.specs.declared.Reader.{Reader}
use Rattle.lines.specs.Reader.{no_field, has_digits, size_of, opened, limit, value_of, letter, opening_byte, digit, comma, minus, plain, within, following, next, start_line, State, state, cell_line, line_end, step, broken_line, empty_cells, read_text}
use Rattle.lines.specs.Grammar.{Digits, Numeral, StartLine, CellLine, CellLines, Image}
use Rattle.lines.specs.Grammar as G

abbrev pub field_of : Bool → Option ℕ → Field
field_of b m = record { minus = b; magnitude = m }

abbrev pub start_of : ℤ → ℤ → ℤ → Start
start_of pc sp sr = record { pc = pc; sp = sp; sr = sr }

-- On line n, past k commas, the last three fields x, y and z, in the field f.
abbrev pub at : ℕ → Start → ℕ → ℤ → ℤ → ℤ → Field → Reader
at n st k x y z f =
    record { line = n; broken = false; opening = 6; count = k; last = record { x = x; y = y; z = z }; field = f; start = st }

module _ (n : ℕ) (st : Start) (l : List ℤ) (k : ℕ) (x y z : ℤ) where
  abbrev here : Field → State
  here f = state (at n st k x y z f) l

  -- one digit
  digit-taken : (b : Bool) (m : Option ℕ) (d : ℕ) → d < 10 → unwrap_or m 0 * 10 + d ≤ limit b → step (here (field_of b m)) (48 + d) ≡ here (field_of b (Some (unwrap_or m 0 * 10 + d)))
  unfolding step within plain digit
  digit-taken b m d h f =
      let e : (48 + d) - 48 ≡ d = omega arith in
      rw (ne_eqb (48 + d) 10 (omega arith), le-ltb (48 + d) 48 (omega arith), lt-ltb (48 + d) 58 (omega arith), e, le-leb (unwrap_or m 0 * 10 + d) (limit b) f)

  digits-taken : {s : List ℕ} {v : ℕ} → Digits s v → (b : Bool) → v ≤ limit b → foldl step (here (field_of b None)) s ≡ here (field_of b (Some v))
  digits-taken (D.one {d} h) b f = let e : 0 * 10 + d ≡ d = omega arith in
      rw e at (digit-taken b None d h (omega arith))
  digits-taken (D.more {s} {v} {d} r h) b f =
      foldl-append step (here (field_of b None)) s ((48 + d) ∷ [])
      ∙ ap (λ (u : State). step u (48 + d)) (digits-taken r b (omega arith))
      ∙ digit-taken b (Some v) d h f

  minus-taken : step (here no_field) 45 ≡ here (field_of true None)
  unfolding step within plain minus
  minus-taken = refl

  -- a number from the start of a field
  record Read (s : List ℕ) (w : ℤ) : Type 0 where
    f : Field
    whole : has_digits f ≡ true
    value : value_of f.minus (size_of f) ≡ w
    reads : foldl step (here no_field) s ≡ here f

  numeral-taken : {s : List ℕ} {w : ℤ} → Numeral s w → Read s w
  numeral-taken (G.plus {s} {v} r h) =
      record { f = field_of false (Some v); whole = refl; value = value-plus v h; reads = digits-taken r false h }
  numeral-taken (G.minus {s} {v} r h) =
      record { f = field_of true (Some v); whole = refl; value = value-minus v h; reads = ap (λ (u : State). foldl step u s) minus-taken ∙ digits-taken r true h }

  comma-taken : (f : Field) (w : ℤ) → has_digits f ≡ true → value_of f.minus (size_of f) ≡ w → k < 3 → step (here f) 44 ≡ state (at n st (k + 1) y z w no_field) l
  unfolding step within plain comma
  comma-taken f w d v h = rw (d, lt-ltb k 3 h, v)

  -- a field and its comma
  field-taken : {s : List ℕ} {w : ℤ} → Numeral s w → k < 3 → foldl step (here no_field) (s ++ (44 ∷ [])) ≡ state (at n st (k + 1) y z w no_field) l
  field-taken {s} {w} r h =
      let t = numeral-taken r in
      foldl-append step (here no_field) s (44 ∷ []) ∙ ap (λ (u : State). step u 44) t.reads ∙ comma-taken t.f w t.whole t.value h

module _ (n : ℕ) (st : Start) (l : List ℤ) (x y z : ℤ) where
  -- the line end of a cell's line
  cell-ended : (f : Field) (w : ℤ) → (n ≡ 1 → ⊥) → has_digits f ≡ true → value_of f.minus (size_of f) ≡ w → is_below 2048 x ≡ true → sound (cell y z w) ≡ true → step (state (at n st 3 x y z f) l) 10 ≡ state (at (following n) st 0 x y z no_field) (put_cell l (nat_abs x) (cell y z w))
  unfolding step line_end cell_line next
  cell-ended f w e d v b s = rw (d, ne_eqb n 1 e, v, b, s)

  start-ended : (f : Field) (w : ℤ) → has_digits f ≡ true → value_of f.minus (size_of f) ≡ w → is_address (address_of y) ≡ true → is_address (address_of z) ≡ true → step (state (at 1 st 3 x y z f) l) 10 ≡ state (at 2 (start_of y z w) 0 x y z no_field) l
  unfolding step line_end start_line next following
  start-ended f w d v b s = rw (d, v, b, s)

-- a line of a cell, from its start
pub cell-line : (n : ℕ) (st : Start) (l : List ℤ) (x y z : ℤ) {s : List ℕ} {a t f w : ℤ} → (n ≡ 1 → ⊥) → CellLine s a t f w → foldl step (state (at n st 0 x y z no_field) l) s ≡ state (at (following n) st 0 a t f no_field) (put_cell l (nat_abs a) (cell t f w))
cell-line n st l x y z e (G.cell_line {a} {b} {c} {d} {n = na} {t = nt} {f = nf} {s = nw} ra rt rf rw' below good) =
    let s₀ = state (at n st 0 x y z no_field) l in
    let q = numeral-taken n st l 3 na nt nf rw' in
    foldl-append step s₀ (a ++ (44 ∷ [])) _
    ∙ ap (λ (u : State). foldl step u ((b ++ (44 ∷ [])) ++ ((c ++ (44 ∷ [])) ++ (d ++ (10 ∷ []))))) (field-taken n st l 0 x y z ra (omega arith))
    ∙ foldl-append step (state (at n st 1 y z na no_field) l) (b ++ (44 ∷ [])) _
    ∙ ap (λ (u : State). foldl step u ((c ++ (44 ∷ [])) ++ (d ++ (10 ∷ [])))) (field-taken n st l 1 y z na rt (omega arith))
    ∙ foldl-append step (state (at n st 2 z na nt no_field) l) (c ++ (44 ∷ [])) _
    ∙ ap (λ (u : State). foldl step u (d ++ (10 ∷ []))) (field-taken n st l 2 z na nt rf (omega arith))
    ∙ foldl-append step (state (at n st 3 na nt nf no_field) l) d (10 ∷ [])
    ∙ ap (λ (u : State). step u 10) q.reads
    ∙ cell-ended n st l na nt nf q.f nw e q.whole q.value below good

word-taken : foldl step (state opened empty_cells) G.word ≡ state (at 1 (start_of (pos 0) (pos 0) (pos 0)) 1 (pos 0) (pos 0) (pos 0) no_field) empty_cells
unfolding step within opening_byte letter
word-taken = refl

-- the first line
pub start-line : {s : List ℕ} {pc sp sr : ℤ} → StartLine s pc sp sr → foldl step (state opened empty_cells) s ≡ state (at 2 (start_of pc sp sr) 0 (pos 0) pc sp no_field) empty_cells
start-line (G.start_line {a} {b} {c} {pc} {sp} {sr} ra rb rc ok_pc ok_sp) =
    let st = start_of (pos 0) (pos 0) (pos 0) in
    let l = empty_cells in
    let q = numeral-taken 1 st l 3 (pos 0) pc sp rc in
    foldl-append step (state opened l) G.word ((a ++ (44 ∷ [])) ++ ((b ++ (44 ∷ [])) ++ (c ++ (10 ∷ []))))
    ∙ ap (λ (u : State). foldl step u ((a ++ (44 ∷ [])) ++ ((b ++ (44 ∷ [])) ++ (c ++ (10 ∷ []))))) word-taken
    ∙ foldl-append step (state (at 1 st 1 (pos 0) (pos 0) (pos 0) no_field) l) (a ++ (44 ∷ [])) _
    ∙ ap (λ (u : State). foldl step u ((b ++ (44 ∷ [])) ++ (c ++ (10 ∷ [])))) (field-taken 1 st l 1 (pos 0) (pos 0) (pos 0) ra (omega arith))
    ∙ foldl-append step (state (at 1 st 2 (pos 0) (pos 0) pc no_field) l) (b ++ (44 ∷ [])) _
    ∙ ap (λ (u : State). foldl step u (c ++ (10 ∷ []))) (field-taken 1 st l 2 (pos 0) (pos 0) pc rb (omega arith))
    ∙ foldl-append step (state (at 1 st 3 (pos 0) pc sp no_field) l) c (10 ∷ [])
    ∙ ap (λ (u : State). step u 10) q.reads
    ∙ start-ended 1 st l (pos 0) pc sp q.f sr q.whole q.value ok_pc ok_sp

-- At the start of line n, with these cells; the last fields are of no account there.
pub record Reached (n : ℕ) (st : Start) (m : List ℤ) (u : State) : Type 0 where
  pub x : ℤ
  pub y : ℤ
  pub z : ℤ
  pub is : u ≡ state (at n st 0 x y z no_field) m

pub followed : (n : ℕ) → n < 18446744073709551615 → following n ≡ n + 1
unfolding following
followed n h = rw (lt-ltb n 18446744073709551615 h)

-- the lines of cells
pub cell-lines : {k : ℕ} {s : List ℕ} {l m : List ℤ} → CellLines k s l m → (st : Start) (u : State) → k + 2 < 18446744073709551616 → Reached 2 st l u → Reached (k + 2) st m (foldl step u s)
cell-lines G.none st u h r = r
cell-lines (G.more {k} {u = s} {v} {l} {m} {n = na} {t = nt} {f = nf} {s = nw} rs c) st u h r =
    let b = cell-lines rs st u (omega arith) r in
    let e : following (k + 2) ≡ suc k + 2 = followed (k + 2) (omega arith) ∙ omega arith in
    record { x = na; y = nt; z = nf; is = foldl-append step u s v ∙ ap (λ (w : State). foldl step w v) b.is ∙ rw e at (cell-line (k + 2) st m b.x b.y b.z (omega arith) c) }

-- A text of the grammar, of fewer than 2^64 lines, is read to its image.
pub complete : {n : ℕ} {s : List ℕ} {pc sp sr : ℤ} {m : List ℤ} → Image n s pc sp sr m → n < 18446744073709551615 → Reached (n + 1) (start_of pc sp sr) m (read_text s)
unfolding read_text
complete (G.image {k} {u} {v} {pc} {sp} {sr} {m} a b) h =
    let e : k + 2 ≡ suc k + 1 = omega arith in
    let r = cell-lines b (start_of pc sp sr) (foldl step (state opened empty_cells) u) (omega arith) (record { x = pos 0; y = pc; z = sp; is = start-line a }) in
    record { x = r.x; y = r.y; z = r.z; is = foldl-append step (state opened empty_cells) u v ∙ rw e at r.is }

-- Such a reader names no line that breaks the form.
pub answers-none : {n : ℕ} {st : Start} {m : List ℤ} {u : State} → Reached n st m u → broken_line u.reader ≡ None
unfolding broken_line
answers-none {n} {st} {m} {u} r = ap (λ (w : State). broken_line w.reader) r.is
