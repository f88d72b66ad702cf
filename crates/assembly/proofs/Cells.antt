-- The statements of Theorems. Assumes nothing.
use mathlib.Core.Path.{◌≡◌, refl, sym, ap, ◌∙◌, subst}
use mathlib.Core.Bool.{Bool, true, false, not, ◌||◌}
use mathlib.Core.List.{List, [], ◌∷◌, map}
use mathlib.Core.Option.{Option, some, none}
use Prim.Native.Nat.{ℕ, suc, ◌+◌, ◌*◌, ◌/◌, ◌≤◌, ◌<◌}
use native.Mathlib.Omega.{arith}
use lib.IntN.{ℤ, pos}
use lib.ListN.{length, length-map}
use lib.Dec.{eqb}
use Rattle.definition.specs.declared.Cell.{Cell}
use Rattle.definition.specs.Word.{eq_z, address_of}
use Rattle.definition.specs.Encoding.{legal, op_number, mode₁, mode₂, reg₁, reg₂, register_fits, is_address, number_fits, sound_instruction, sound_at, sound}
use Rattle.expression.specs.declared.Value.{Value}
use Rattle.expression.specs.Grammar.{Expr}
use Rattle.expression.specs.Reader.{trees}
use Rattle.expression.specs.Values.{eval}
use Rattle.expression.proofs.Spans.{by_bool, clash}
use Rattle.assembly.specs.Grammar.{Arg, None, Imm, Reg, Dir, Ind, Idx, mode, Body, Word, Code, Line, line, registers, Named, named, Register, register, Operand, Content, Row, Rows}
use Rattle.assembly.specs.Grammar as G
use Rattle.assembly.specs.Reader.{Text, lines, broken, rows}
use Rattle.assembly.specs.Assemble.{place_in, labels_of, arg_of, body_of, line_values, arg_exceeds, exceeds, arg_register, arg_number, body_cell, line_cell, lowest, wrong_labels, wrong_values, cells, refuses, otherwise, judged, assembled, assemble}
use Rattle.assembly.specs.Theorems.{CellsFit, all_sound, OneReading, Refused13, Accepted, CellsSound}
use Rattle.assembly.proofs.Sound.{rows-sound}
use Rattle.assembly.proofs.Complete.{rows-complete}
use Rattle.assembly.proofs.Complete as C

-- ---- an operand's numbers fit its mode

register-fits : (x : Arg Value) → register_fits (mode x) (arg_register x) ≡ true
unfolding register_fits mode arg_register
register-fits None = refl
register-fits (Imm v) = refl
register-fits (Reg r) = by_bool (eqb r 0) (λ e. rw e) (λ e. rw e)
register-fits (Dir v) = refl
register-fits (Ind r) = by_bool (eqb r 0) (λ e. rw e) (λ e. rw e)
register-fits (Idx r v) = by_bool (eqb r 0) (λ e. rw e) (λ e. rw e)

or-true : (b : Bool) → (b || true) ≡ true
or-true true = refl
or-true false = refl

either : (a b : Bool) → (a || b) ≡ false → (a ≡ false) × (b ≡ false)
either true b h = clash refl h
either false b h = (refl, h)

not-false : (b : Bool) → not b ≡ false → b ≡ true
not-false true h = refl
not-false false h = clash refl h

number_fits_lem : (x : Arg Value) → arg_exceeds x ≡ false → number_fits (mode x) (arg_number x) ≡ true
unfolding number_fits mode arg_number arg_exceeds
number_fits_lem None h = refl
number_fits_lem (Imm v) h = or-true (eq_z v.value (pos 0))
number_fits_lem (Reg r) h = refl
number_fits_lem (Dir v) h =
    let a = not-false (is_address (address_of v.value)) (either v.overflow (not (is_address (address_of v.value))) h).1 in
    rw a (or-true (eq_z v.value (pos 0)))
number_fits_lem (Ind r) h = refl
number_fits_lem (Idx r v) h = or-true (eq_z v.value (pos 0))

-- ---- the tag of a form

module _ (o m n r q : ℕ) (i : m < 6) (j : n < 6) (k : r < 5) (l : q < 5) where
  abbrev form : ℕ
  form = (o * 36 + m * 6 + n) * 25 + r * 5 + q

  form-op : op_number form ≡ o
  form-op = omega arith

  form-first : mode₁ form ≡ m
  form-first = let a : form / 150 ≡ o * 6 + m = omega arith in rw a (omega arith)

  form-second : mode₂ form ≡ n
  form-second = let a : form / 25 ≡ (o * 6 + m) * 6 + n = omega arith in rw a (omega arith)

  form-register : reg₁ form ≡ r
  form-register = let a : form / 5 ≡ (o * 36 + m * 6 + n) * 5 + r = omega arith in rw a (omega arith)

  form-other : reg₂ form ≡ q
  form-other = omega arith

sound-tag : (t : ℕ) (f s : ℤ) → sound_at (pos (2 + t)) f s ≡ sound_instruction t f s
unfolding sound_at
sound-tag t f s = let z : 2 + t ≡ suc (suc t) = omega arith in rw z

form-sound : (o m n r q : ℕ) (f s : ℤ) → m < 6 → n < 6 → r < 5 → q < 5 → legal o m n ≡ true → register_fits m r ≡ true → register_fits n q ≡ true → number_fits m f ≡ true → number_fits n s ≡ true → sound_instruction ((o * 36 + m * 6 + n) * 25 + r * 5 + q) f s ≡ true
unfolding sound_instruction
form-sound o m n r q f s i j k l a b c d e =
    rw (form-op o m n r q i j k l, form-first o m n r q i j k l, form-second o m n r q i j k l, form-register o m n r q i j k l, form-other o m n r q i j k l, a, b, c, d, e)

pub code-sound : (o : ℕ) (x y : Arg Value) → legal o (mode x) (mode y) ≡ true → mode x < 6 → mode y < 6 → arg_register x < 5 → arg_register y < 5 → (arg_exceeds x || arg_exceeds y) ≡ false → sound (body_cell (Code o x y)) ≡ true
unfolding sound body_cell
code-sound o x y l i j k q h =
    let e = either (arg_exceeds x) (arg_exceeds y) h in
    sound-tag ((o * 36 + mode x * 6 + mode y) * 25 + arg_register x * 5 + arg_register y) (arg_number x) (arg_number y) ∙ form-sound o (mode x) (mode y) (arg_register x) (arg_register y) (arg_number x) (arg_number y) i j k q l (register-fits x) (register-fits y) (number_fits_lem x e.0) (number_fits_lem y e.1)

word_sound : (v : Value) → sound (body_cell (Word v)) ≡ true
unfolding sound sound_at body_cell
word_sound v = refl

-- ---- what the grammar gives

name-small : {m : List ℕ} {n : ℕ} → Named registers m n → n < 5
name-small (named {n} h) = h

module _ (f : Expr → Value) where
  mode-kept : (x : Arg Expr) → mode (arg_of f x) ≡ mode x
  unfolding mode arg_of
  mode-kept None = refl
  mode-kept (Imm x) = refl
  mode-kept (Reg r) = refl
  mode-kept (Dir x) = refl
  mode-kept (Ind r) = refl
  mode-kept (Idx r x) = refl

  none-small : (mode (arg_of f None) < 6) × (arg_register (arg_of f None) < 5)
  unfolding mode arg_of arg_register
  none-small = (omega arith, omega arith)

  register-small : {s : List ℕ} {r : ℕ} → Register s r → r < 5
  register-small (register q k) = name-small q

  operand_small : {d : ℕ} {s : List ℕ} {x : Arg Expr} → Operand d s x → (mode (arg_of f x) < 6) × (arg_register (arg_of f x) < 5)
  unfolding mode arg_of arg_register
  operand_small (G.imm q) = (omega arith, omega arith)
  operand_small (G.reg q) = (omega arith, register-small q)
  operand_small (G.dir a q z) = (omega arith, omega arith)
  operand_small (G.ind a q z) = (omega arith, register-small q)
  operand_small (G.idx a q i z) = (omega arith, register-small q)

  content-sound : {d : ℕ} {s : List ℕ} {b : Body Expr} → Content d s b → exceeds (body_of f b) ≡ false → sound (body_cell (body_of f b)) ≡ true
  unfolding body_of exceeds mode
  content-sound (G.word {d} {g} {s} {e} k q) h = word_sound (f e)
  content-sound (G.bare {d} {o} q l k) h =
      let a = none-small in
      code-sound o (arg_of f None) (arg_of f None) (rw (mode-kept None) l) a.0 a.0 a.1 a.1 h
  content-sound (G.one {d} {o} {m} {g} {s} {x} q l k p) h =
      let a = operand_small p in let b = none-small in
      code-sound o (arg_of f x) (arg_of f None) (rw (mode-kept x, mode-kept None) l) a.0 b.0 a.1 b.1 h
  content-sound (G.two {d} {o} {m} {g} {s} {c} {u} {x} {y} q l k p j i) h =
      let a = operand_small p in let b = operand_small i in
      code-sound o (arg_of f x) (arg_of f y) (rw (mode-kept x, mode-kept y) l) a.0 b.0 a.1 b.1 h

row-sound : (p : List ℕ → Option ℕ) {d : ℕ} {s : List ℕ} {l : Line Expr} → Row d s l → exceeds (line_values p l).body ≡ false → sound (line_cell (line_values p l)) ≡ true
row-sound p (G.plain k q) h = content-sound (eval p) q h
row-sound p (G.labelled k q l m c) h = content-sound (eval p) c h

none-some : {P : Type 0} {k : ℕ} → some k ≡ none → P
none-some e = let z : ◌≡◌ {A = ℕ} 0 1 = cc in absurd (omega arith)

all-rows : (p : List ℕ → Option ℕ) {d : ℕ} {t : List ℕ} {ls : List (Line Expr)} (k : ℕ) (before : List (Option (List ℕ))) → Rows d t ls → lowest wrong_values k before (map (line_values p) ls) ≡ none → all_sound (map line_cell (map (line_values p) ls)) ≡ true
unfolding lowest all_sound
all-rows p k before G.end h = refl
all-rows p k before (G.more {d} {s} {t} {l} {ls} q r) h =
    by_bool (exceeds (line_values p l).body)
    (λ e. none-some (rw e at h))
    (λ e. rw (row-sound p q e) (all-rows p (suc k) (l.label ∷ before) r (rw e at h)))

cells-path : {vs ws : List Cell} → cells vs ≡ cells ws → vs ≡ ws
cells-path e = cc

apart : {P : Type 0} {r k : ℕ} {vs : List Cell} → refuses r k ≡ cells vs → P
apart e = let z : ◌≡◌ {A = ℕ} 0 1 = cc in absurd (omega arith)

passed : (x y : Option ℕ) (ws vs : List Cell) → otherwise 14 x (otherwise 15 y (cells ws)) ≡ cells vs → (y ≡ none) × (ws ≡ vs)
unfolding otherwise
passed none none ws vs h = (refl, cells-path h)
passed none (some j) ws vs h = apart h
passed (some k) y ws vs h = apart h

text-sound : (room : ℕ) (t : List ℕ) (x : Text Expr) (vs : List Cell) → rows trees 32 room t ≡ x → assembled x ≡ cells vs → all_sound vs ≡ true
unfolding assembled judged
text-sound room t (lines ls) vs e h =
    let p = place_in 0 (labels_of ls) in
    let a = passed (lowest wrong_labels 0 [] (map (line_values p) ls)) (lowest wrong_values 0 [] (map (line_values p) ls)) (map line_cell (map (line_values p) ls)) vs h in
    subst (λ (ws : List Cell). all_sound ws ≡ true) a.1 (all-rows p 0 [] (rows-sound 32 room t ls e).0 a.0)
text-sound room t (broken k) vs e h = apart h

pub cells-sound : CellsSound
unfolding assemble
cells-sound room t vs h = text-sound room t (rows trees 32 room t) vs refl h

text-fits : (room : ℕ) (t : List ℕ) (x : Text Expr) (vs : List Cell) → rows trees 32 room t ≡ x → assembled x ≡ cells vs → length vs ≤ room
unfolding assembled judged
text-fits room t (lines ls) vs e h =
    let p = place_in 0 (labels_of ls) in
    let a = passed (lowest wrong_labels 0 [] (map (line_values p) ls)) (lowest wrong_values 0 [] (map (line_values p) ls)) (map line_cell (map (line_values p) ls)) vs h in
    let n : length vs ≡ length ls = rw (← a.1) (simp length-map) in
    omega (arith, (rows-sound 32 room t ls e).1)
text-fits room t (broken k) vs e h = apart h

pub cells_fit : CellsFit
unfolding assemble
cells_fit room t vs h = text-fits room t (rows trees 32 room t) vs refl h

pub one-reading : OneReading
one-reading t ls ms p q = C.one-reading 32 p q

-- ---- 13

accepted-by : (room : ℕ) (t : List ℕ) (x : Text Expr) (vs : List Cell) → rows trees 32 room t ≡ x → assembled x ≡ cells vs → (ls : List (Line Expr)) × (Rows 32 t ls × (length ls ≤ room))
unfolding assembled
accepted-by room t (lines ls) vs e h = let a = rows-sound 32 room t ls e in (ls, (a.0, a.1))
accepted-by room t (broken k) vs e h = apart h

pub accepted : Accepted
unfolding assemble
accepted room t vs h = accepted-by room t (rows trees 32 room t) vs refl h

pub other-number : (x y : Option ℕ) (ws : List Cell) (k : ℕ) → otherwise 14 x (otherwise 15 y (cells ws)) ≡ refuses 13 k → ⊥
unfolding otherwise
other-number none none ws k h = apart (sym h)
other-number none (some j) ws k h = let z : ◌≡◌ {A = ℕ} 15 13 = cc in absurd (omega arith)
other-number (some j) y ws k h = let z : ◌≡◌ {A = ℕ} 14 13 = cc in absurd (omega arith)

pub refused-13 : Refused13
unfolding assemble assembled judged
refused-13 room t k h ls r l =
    let e = rows-complete 32 room r l in
    let p = place_in 0 (labels_of ls) in
    other-number (lowest wrong_labels 0 [] (map (line_values p) ls)) (lowest wrong_values 0 [] (map (line_values p) ls)) (map line_cell (map (line_values p) ls)) k (sym (ap assembled e) ∙ h)
