-- How the reading of a file goes on. Assumes nothing.
use Rattle.std.proofs.Common.{◌≡◌, refl, sym, ap, ◌∙◌, Bool, true, false, cond, List, [], ◌∷◌, ℕ, zero, suc, ◌-◌, ◌<◌, ◌≤◌, arith, eqb, ne_eqb, length, get_or, take, drop, Option, Some, None, ℤ, Result}
use Rattle.std.proofs.Math.Seq.{take_all}
use Rattle.definition.specs.declared.Counted.{Counted}
use Rattle.source.specs.declared.Refused.{Refused}
use Rattle.definition.specs.Calls.{called}
use Rattle.expression.specs.Reader.{head, tail, past}
use Rattle.expression.specs.Table.{is_inner, next_line}
use Rattle.lines.specs.declared.Reader.{Reader}
use Rattle.lines.specs.Reader.{following}
use Rattle.expression.proofs.Spans.{by_bool}
use lib.Dec.{ltb}
use mathlib.Core.Bool.{not, ◌&&◌}
use Rattle.assembly.specs.Assemble.{assemble_call}
use Rattle.source.specs.Source.{start_read, first_line, start_good, after_number, numeric_from, begins_numeric, line_after, numeric_line, lowest_numeric, done, done_of, is18, judged, assembler_answer, text_judged, loaded, loading}
use Rattle.source.proofs.Fronts.{first_is, rest_is}

-- ---- numeric lines

pub numeric-more : (k : ℕ) (t : List ℕ) → 0 < k → head t ≡ 44 → numeric_from k t ≡ numeric_from (k - 1) (after_number (tail t))
unfolding numeric_from
numeric-more zero t h e = absurd (omega arith)
numeric-more (suc k) t h e = let z : suc k - 1 ≡ k = omega arith in rw (z, e)

pub numeric-none : (k : ℕ) (t : List ℕ) → 0 < k → (head t ≡ 44 → ⊥) → numeric_from k t ≡ false
unfolding numeric_from
numeric-none zero t h e = absurd (omega arith)
numeric-none (suc k) t h e = rw (ne_eqb (head t) 44 e)

pub numeric-end : (k : ℕ) (t : List ℕ) → k ≡ 0 → numeric_from k t ≡ eqb (head t) 10
unfolding numeric_from
numeric-end k t e = rw e

pub numeric-first : (b : ℕ) (t : List ℕ) (k : ℕ) (fresh : Bool) → begins_numeric fresh (b ∷ t) ≡ true → numeric_line k fresh (b ∷ t) ≡ Some k
unfolding numeric_line
numeric-first b t k fresh e = rw e

pub numeric-next : (b : ℕ) (t : List ℕ) (k : ℕ) (fresh : Bool) → begins_numeric fresh (b ∷ t) ≡ false → numeric_line k fresh (b ∷ t) ≡ numeric_line (line_after b k) (eqb b 10) t
unfolding numeric_line
numeric-next b t k fresh e = rw e

-- of a text that is not empty, and of an empty one
module _ (k : ℕ) (fresh : Bool) where
  pub numeric-here : (t : List ℕ) → 1 ≤ length t → begins_numeric fresh t ≡ true → numeric_line k fresh t ≡ Some k
  numeric-here [] h e = absurd (omega arith)
  numeric-here (b ∷ t) h e = numeric-first b t k fresh e

  pub numeric-later : (t : List ℕ) → 1 ≤ length t → begins_numeric fresh t ≡ false → numeric_line k fresh t ≡ numeric_line (line_after (get_or t 0 0) k) (eqb (get_or t 0 0) 10) (take (length t - 1) (drop 1 t))
  numeric-later [] h e = absurd (omega arith)
  numeric-later (b ∷ t) h e = numeric-next b t k fresh e ∙ ap (numeric_line (line_after b k) (eqb b 10)) (sym (take_all (length (b ∷ t) - 1) t (omega arith)))

  pub numeric-over : (t : List ℕ) → length t < 1 → numeric_line k fresh t ≡ None
  unfolding numeric_line
  numeric-over [] h = refl
  numeric-over (b ∷ t) h = absurd (omega arith)

-- ---- the answer, where the first line is a start line

module _ (t line rest : List ℕ) (r : Reader) (front-is : line ≡ first_line t) (past-is : rest ≡ past is_inner t) (read : r ≡ start_read line) (ended : get_or rest 0 0 ≡ 10) (whole : r.broken ≡ false) where
  start-is : r ≡ start_read (first_line t)
  start-is = read ∙ ap start_read front-is

  good : start_good t ≡ true
  unfolding start_good
  good = let h : head rest ≡ 10 = sym (first_is rest) ∙ ended in rw (← past-is, h, ← start-is, whole)

  program : take (length rest - 1) (drop 1 rest) ≡ next_line t
  unfolding next_line
  program = rest_is rest ∙ ap tail past-is

  pub loading-text : (cells : List ℤ) (a : Counted) (left : List ℤ) → called a left ≡ assemble_call (take (length rest - 1) (drop 1 rest)) cells → (n : Option ℕ) → n ≡ lowest_numeric (take (length rest - 1) (drop 1 rest)) → (x : Result (Unit {0}) Refused) → x ≡ text_judged a n → called (loaded x r.start) left ≡ loading t cells
  unfolding loading
  loading-text cells a left h n l x j =
      let m = h ∙ ap (λ (u : List ℕ). assemble_call u cells) program in
      let k = l ∙ ap lowest_numeric program in
      rw (good, ← m, ← k, ← j, start-is)

-- ---- what is judged as a Result is what is judged by numbers

abbrev or_0 : Option ℕ → ℕ
or_0 None = 0
or_0 (Some n) = n

told-as : (a : Counted) → done_of (assembler_answer a) ≡ cond (eqb a.refusal 0) (done 0 0) (done a.refusal (following a.place))
told-as a = by_bool (eqb a.refusal 0) (λ e. rw e) (λ e. rw e)

pub judged-as : (a : Counted) (n : Option ℕ) → done_of (text_judged a n) ≡ judged a (or_0 n)
unfolding text_judged judged is18
judged-as a None = told-as a
judged-as a (Some n) = by_bool (ltb 0 n && not (eqb a.refusal 13 && ltb a.place n)) (λ e. rw e) (λ e. rw e (told-as a))
