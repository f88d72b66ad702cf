-- The message, and that there is room for it. Assumes nothing.
use Rattle.std.proofs.Common.{◌≡◌, refl, ap, List, [], ◌∷◌, ℕ, zero, suc, ◌+◌, ◌-◌, ◌≤◌, ◌<◌, arith, eqb, length, length-append}
use Rattle.expression.specs.Reader.{tail, past}
use Rattle.expression.specs.Table.{is_inner, next_line}
use Rattle.expression.proofs.Spans.{front-past, by_bool}
use Rattle.printing.proofs.Laws.{decimal_short, texts}
use Rattle.source.specs.Message.{lines_from, line_at, number_text, expected_text, start_text, grammar_text, label_text, numbers_text, value_text}

-- ---- the line that was read

pub lines_next : (p k : ℕ) (t : List ℕ) → k < p → lines_from (p - k) t ≡ lines_from (p - (k + 1)) (next_line t)
unfolding lines_from
lines_next p k t h =
    let e : p - k ≡ suc (p - (k + 1)) = omega arith in
    rw e

pub lines_here : (p k : ℕ) (t : List ℕ) → p ≤ k → lines_from (p - k) t ≡ t
unfolding lines_from
lines_here p k t h =
    let e : p - k ≡ 0 = omega arith in
    rw e

-- past the end of the text there is nothing
pub lines_none : (k : ℕ) (t : List ℕ) → length t ≡ 0 → lines_from k t ≡ t
unfolding lines_from next_line past tail
lines_none zero t h = refl
lines_none (suc k) [] h = lines_none k [] refl
lines_none (suc k) (b ∷ t) h = absurd (omega arith)

tail-short : (t : List ℕ) → length (tail t) ≤ length t
unfolding tail
tail-short [] = omega arith
tail-short (b ∷ t) = omega arith

next-short : (t : List ℕ) → length (next_line t) ≤ length t
unfolding next_line
next-short t =
    let a = tail-short (past is_inner t) in
    omega (arith, simp length-append at (ap length (front-past is_inner t)))

lines-short : (k : ℕ) (t : List ℕ) → length (lines_from k t) ≤ length t
unfolding lines_from
lines-short zero t = omega arith
lines-short (suc k) t =
    let a = lines-short k (next_line t) in
    let b = next-short t in
    omega arith

pub line_short : (p : ℕ) (t : List ℕ) → length (line_at p t) ≤ length t
unfolding line_at
line_short p t =
    let a = lines-short (p - 1) t in
    omega (arith, simp length-append at (ap length (front-past is_inner (lines_from (p - 1) t))))

-- ---- what was expected

pub number_short : (p : ℕ) → length (number_text p) ≤ 25
unfolding number_text
number_short p = let a = decimal_short p in simp length-append (omega arith)

pub expected_short : (n : ℕ) → length (expected_text n) ≤ 150
unfolding expected_text start_text grammar_text label_text numbers_text value_text
expected_short n =
    by_bool (eqb n 12) (λ e. rw e (omega arith)) (λ e. rw e
    (by_bool (eqb n 13) (λ f. rw f (omega arith)) (λ f. rw f
    (by_bool (eqb n 14) (λ g. rw g (omega arith)) (λ g. rw g
    (by_bool (eqb n 18) (λ h. rw h (omega arith)) (λ h. rw h (omega arith))))))))

pub ruleset pieces = (texts, number_short, line_short, expected_short)
