-- Each refusal stands at the lowest line of its kind. Assumes nothing.
use mathlib.Core.Path.{◌≡◌, refl, sym, ap, ◌∙◌, subst}
use mathlib.Core.Bool.{Bool, true, false, not, ◌&&◌}
use mathlib.Core.List.{List, [], ◌∷◌, map}
use mathlib.Core.Option as M
use Rattle.std.specs.Prelude.{Option, Some, None, Err}
use Prim.Native.Nat.{ℕ, zero, suc, ◌+◌, ◌≤◌, ◌<◌}
use native.Mathlib.Omega.{arith}
use lib.Dec.{eqb, ltb}
use lib.IntN.{ℤ}
use lib.ListN.{length}
use borrow.Author.Tests.{eqb-true, eq-eqb, ne_eqb, lt-ltb, ltb-true, ltb-false}
use Rattle.encoding.proofs.Rule.{both}
use Rattle.definition.specs.declared.Counted.{Counted}
use Rattle.lines.specs.Reader.{following, empty_cells}
use Rattle.expression.specs.Reader.{head, is_digit}
use Rattle.expression.specs.Table.{next_line}
use Rattle.expression.proofs.Spans.{by_bool, clash}
use Rattle.definition.specs.declared.Cell.{Cell}
use Rattle.expression.specs.Grammar.{Expr}
use Rattle.expression.specs.Reader.{trees}
use Rattle.assembly.specs.Reader.{Text, lines, broken, rows}
use Rattle.assembly.specs.Assemble.{Assembled, cells, refuses, otherwise, lowest, wrong_labels, wrong_values, line_values, place_in, labels_of, line_cell, assembled, assemble, answered, assemble_call}
use Rattle.assembly.specs.Assemble as J
use Rattle.definition.specs.Calls.{Called, called}
use Rattle.definition.specs.declared.Done.{Done}
use Rattle.source.specs.declared.Loaded.{Loaded}
use Rattle.definition.specs.declared.answers.Refusal.TheVariants.{ImageLine}
use Rattle.source.specs.Source.{start_read, first_line, loaded, start_good, is_numeric, numeric_from, after_number, after_minus, begins_numeric, line_after, numeric_line, lowest_numeric, refused, done_of, is18, assembler_answer, text_judged, loading}
use Rattle.source.specs.Theorems.{From, here, on, past, LowestNumeric, NoNumericTo, NoNumeric, answer, made, Small, LowestOf18, LowestOf13, ThenTheOthers}
use Rattle.source.proofs.Laws.{numeric-first, numeric-next}
use Rattle.source.proofs.Decimals.{exactly}

-- ---- where a line begins

data Cases (fresh : Bool) (b : ℕ) (t : List ℕ) (j : ℕ) (r : List ℕ) : Type 0 where
  first : fresh ≡ true → j ≡ 0 → r ≡ b ∷ t → Cases fresh b t j r
  same : eqb b 10 ≡ false → From false t j r → Cases fresh b t j r
  next : (i : ℕ) → j ≡ suc i → eqb b 10 ≡ true → From true t i r → Cases fresh b t j r

split : {fresh : Bool} {b : ℕ} {t : List ℕ} {j : ℕ} {r : List ℕ} → From fresh (b ∷ t) j r → Cases fresh b t j r
split here = first refl refl refl
split (on e f) = same e f
split (past {fresh} {k} f) = next k refl refl f

-- no line among the first k is numeric
abbrev Below : Bool → List ℕ → ℕ → Type 0
Below fresh t k = (j : ℕ) (r : List ℕ) → j < k → From fresh t j r → is_numeric r ≡ false

-- ---- the search of a numeric line, from line m on

record Found (m : ℕ) (fresh : Bool) (t : List ℕ) (n : Option ℕ) : Type 0 where
  k : ℕ
  is : n ≡ Some (m + k)
  q : List ℕ
  stands : From fresh t k q
  fault : is_numeric q ≡ true
  below : Below fresh t k

data Searched (m : ℕ) (fresh : Bool) (t : List ℕ) (n : Option ℕ) : Type 0 where
  found : Found m fresh t n → Searched m fresh t n
  nowhere : n ≡ None → ((k : ℕ) → Below fresh t k) → Searched m fresh t n

module _ (fresh : Bool) (b : ℕ) (t : List ℕ) (clear : fresh ≡ true → is_numeric (b ∷ t) ≡ false) where
  cases-on : eqb b 10 ≡ false → (k : ℕ) → Below false t k → (j : ℕ) (r : List ℕ) → j < k → Cases fresh b t j r → is_numeric r ≡ false
  cases-on e k ih j r h (first f z w) = rw w (clear f)
  cases-on e k ih j r h (same d g) = ih j r h g
  cases-on e k ih j r h (next i z d g) = clash d e

  cases-past : eqb b 10 ≡ true → (k : ℕ) → Below true t k → (j : ℕ) (r : List ℕ) → j < suc k → Cases fresh b t j r → is_numeric r ≡ false
  cases-past e k ih j r h (first f z w) = rw w (clear f)
  cases-past e k ih j r h (same d g) = clash e d
  cases-past e k ih j r h (next i z d g) = ih i r (omega arith) g

  go_on : {m : ℕ} {n : Option ℕ} → eqb b 10 ≡ false → Searched m false t n → Searched m fresh (b ∷ t) n
  go_on e (found f) =
      found (record { k = f.k; is = f.is; q = f.q; stands = on e f.stands; fault = f.fault; below = λ j r h g. cases-on e f.k f.below j r h (split g) })
  go_on e (nowhere z f) = nowhere z (λ k j r h g. cases-on e k (f k) j r h (split g))

  go-past : {m : ℕ} {n : Option ℕ} → eqb b 10 ≡ true → Searched (suc m) true t n → Searched m fresh (b ∷ t) n
  go-past {m} e (found f) =
      let z : suc m + f.k ≡ m + suc f.k = omega arith in
      found (record { k = suc f.k; is = f.is ∙ ap Some z; q = f.q; stands = subst (λ (c : ℕ). From fresh (c ∷ t) (suc f.k) f.q) (sym (eqb-true b 10 e)) (past f.stands); fault = f.fault; below = λ j r h g. cases-past e f.k f.below j r h (split g) })
  go-past e (nowhere z f) = nowhere z (λ k j r h g. cases-past e k (f k) j r (omega arith) (split g))

next-line : (m : ℕ) → m < 18446744073709551615 → following m ≡ suc m
unfolding following
next-line m h = rw (lt-ltb m 18446744073709551615 h) (omega arith)

end-clear : {fresh : Bool} {j : ℕ} {r : List ℕ} → From fresh [] j r → is_numeric r ≡ false
unfolding numeric_from after_number after_minus head is_digit
end-clear here = refl

clear_of : (fresh : Bool) (t : List ℕ) → begins_numeric fresh t ≡ false → fresh ≡ true → is_numeric t ≡ false
unfolding begins_numeric
clear_of fresh t e f = rw f at e

found_here : (m : ℕ) (fresh : Bool) (b : ℕ) (t : List ℕ) → begins_numeric fresh (b ∷ t) ≡ true → Found m fresh (b ∷ t) (numeric_line m fresh (b ∷ t))
unfolding begins_numeric
found_here m fresh b t e =
    let p = both fresh (is_numeric (b ∷ t)) e in
    let z : m ≡ m + 0 = omega arith in
    record { k = 0; is = numeric-first b t m fresh e ∙ ap Some z; q = b ∷ t; stands = subst (λ (f : Bool). From f (b ∷ t) 0 (b ∷ t)) (sym p.0) here; fault = p.1; below = λ j r h g. absurd (omega arith) }

searched : (t : List ℕ) (m : ℕ) (fresh : Bool) → m + length t < 18446744073709551615 → Searched m fresh t (numeric_line m fresh t)
unfolding numeric_line line_after
searched [] m fresh h = nowhere refl (λ k j r l g. end-clear g)
searched (b ∷ t) m fresh h =
    by_bool (begins_numeric fresh (b ∷ t))
    (λ e. found (found_here m fresh b t e))
    (λ e. rw (numeric-next b t m fresh e)
    (by_bool (eqb b 10)
    (λ d. go-past fresh b t (clear_of fresh (b ∷ t) e) d (rw (d, next-line m (omega arith)) (searched t (suc m) true (omega arith))))
    (λ d. go_on fresh b t (clear_of fresh (b ∷ t) e) d (rw d (searched t m false (omega arith))))))

-- ---- what it says of a text

module _ (t : List ℕ) (small : length t < 18446744073709551614) where
  search : Searched 1 true t (lowest_numeric t)
  search = searched t 1 true (omega arith)

  clear-below : (k : ℕ) → Below true t k → NoNumericTo t k
  clear-below k f j r h g b = clash ((exactly r).1 b) (f j r h g)

  lowest-is : (k : ℕ) → Searched 1 true t (Some k) → (n : ℕ) × ((k ≡ suc n) × LowestNumeric t n)
  lowest-is k (found f) =
      let i : k ≡ 1 + f.k = cc (f.is) in
      (f.k, (omega arith, record { q = f.q; stands = f.stands; fault = (exactly f.q).0 f.fault; below = clear-below f.k f.below }))
  lowest-is k (nowhere z f) = absurd (cc)

  none_below : (k p : ℕ) → Searched 1 true t (Some k) → p < k → NoNumericTo t p
  none_below k p (found f) h =
      let i : k ≡ 1 + f.k = cc (f.is) in
      λ j r l g. clear-below f.k f.below j r (omega arith) g
  none_below k p (nowhere e f) h = absurd (cc)

  none_at_all : Searched 1 true t None → NoNumeric t
  none_at_all (found f) = absurd (cc (f.is))
  none_at_all (nowhere e f) = λ k. clear-below k (f k)

-- ---- what is answered

called_is : (u : List ℕ) → assemble_call u empty_cells ≡ answered (assemble 2048 u) empty_cells
unfolding assemble_call
called_is u = refl

-- a refusal of the assembler's answer is its refusal, and the other way round
answer-is : (x : Assembled) (n : ℕ) → (answered x empty_cells).answer.refusal ≡ suc n → x ≡ refuses (suc n) (answered x empty_cells).answer.place
unfolding answered
answer-is (cells vs) n h = absurd (omega arith)
answer-is (refuses r p) n h = ap (λ (k : ℕ). refuses k p) h

is-answer : (x : Assembled) (n p : ℕ) → x ≡ refuses n p → ((answered x empty_cells).answer.refusal ≡ n) × ((answered x empty_cells).answer.place ≡ p)
unfolding answered
is-answer x n p e = rw e (refl, refl)

number_of : Assembled → ℕ
number_of (cells vs) = 0
number_of (refuses n p) = n

-- the assembler has 13, 14 and 15 alone
others-in : (x y : M.Option ℕ) (ws : List Cell) → number_of (otherwise 14 x (otherwise 15 y (cells ws))) ≤ 15
unfolding otherwise number_of
others-in M.none M.none ws = omega arith
others-in M.none (M.some k) ws = omega arith
others-in (M.some k) y ws = omega arith

text_in : (x : Text Expr) → number_of (assembled x) ≤ 15
unfolding assembled J.judged number_of
text_in (broken k) = omega arith
text_in (lines ls) = others-in (lowest wrong_labels 0 [] (map (line_values (place_in 0 (labels_of ls))) ls)) (lowest wrong_values 0 [] (map (line_values (place_in 0 (labels_of ls))) ls)) (map line_cell (map (line_values (place_in 0 (labels_of ls))) ls))

number_in : (u : List ℕ) (n p : ℕ) → assemble 2048 u ≡ refuses n p → n ≤ 15
unfolding assemble number_of
number_in u n p e = let h = text_in (rows trees 32 2048 u) in let z : number_of (assemble 2048 u) ≡ n = ap number_of e in omega arith

-- what the assembler's answer becomes, and the cases of the judgement
module _ (a : Counted) where
  abbrev told : Done
  told = done_of (assembler_answer a)

  told-is : (m : ℕ) → told.refusal ≡ suc m → (a.refusal ≡ suc m) × (told.place ≡ following a.place)
  told-is m h =
      by_bool (eqb a.refusal 0)
      (λ z. absurd (let y : ◌≡◌ {A = ℕ} 0 (suc m) = rw z at h in omega arith))
      (λ z. rw z (rw z at h, refl))

  by-18 : (a.refusal ≡ 18 → ⊥) → (n : Option ℕ) → (done_of (text_judged a n)).refusal ≡ 18 → (k : ℕ) × ((n ≡ Some k) × ((is18 a k ≡ true) × ((done_of (text_judged a n)).place ≡ following k)))
  unfolding text_judged
  by-18 l None h = absurd (l (told-is 17 h).0)
  by-18 l (Some k) h =
      by_bool (is18 a k)
      (λ e. (k, (refl, (e, rw e refl))))
      (λ e. absurd (l (told-is 17 (rw e at h)).0))

  by-other : (n : Option ℕ) (m : ℕ) → (done_of (text_judged a n)).refusal ≡ suc m → (suc m ≡ 18 → ⊥) → ((k : ℕ) → n ≡ Some k → is18 a k ≡ false) × ((a.refusal ≡ suc m) × ((done_of (text_judged a n)).place ≡ following a.place))
  unfolding text_judged
  by-other None m h c = (λ k e. absurd (cc), told-is m h)
  by-other (Some k) m h c =
      by_bool (is18 a k)
      (λ e. absurd (let y : ◌≡◌ {A = ℕ} 18 (suc m) = rw e at h in c (sym y)))
      (λ e. rw e (λ j i. (let z : k ≡ j = cc in ap (is18 a) (sym z) ∙ e), told-is m (rw e at h)))

  module _ (k : ℕ) where
    lower-18 : is18 a k ≡ true → a.refusal ≡ 13 → k ≤ a.place
    unfolding is18
    lower-18 e r =
        let p = both (ltb 0 k) (not (eqb a.refusal 13 && ltb a.place k)) e in
        by_bool (ltb a.place k) (λ l. clash p.1 (rw (eq-eqb a.refusal 13 r, l) refl)) (λ l. ltb-false a.place k l)

    lower-13 : 0 < k → is18 a k ≡ false → a.refusal ≡ 13 → a.place < k
    unfolding is18
    lower-13 h e r =
        by_bool (ltb a.place k)
        (λ l. ltb-true a.place k l)
        (λ l. clash (rw (lt-ltb 0 k h, eq-eqb a.refusal 13 r, l) refl) e)

    none-18 : 0 < k → is18 a k ≡ false → (a.refusal ≡ 13 → ⊥) → ⊥
    unfolding is18
    none-18 h e r = clash (rw (lt-ltb 0 k h, ne_eqb a.refusal 13 r) refl) e

-- ---- the theorems

module _ (t : List ℕ) where
  abbrev pub call : Counted
  call = (answered (made t) empty_cells).answer

  abbrev pub number : Option ℕ
  number = lowest_numeric (next_line t)

  pub good-loading : start_good t ≡ true → loading t empty_cells ≡ called (loaded (text_judged call number) (start_read (first_line t)).start) (answered (made t) empty_cells).left
  unfolding loading
  good-loading e = rw (e, called_is (next_line t))

  pub bad-loading : start_good t ≡ false → loading t empty_cells ≡ called (loaded (Err (refused (ImageLine 1))) (start_read (first_line t)).start) empty_cells
  unfolding loading
  bad-loading e = rw e

  abbrev answered-by : Called Loaded (List ℤ) → Done
  answered-by x = done_of x.answer.outcome

  -- a refusal other than 12 is one of the judgement
  judgement : (m : ℕ) → 12 ≤ m → (answer t).refusal ≡ suc m → answer t ≡ done_of (text_judged call number)
  judgement m l h =
      by_bool (start_good t)
      (λ e. ap answered-by (good-loading e))
      (λ e. absurd (let y : ◌≡◌ {A = ℕ} 12 (suc m) = ap (λ (x : Called Loaded (List ℤ)). (answered-by x).refusal) (sym (bad-loading e)) ∙ h in omega arith))

  call-not-18 : call.refusal ≡ 18 → ⊥
  call-not-18 h = let b = number_in (next_line t) 18 call.place (answer-is (made t) 17 h) in absurd (omega arith)

  module _ (small : Small t) where
    search_is : Searched 1 true (next_line t) number
    search_is = search (next_line t) small

    numbered : (k : ℕ) → number ≡ Some k → (n : ℕ) × ((k ≡ suc n) × LowestNumeric (next_line t) n)
    numbered k e = lowest-is (next_line t) small k (subst (Searched 1 true (next_line t)) e search_is)

    numbered-from-1 : (k : ℕ) → number ≡ Some k → 0 < k
    numbered-from-1 k e = let n = numbered k e in let i = n.1.0 in omega arith

    clear-to : (p : ℕ) (n : Option ℕ) → number ≡ n → ((k : ℕ) → n ≡ Some k → p < k) → NoNumericTo (next_line t) p
    clear-to p None e f = none_at_all (next_line t) small (subst (Searched 1 true (next_line t)) e search_is) p
    clear-to p (Some k) e f = none_below (next_line t) small k p (subst (Searched 1 true (next_line t)) e search_is) (f k refl)

    clear : (n : Option ℕ) → number ≡ n → ((k : ℕ) → n ≡ Some k → ⊥) → NoNumeric (next_line t)
    clear None e f = none_at_all (next_line t) small (subst (Searched 1 true (next_line t)) e search_is)
    clear (Some k) e f = absurd (f k refl)

pub lowest-18 : LowestOf18
lowest-18 t small h =
    let j = judgement t 17 (omega arith) h in
    let b = by-18 (call t) (call-not-18 t) (number t) (sym (ap (λ (d : Done). d.refusal) j) ∙ h) in
    let l = numbered t small b.0 b.1.0 in
    let p = ap (λ (d : Done). d.place) j ∙ b.1.1.1 ∙ ap following l.1.0 in
    (l.0, (p, (l.1.1, λ q e. let a = is-answer (made t) 13 q e in let i = lower-18 (call t) b.0 b.1.1.0 a.0 in let k = l.1.0 in omega (arith, a.1))))

pub lowest-13 : LowestOf13
lowest-13 t small h =
    let j = judgement t 12 (omega arith) h in
    let b = by-other (call t) (number t) 12 (sym (ap (λ (d : Done). d.refusal) j) ∙ h) (λ z. omega arith) in
    ((call t).place, (ap (λ (d : Done). d.place) j ∙ b.1.1, (answer-is (made t) 12 b.1.0, clear-to t small (call t).place (number t) refl (λ k e. lower-13 (call t) k (numbered-from-1 t small k e) (b.0 k e) b.1.0))))

pub then-the-others : ThenTheOthers
then-the-others t zero l u small h = absurd (omega arith)
then-the-others t (suc m) l u small h =
    let j = judgement t m (omega arith) h in
    let b = by-other (call t) (number t) m (sym (ap (λ (d : Done). d.refusal) j) ∙ h) (λ z. omega arith) in
    ((call t).place, (ap (λ (d : Done). d.place) j ∙ b.1.1, (answer-is (made t) m b.1.0, clear t small (number t) refl (λ k e. none-18 (call t) k (numbered-from-1 t small k e) (b.0 k e) (λ r. omega (arith, b.1.0))))))
