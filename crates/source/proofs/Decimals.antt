-- The test of a numeric line is exactly the grammar's. Assumes nothing.
use mathlib.Core.Path.{◌≡◌, refl, sym, ap, ◌∙◌}
use mathlib.Core.Bool.{true, false}
use mathlib.Core.List.{List, [], ◌∷◌, ◌++◌, append_assoc}
use Prim.Native.Nat.{ℕ, suc}
use native.Mathlib.Omega.{arith}
use lib.Dec.{eqb}
use borrow.Author.Tests.{eqb-true}
use Rattle.encoding.proofs.Rule.{both}
use Rattle.decimal.specs.Decimal.{Digits}
use Rattle.expression.specs.Reader.{head, tail, front, past, is_digit, decimal}
use Rattle.expression.proofs.Spans.{by_bool, clash, front-past, front-every, past_of}
use Rattle.expression.proofs.Complete.{every-digit, head-digits}
use Rattle.expression.proofs.Sound as S
use Rattle.source.specs.Source.{after_minus, after_number, numeric_from, is_numeric}
use Rattle.source.specs.Theorems.{Decimal, plus, minus, NumericLine, numeric, Begins, Exactly}

-- a run of digits begins with the first
front-on : (t : List ℕ) → is_digit (head t) ≡ true → front is_digit t ≡ head t ∷ front is_digit (tail t)
unfolding head tail front is_digit
front-on [] h = clash h refl
front-on (b ∷ t) h = rw h

-- ---- a number in front of a byte that is none of it

head-end : (b : ℕ) (r : List ℕ) → is_digit b ≡ false → is_digit (head (b ∷ r)) ≡ false
unfolding head
head-end b r h = h

digits-behind : {s : List ℕ} {v : ℕ} (b : ℕ) (r : List ℕ) → Digits s v → is_digit b ≡ false → past is_digit (s ++ (b ∷ r)) ≡ b ∷ r
digits-behind {s} b r d h = past_of is_digit s (b ∷ r) (every-digit d) (head-end b r h)

no_minus : (t : List ℕ) → is_digit (head t) ≡ true → after_minus t ≡ t
unfolding after_minus is_digit
no_minus t h = by_bool (eqb (head t) 45) (λ e. clash h (rw (eqb-true (head t) 45 e) refl)) (λ e. rw e)

negative-behind : (s : List ℕ) {v : ℕ} (b : ℕ) (r : List ℕ) → Digits s v → is_digit b ≡ false → after_number (45 ∷ (s ++ (b ∷ r))) ≡ b ∷ r
unfolding after_number after_minus head tail
negative-behind s b r d h = rw (head-digits (b ∷ r) d) (digits-behind b r d h)

number_behind : {s : List ℕ} (b : ℕ) (r : List ℕ) → Decimal s → is_digit b ≡ false → after_number (s ++ (b ∷ r)) ≡ b ∷ r
unfolding after_number
number_behind {s} b r (plus d) h = rw (no_minus (s ++ (b ∷ r)) (head-digits (b ∷ r) d), head-digits (b ∷ r) d) (digits-behind b r d h)
number_behind b r (minus {s} d) h = negative-behind s b r d h

comma-none : is_digit 44 ≡ false
unfolding is_digit
comma-none = refl

end_none : is_digit 10 ≡ false
unfolding is_digit
end_none = refl

-- a number, and what stands behind it
more : {s : List ℕ} (k : ℕ) (r : List ℕ) → Decimal s → numeric_from k (after_number r) ≡ true → numeric_from (suc k) (after_number (s ++ (44 ∷ r))) ≡ true
unfolding numeric_from head tail
more k r d h = rw (number_behind 44 r d comma-none) h

last : {s : List ℕ} (r : List ℕ) → Decimal s → numeric_from 0 (after_number (s ++ (10 ∷ r))) ≡ true
unfolding numeric_from head
last r d = rw (number_behind 10 r d end_none)

regroup : (a b c d r : List ℕ) → (a ++ (44 ∷ (b ++ (44 ∷ (c ++ (44 ∷ (d ++ (10 ∷ [])))))))) ++ r ≡ a ++ (44 ∷ (b ++ (44 ∷ (c ++ (44 ∷ (d ++ (10 ∷ r)))))))
regroup a b c d r = simp append_assoc

taken : {s : List ℕ} (r : List ℕ) → NumericLine s → is_numeric (s ++ r) ≡ true
taken r (numeric {a} {b} {c} {d} p q u v) = rw (regroup a b c d r) (more 2 _ p (more 1 _ q (more 0 _ u (last r v))))

-- ---- and the other way round

-- What is read as a number is one.
record Number (t : List ℕ) : Type 0 where
  s : List ℕ
  cut : t ≡ s ++ after_number t
  number : Decimal s

front-digits : (t : List ℕ) → is_digit (head t) ≡ true → Digits (front is_digit t) (decimal 0 (front is_digit t))
unfolding head
front-digits t h = S.digits (front is_digit t) (front-every is_digit t) (rw (front-on t h) h)

minus-cut : (t : List ℕ) → head t ≡ 45 → t ≡ 45 ∷ tail t
unfolding head tail
minus-cut [] h = let z : ◌≡◌ {A = ℕ} 0 45 = h in absurd (omega arith)
minus-cut (b ∷ t) h = ap (λ (n : ℕ). n ∷ t) h

read : (t : List ℕ) → is_digit (head (after_minus t)) ≡ true → Number t
unfolding after_number after_minus
read t h =
    by_bool (eqb (head t) 45)
    (λ e. let u = tail t in
    let g : is_digit (head u) ≡ true = rw e at h in
    record { s = 45 ∷ front is_digit u; cut = rw (e, g) (minus-cut t (eqb-true (head t) 45 e) ∙ ap (λ (l : List ℕ). 45 ∷ l) (front-past is_digit u)); number = minus (front-digits u g) })
    (λ e. let g : is_digit (head t) ≡ true = rw e at h in
    record { s = front is_digit t; cut = rw (e, g) (front-past is_digit t); number = plus (front-digits t g) })

nothing : (t : List ℕ) → is_digit (head (after_minus t)) ≡ false → after_number t ≡ []
unfolding after_number
nothing t h = rw h

-- a byte that is not 0 stands behind a number
read-there : (t : List ℕ) (b : ℕ) → head (after_number t) ≡ suc b → Number t
unfolding head
read-there t b h =
    by_bool (is_digit (head (after_minus t)))
    (read t)
    (λ e. absurd (let z : ◌≡◌ {A = ℕ} 0 (suc b) = ap head (sym (nothing t e)) ∙ h in omega arith))

byte_cut : (t : List ℕ) (b : ℕ) → head t ≡ suc b → t ≡ suc b ∷ tail t
unfolding head tail
byte_cut [] b h = let z : ◌≡◌ {A = ℕ} 0 (suc b) = h in absurd (omega arith)
byte_cut (c ∷ t) b h = ap (λ (n : ℕ). n ∷ t) h

-- one number more, and its comma
record Comma (k : ℕ) (t : List ℕ) : Type 0 where
  s : List ℕ
  rest : List ℕ
  cut : t ≡ s ++ (44 ∷ rest)
  number : Decimal s
  left : numeric_from k (after_number rest) ≡ true

comma : (k : ℕ) (t : List ℕ) → numeric_from (suc k) (after_number t) ≡ true → Comma k t
unfolding numeric_from
comma k t h =
    let u = after_number t in
    let p = both (eqb (head u) 44) (numeric_from k (after_number (tail u))) h in
    let e = eqb-true (head u) 44 p.0 in
    let n = read-there t 43 e in
    record { s = n.s; rest = tail u; cut = n.cut ∙ ap (λ (l : List ℕ). n.s ++ l) (byte_cut u 43 e); number = n.number; left = p.1 }

record End (t : List ℕ) : Type 0 where
  s : List ℕ
  rest : List ℕ
  cut : t ≡ s ++ (10 ∷ rest)
  number : Decimal s

end : (t : List ℕ) → numeric_from 0 (after_number t) ≡ true → End t
unfolding numeric_from
end t h =
    let u = after_number t in
    let e = eqb-true (head u) 10 h in
    let n = read-there t 9 e in
    record { s = n.s; rest = tail u; cut = n.cut ∙ ap (λ (l : List ℕ). n.s ++ l) (byte_cut u 9 e); number = n.number }

begun : (t : List ℕ) → is_numeric t ≡ true → Begins t
begun t h =
    let a = comma 2 t h in
    let b = comma 1 a.rest a.left in
    let c = comma 0 b.rest b.left in
    let d = end c.rest c.left in
    record { s = a.s ++ (44 ∷ (b.s ++ (44 ∷ (c.s ++ (44 ∷ (d.s ++ (10 ∷ []))))))); rest = d.rest; cut = rw (regroup a.s b.s c.s d.s d.rest) (a.cut ∙ ap (λ (l : List ℕ). a.s ++ (44 ∷ l)) (b.cut ∙ ap (λ (l : List ℕ). b.s ++ (44 ∷ l)) (c.cut ∙ ap (λ (l : List ℕ). c.s ++ (44 ∷ l)) d.cut))); numeric = numeric a.number b.number c.number d.number }

pub exactly : Exactly
exactly t = (begun t, λ b. rw b.cut (taken b.rest b.numeric))
