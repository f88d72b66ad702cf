-- How names compare, and which line sets one. Assumes nothing.
use mathlib.Core.Path.{◌≡◌, refl, ap, ◌∙◌}
use mathlib.Core.Bool.{Bool, true, false, cond, ◌&&◌}
use mathlib.Core.List.{List, [], ◌∷◌}
use Prim.Native.Nat.{ℕ, zero, suc, ◌+◌, ◌-◌, ◌*◌, ◌%◌, ◌≤◌, ◌<◌}
use native.Mathlib.Omega.{arith}
use native.Mathlib.Numerals.{add-one}
use lib.ListN.{length, drop, get_or}
use lib.Seq.{drop-cons}
use lib.Pointwise.{pointwise}
use mathlib.Core.Option.{some, none}
use lib.Dec.{leb, eqb}
use borrow.Author.Tests.{leb-true, ne_eqb}
use Rattle.decimal.specs.Decimal.{cap_step}
use Rattle.expression.proofs.Spans.{by_bool, every, every-at, front-every, past-length, tail-length, first-is, front-some, front-zero}
use Rattle.expression.proofs.Chain.{letter-ends}
use Rattle.expression.proofs.Sound.{both}
use Rattle.expression.specs.Reader.{gives, refused, head, tail, front, past, skip, is_digit, is_letter, same}
use Rattle.expression.specs.Code.{cap_decimal}
use Rattle.expression.specs.Table.{is_labelled, label_at, sets, is_inner, next_line, setting_in, setting, hash_from}

pub same_eq : (a b : List ℕ) → pointwise eqb a b ≡ same a b
unfolding same
same_eq [] [] = refl
same_eq [] (y ∷ b) = refl
same_eq (x ∷ a) [] = refl
same_eq (x ∷ a) (y ∷ b) = ap (λ (r : Bool). eqb x y && r) (same_eq a b)

pub drop_past : (l : List ℕ) (k : ℕ) → length l ≤ k → drop k l ≡ []
drop_past [] zero h = refl
drop_past [] (suc k) h = refl
drop_past (a ∷ l) zero h = absurd (omega arith)
drop_past (a ∷ l) (suc k) h = drop_past l k (omega arith)

pub hash-more : (s : List ℕ) (i h : ℕ) → i < length s → hash_from ((h * 31 + get_or s i 0) % 1024) (drop (i + 1) s) ≡ hash_from h (drop i s)
unfolding hash_from
hash-more s i h l = rw (drop-cons s i 0 l, add-one)

pub hash-stop : (s : List ℕ) (i h : ℕ) → length s ≤ i → h ≡ hash_from h (drop i s)
unfolding hash_from
hash-stop s i h l = rw (drop_past s i l)

-- ---- the label of a line

module _ (t u name rest : List ℕ) (a : u ≡ skip t) (b : name ≡ front is_letter u) (c : rest ≡ past is_letter u) where
  pub label-first : 1 ≤ length name → get_or rest 0 0 ≡ 58 → gives name (tail rest) ≡ label_at t
  unfolding label_at is_labelled
  label-first l e =
      let h = front-some is_letter (skip t) (rw (b, a) at l) in
      rw (b, c, a, h, ← first-is (past is_letter (skip t)), rw (c, a) at e)

  pub label-unnamed : length name < 1 → refused ≡ label_at t
  unfolding label_at is_labelled
  label-unnamed l = rw (front-zero is_letter letter-ends (skip t) (rw (b, a) at l))

  pub label-no_colon : (get_or rest 0 0 ≡ 58 → ⊥) → refused ≡ label_at t
  unfolding label_at is_labelled
  label-no_colon e =
      let f : get_or (past is_letter (skip t)) 0 0 ≡ 58 → ⊥ = rw (c, a) at e in
      rw (← first-is (past is_letter (skip t)), ne_eqb (get_or (past is_letter (skip t)) 0 0) 58 f) (by_bool (is_letter (head (skip t))) (λ h. rw h) (λ h. rw h))

module _ (t : List ℕ) where
  pub sets-label : (m u n : List ℕ) → gives m u ≡ label_at t → sets t n ≡ same m n
  unfolding label_at sets
  sets-label m u n e =
      by_bool (is_labelled t)
      (λ h. let f : gives m u ≡ gives (front is_letter (skip t)) (tail (past is_letter (skip t))) = rw h at e in rw (h, name_of f))
      (λ h. let f : gives m u ≡ refused = rw h at e in absurd (no_name f))
    where
      name_of : {a b c d : List ℕ} → gives a b ≡ gives c d → a ≡ c
      name_of e = cc

      no_name : {a b : List ℕ} → gives a b ≡ refused → ⊥
      no_name e = cc

  pub sets-nothing : (n : List ℕ) → refused ≡ label_at t → sets t n ≡ false
  unfolding label_at sets
  sets-nothing n e =
      by_bool (is_labelled t)
      (λ h. let f : refused ≡ gives (front is_letter (skip t)) (tail (past is_letter (skip t))) = rw h at e in absurd (no_name f))
      (λ h. rw h)
    where
      no_name : {a b : List ℕ} → refused ≡ gives a b → ⊥
      no_name e = cc

-- ---- lines

-- the bound on the number of lines is of no account
next-shorter : (b : ℕ) (t : List ℕ) → length (next_line (b ∷ t)) ≤ length t
unfolding next_line past tail
next-shorter b t =
    by_bool (is_inner b)
    (λ e. rw e (let h = past-length is_inner t in let k = tail-length (past is_inner t) in omega arith))
    (λ e. rw e (omega arith))

setting-fuel : (j m : ℕ) (t : List ℕ) (k : ℕ) (n : List ℕ) → length t ≤ j → length t ≤ m → setting_in j t k n ≡ setting_in m t k n
unfolding setting_in
setting-fuel zero zero t k n h i = refl
setting-fuel zero (suc m) [] k n h i = refl
setting-fuel zero (suc m) (b ∷ t) k n h i = absurd (omega arith)
setting-fuel (suc j) zero [] k n h i = refl
setting-fuel (suc j) zero (b ∷ t) k n h i = absurd (omega arith)
setting-fuel (suc j) (suc m) [] k n h i = refl
setting-fuel (suc j) (suc m) (b ∷ t) k n h i =
    let l = next-shorter b t in
    by_bool (sets (b ∷ t) n) (λ e. rw e) (λ e. rw e (setting-fuel j m (next_line (b ∷ t)) (suc k) n (omega arith) (omega arith)))

pub setting-nil : (k : ℕ) (n : List ℕ) → none ≡ setting [] k n
unfolding setting setting_in
setting-nil k n = refl

pub setting-step : (b : ℕ) (t : List ℕ) (k : ℕ) (n : List ℕ) → setting (b ∷ t) k n ≡ cond (sets (b ∷ t) n) (some k) (setting (next_line (b ∷ t)) (suc k) n)
unfolding setting setting_in
setting-step b t k n =
    let l = next-shorter b t in
    by_bool (sets (b ∷ t) n) (λ e. rw e) (λ e. rw e (setting-fuel (length t) (length (next_line (b ∷ t))) (next_line (b ∷ t)) (suc k) n l (omega arith)))

pub next-less : (t : List ℕ) → 1 ≤ length t → length (next_line t) < length t
next-less [] l = absurd (omega arith)
next-less (b ∷ t) l = let h = next-shorter b t in omega arith

pub setting-end : (t : List ℕ) (k : ℕ) (n : List ℕ) → length t < 1 → none ≡ setting t k n
setting-end [] k n l = setting-nil k n
setting-end (b ∷ t) k n l = absurd (omega arith)

pub setting-first : (t : List ℕ) (k : ℕ) (n : List ℕ) → 1 ≤ length t → sets t n ≡ true → some k ≡ setting t k n
setting-first [] k n l e = absurd (omega arith)
setting-first (b ∷ t) k n l e = rw (setting-step b t k n, e)

pub setting-rest : (t : List ℕ) (k : ℕ) (n : List ℕ) → 1 ≤ length t → sets t n ≡ false → setting (next_line t) (k + 1) n ≡ setting t k n
setting-rest [] k n l e = absurd (omega arith)
setting-rest (b ∷ t) k n l e = rw (setting-step b t k n, e, add-one)

-- ---- magnitudes

pub decimal-more : (s : List ℕ) (i v : ℕ) → i < length s → cap_decimal (cap_step v (get_or s i 0 - 48)) (drop (i + 1) s) ≡ cap_decimal v (drop i s)
unfolding cap_decimal
decimal-more s i v l = rw (drop-cons s i 0 l, add-one)

pub decimal-stop : (s : List ℕ) (i v : ℕ) → length s ≤ i → v ≡ cap_decimal v (drop i s)
unfolding cap_decimal
decimal-stop s i v l = rw (drop_past s i l)

pub digit-within : (t n : List ℕ) (i : ℕ) → n ≡ front is_digit t → i < length n → (48 ≤ get_or n i 0) × (get_or n i 0 ≤ 57)
unfolding is_digit
digit-within t n i e l =
    let h = every-at is_digit n i (ap (every is_digit) e ∙ front-every is_digit t) l in
    let d = both (leb 48 (get_or n i 0)) (leb (get_or n i 0) 57) h in
    (leb-true 48 (get_or n i 0) d.0, leb-true (get_or n i 0) 57 d.1)
