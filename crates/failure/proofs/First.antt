-- What stands before the first mark.
use Rattle.std.proofs.Common.{◌≡◌, ℕ, zero, suc, ◌<◌, ◌≤◌, Bool, true, false, eqb, List, [], ◌∷◌, ◌++◌, length, take, drop, refl, ap, arith}
use Rattle.std.specs.List.{starts_with}
use Rattle.std.specs.Str.Pattern.{LacksTextAt}
use Rattle.std.proofs.lemmas.Bool.Decides.{Decides-eqb}
use Rattle.std.proofs.lemmas.Slice.Eq.{starts_is}
use Rattle.failure.specs.Message.{number_mark, cause}

by_bool : (b : Bool) {P : Type 0} → (b ≡ true → P) → (b ≡ false → P) → P
by_bool true t f = t refl
by_bool false t f = f refl

-- no mark
pub cause_none : (s : List ℕ) → ((i : ℕ) → i ≤ length s → LacksTextAt number_mark s i) → cause s ≡ s
unfolding cause
cause_none [] none = refl
cause_none (b ∷ t) none =
    by_bool (starts_with eqb (b ∷ t) number_mark)
    (λ e. absurd (none 0 (omega arith) _ ((starts_is Decides-eqb (b ∷ t) number_mark _ refl).0 e)))
    (λ e. rw e (ap (λ u. b ∷ u) (cause_none t (λ i l rest h. none (suc i) (omega arith) rest h))))

-- the first mark stands at i
pub cause_first : (s rest : List ℕ) (i : ℕ) → ((k : ℕ) → k < i → LacksTextAt number_mark s k) → drop i s ≡ number_mark ++ rest → cause s ≡ take i s
unfolding cause
cause_first [] rest zero none has = refl
cause_first [] rest (suc i) none has = refl
cause_first (b ∷ t) rest zero none has = rw ((starts_is Decides-eqb (b ∷ t) number_mark _ refl).1 rest has)
cause_first (b ∷ t) rest (suc i) none has =
    by_bool (starts_with eqb (b ∷ t) number_mark)
    (λ e. absurd (none 0 (omega arith) _ ((starts_is Decides-eqb (b ∷ t) number_mark _ refl).0 e)))
    (λ e. rw e (ap (λ u. b ∷ u) (cause_first t rest i (λ k l r h. none (suc k) (omega arith) r h) has)))
