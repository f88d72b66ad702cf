-- The seats from place k on, checked one after another.
use mathlib.Core.Path.{◌≡◌, refl, sym, ap, ◌∙◌, subst}
use mathlib.Core.Bool.{Bool, true, false, cond}
use mathlib.Core.List.{◌∷◌}
use Prim.Native.Nat.{ℕ, suc, ◌+◌, ◌-◌, ◌<◌, ◌≤◌}
use native.Mathlib.Omega.{arith}
use native.Mathlib.Numerals.{add-one}
use Rattle.definition.specs.declared.Done.{Done}
use Rattle.definition.specs.declared.answers.Refusal.{Refusal}
use Rattle.definition.specs.Calls.{Lent, accepted, passes, run_check}
use Rattle.definition.specs.Answers.{number_of, place_of, refused}
use Rattle.definition.proofs.Checked.{number_some}
use Rattle.bench.specs.declared.Benched.{Benched}
use Rattle.bench.specs.declared.Refused.{Refused}
use Rattle.std.specs.Prelude.{Result, Ok, Err, MatchResult}
use Rattle.std.specs.Result.{IsErrAnd}
use Rattle.std.proofs.lemmas.Result.{err_from_is_err_and}
use Rattle.bench.specs.Bench.{machine_at, machines, benched, seat_by_seat}

module _ (n : ℕ) (b : Lent) where
  abbrev pub check_from : ℕ → Benched
  check_from k = seat_by_seat (suc k) (machines n (n - k) k b)

  first_of : (k : ℕ) → k < n → check_from k ≡ seat_by_seat (suc k) (machine_at n k b ∷ machines n (n - (k + 1)) (suc k) b)
  unfolding machines
  first_of k h = let e : n - k ≡ suc (n - (k + 1)) = omega arith in ap (λ (j : ℕ). seat_by_seat (suc k) (machines n j k b)) e

  by-test : (k : ℕ) → k < n → (t : Bool) → passes (run_check (machine_at n k b)) ≡ t
      → check_from k ≡ cond t (check_from (suc k)) (benched (run_check (machine_at n k b)).refusal (run_check (machine_at n k b)).place (suc k) 0)
  unfolding seat_by_seat
  by-test k h t e =
      let d = run_check (machine_at n k b) in
      let ends : n - (k + 1) ≡ n - suc k = ap (λ (j : ℕ). n - j) (add-one k) in
      first_of k h
      ∙ ap (λ (j : ℕ). seat_by_seat (suc k) (machine_at n k b ∷ machines n j (suc k) b)) ends
      ∙ ap (λ (c : Bool). cond c (check_from (suc k)) (benched d.refusal d.place (suc k) 0)) e

  pub seat-passed : (k : ℕ) → k < n → accepted ≡ run_check (machine_at n k b) → check_from (k + 1) ≡ check_from k
  seat-passed k h e = ap check_from (add-one k) ∙ sym (by-test k h true (ap passes (sym e)))

  pub seat-refused : (k : ℕ) → k < n → (e : Refusal) → refused e ≡ run_check (machine_at n k b) → benched (number_of e) (place_of e) (k + 1) 0 ≡ check_from k
  seat-refused k h e r =
      ap (λ (j : ℕ). benched (number_of e) (place_of e) j 0) (add-one k)
      ∙ ap (λ (d : Done). benched d.refusal d.place (suc k) 0) r
      ∙ sym (by-test k h false (ap passes (sym r) ∙ number_some e))

  pub all-passed : (k : ℕ) → n ≤ k → benched 0 0 0 0 ≡ check_from k
  unfolding machines seat_by_seat
  all-passed k h = let e : n - k ≡ 0 = omega arith in sym (ap (λ (j : ℕ). seat_by_seat (suc k) (machines n j k b)) e)

  pub from_first : check_from 0 ≡ seat_by_seat 1 (machines n n 0 b)
  from_first = let e : n - 0 ≡ n = omega arith in ap (λ (j : ℕ). seat_by_seat 1 (machines n j 0 b)) e

-- a test's answer, and the same with the seat's number beside the refusal
abbrev pub Numbered : (Refusal → Refused → Type 0) → Result (Unit {0}) Refusal → Result (Unit {0}) Refused → Type 0
Numbered P r s = MatchResult r (λ x. s ≡ Ok x) (λ e. IsErrAnd s (P e))

ok-err : (u : Unit {0}) (d : Refused) (s : Result (Unit {0}) Refused) → s ≡ Ok u → s ≡ Err d → ⊥
ok-err u d s f g = let h : ◌≡◌ {A = Result (Unit {0}) Refused} (Ok u) (Err d) = sym f ∙ g in cc

pub refused-was : (P : Refusal → Refused → Type 0) (r : Result (Unit {0}) Refusal) (s : Result (Unit {0}) Refused) → Numbered P r s → (d : Refused) → s ≡ Err d → (e : Refusal) × ((r ≡ Err e) × P e d)
refused-was P (Ok u) s h d f = absurd (ok-err u d s h f)
refused-was P (Err e) s h d f =
    let p = err_from_is_err_and s h in let z : p.0 ≡ d = let y = sym p.1 ∙ f in cc in (e, (refl, subst (P e) z p.2))

pub passed-was : (P : Refusal → Refused → Type 0) (r : Result (Unit {0}) Refusal) (s : Result (Unit {0}) Refused) → Numbered P r s → (u : Unit {0}) → s ≡ Ok u → r ≡ Ok tt
passed-was P (Ok v) s h u f = refl
passed-was P (Err e) s h u f = let p = err_from_is_err_and s h in absurd (ok-err u p.0 s f p.1)
