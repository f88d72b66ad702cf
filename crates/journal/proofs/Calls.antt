-- The calls with a journal: what they do to it, and what they leave when refused.
use mathlib.Core.Path.{◌≡◌, refl, sym, ◌∙◌}
use mathlib.Core.Logic.{◌≢◌}
use mathlib.Core.Bool.{Bool, true, false, cond, true≢false}
use mathlib.Core.List.{List}
use Prim.Native.Nat.{ℕ}
use native.Mathlib.Omega.{arith}
use lib.IntN.{ℤ}
use borrow.Author.Tests.{eq-eqb}
use Rattle.definition.specs.declared.Done.{Done}
use Rattle.definition.specs.declared.Drained.{Drained}
use Rattle.definition.specs.declared.Ran.{Ran}
use Rattle.definition.specs.declared.Raised.{Raised}
use Rattle.definition.specs.Calls.{accepted, passes, Called, called, answer, drain_answer, raise_answer, ran, run_refused, run_check, run_call, fresh_check, fresh, deliver_check, deliver, drain_check, drain, load_check, load, set_register_check, set_register, raise_check, raise}
use Rattle.definition.proofs.Refused.{raised-refusal}
use Rattle.journal.specs.Journal.{with_start, whole_records, is_journal}
use Rattle.journal.specs.Calls.{no_journal, with_journal, run_journal, emptied, fresh_journal, deliver_journal, drain_journal, load_journal, set_register_journal, raise_journal, Backward, back_check, backed, back}
use Rattle.journal.specs.StepBack.{LeavesBoth, Empties, RefusedKeeps}
use Rattle.journal.specs.Cases.{Cases}
use Rattle.journal.proofs.Cases.{cases}

-- The cases are proved first, so that a wrong call is refused at one that shows it.
shown-first : Cases
shown-first = cases

-- ---- a call that is X where its own tests pass and else Y

module _ {A L : Type 0} (number : A → ℕ) (X Y : Called A L) (refused : A) (l : L) (left j : List ℤ) where
  abbrev lending : Bool → Bool → Called A (L × List ℤ)
  lending own fits = with_journal own (cond own X Y) fits refused l left j

  pub empties : (own fits : Bool) → (own ≡ false → number Y.answer ≢ 0) → number refused ≢ 0 → number (lending own fits).answer ≡ 0 → LeavesBoth (lending own fits) (cond own X Y) left
  unfolding with_journal
  empties true true f g e = record { answer = refl; lent = refl; journal = refl }
  empties true false f g e = absurd (g e)
  empties false fits f g e = absurd (f refl e)

  pub keeps : (own fits : Bool) → number X.answer ≡ 0 → Y.left ≡ l → number (lending own fits).answer ≢ 0 → (lending own fits).left ≡ (l, j)
  unfolding with_journal
  keeps true true f g h = absurd (h f)
  keeps true false f g h = refl
  keeps false fits f g h = λ i. (g i, j)

-- a refusal's number is not 0
failed : (d : Done) → passes d ≡ false → d.refusal ≢ 0
failed d h e = true≢false (sym (eq-eqb d.refusal 0 e) ∙ h)

abbrev done_number : Done → ℕ
done_number a = a.refusal

abbrev drain_number : Drained → ℕ
drain_number a = a.refusal

abbrev raise_number : Raised → ℕ
raise_number a = a.refusal

abbrev run_number : Ran → ℕ
run_number a = a.refusal

pub calls-empty : Empties
unfolding fresh_journal fresh deliver_journal deliver drain_journal drain load_journal load set_register_journal set_register raise_journal raise
calls-empty =
    record {
      by_fresh = λ cells row j. empties done_number _ _ no_journal (cells, row) (with_start 0 (emptied j)) j (passes (fresh_check cells row)) (whole_records j) (failed (fresh_check cells row)) (λ e. omega arith);
      by_deliver = λ queue row bytes j. empties done_number _ _ no_journal (queue, row) (emptied j) j (passes (deliver_check queue row bytes)) (is_journal j) (failed (deliver_check queue row bytes)) (λ e. omega arith);
      by_drain = λ output row buffer j. empties drain_number _ _ (drain_answer no_journal 0) (row, buffer) (emptied j) j (passes (drain_check output row buffer)) (is_journal j) (failed (drain_check output row buffer)) (λ e. omega arith);
      by_load = λ cells image start j. empties done_number _ _ no_journal cells (emptied j) j (passes (load_check cells image start)) (is_journal j) (failed (load_check cells image start)) (λ e. omega arith);
      by_set_register = λ row r w j. empties done_number _ _ no_journal row (emptied j) j (passes (set_register_check row r w)) (is_journal j) (failed (set_register_check row r w)) (λ e. omega arith);
      by_raise = λ cells row code j. empties raise_number _ _ (raise_answer no_journal 0 0) (cells, row) (emptied j) j (passes (raise_check cells row code)) (is_journal j) (failed (raise_check cells row code)) (λ e. omega arith);
    }

back-refused : (b : Backward) → (back b).answer.refusal ≢ 0 → (back b).left ≡ b
unfolding back
back-refused b = go (passes (back_check b)) (backed b) (back_check b)
  where
    go : (t : Bool) (x : Backward) (d : Done) → (cond t (called accepted x) (called d b)).answer.refusal ≢ 0 → (cond t (called accepted x) (called d b)).left ≡ b
    go true x d h = absurd (h refl)
    go false x d h = refl

pub refused-keeps : RefusedKeeps
unfolding run_journal run_call ran run_refused fresh_journal fresh deliver_journal deliver drain_journal drain load_journal load set_register_journal set_register raise_journal raise
refused-keeps =
    record {
      run_keeps = λ budget l j. keeps run_number _ _ (answer no_journal 0 0 0 0) l _ j (passes (run_check l)) (is_journal j) refl refl;
      fresh_keeps = λ cells row j. keeps done_number _ _ no_journal (cells, row) (with_start 0 (emptied j)) j (passes (fresh_check cells row)) (whole_records j) refl refl;
      deliver_keeps = λ queue row bytes j. keeps done_number _ _ no_journal (queue, row) (emptied j) j (passes (deliver_check queue row bytes)) (is_journal j) refl refl;
      drain_keeps = λ output row buffer j. keeps drain_number _ _ (drain_answer no_journal 0) (row, buffer) (emptied j) j (passes (drain_check output row buffer)) (is_journal j) refl refl;
      load_keeps = λ cells image start j. keeps done_number _ _ no_journal cells (emptied j) j (passes (load_check cells image start)) (is_journal j) refl refl;
      set_register_keeps = λ row r w j. keeps done_number _ _ no_journal row (emptied j) j (passes (set_register_check row r w)) (is_journal j) refl refl;
      raise_keeps = λ cells row code j. keeps raise_number _ _ (raise_answer no_journal 0 0) (cells, row) (emptied j) j (passes (raise_check cells row code)) (is_journal j) (raised-refusal cells row _) refl;
      back_keeps = back-refused;
    }
