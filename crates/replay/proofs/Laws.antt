-- How the parts add up to a text, and what is printed of it. Assumes nothing.
use Rattle.std.proofs.Common.{◌≡◌, refl, sym, ap, ◌∙◌, ℕ, List, [], ◌++◌}
use mathlib.Core.List.{foldl, foldl-append}
use Rattle.recorded_cases.specs.declared.state.State.{State}
use Rattle.recorded_cases.specs.Verdict.{verdict_text}
use Rattle.recorded_calls.specs.declared.act.Reading.{Reading}
use Rattle.recorded_calls.specs.Replay.{byte_taken, opening, at_end, verdict}
use Rattle.replay.specs.Input.{TextTaken, TextReplayed, Reported}

-- nothing is read
pub none-taken : (o : Reading) → TextTaken o o
none-taken o = record { text = []; taken = refl }

-- a part more is read
pub and-taken : {o s u : Reading} (part : List ℕ) → TextTaken o s → u ≡ foldl byte_taken s part → TextTaken o u
and-taken {o} part a e =
    record { text = a.text ++ part; taken = e ∙ ap (λ (x : Reading). foldl byte_taken x part) a.taken ∙ sym (foldl-append byte_taken o a.text part) }

pub text-ended : {o u : Reading} {end : State} → TextTaken o u → end ≡ at_end u → TextReplayed o end
text-ended a e = record { text = a.text; ended = e ∙ ap (λ (x : Reading). at_end x) a.taken }

-- what is put of a text that was read from the opening on
pub reported : {o : Reading} {end : State} {out : List ℕ} → o ≡ opening → TextReplayed o end → out ≡ verdict_text end → Reported out
unfolding verdict
reported b t e =
    record { text = t.text; put = e ∙ ap (λ (x : State). verdict_text x) (t.ended ∙ ap (λ (x : Reading). at_end (foldl byte_taken x t.text)) b) }
