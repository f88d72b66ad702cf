-- Which line of the list may come (host/recorded/FORMAT.md).
use Rattle.std.specs.Prelude.{ℕ, Bool, true, false, cond, [], ◌∷◌, drop, ℤ, pos, Result, Ok, Err}
use Rattle.std.specs.List.{list_all}
use Rattle.std.specs.Ordering.{int_eq}
use Rattle.recorded.specs.declared.compare.Fault.{Fault}
use Rattle.recorded.specs.declared.compare.Fault.TheVariants as F
use Rattle.recorded.specs.declared.machine.Part.TheVariants as Part
use Rattle.recorded.specs.declared.reader.Line.{Line}
use Rattle.recorded_cases.specs.declared.kind.Call.TheVariants as C
use Rattle.recorded_cases.specs.declared.kind.Kind.{Kind}
use Rattle.recorded_cases.specs.declared.kind.Kind.TheVariants as K
use Rattle.recorded_cases.specs.declared.state.Phase.{Phase}
use Rattle.recorded_cases.specs.declared.state.Phase.TheVariants as P

abbrev pub numbered : ℕ → Kind → ℤ → Result Kind Fault → Result Kind Fault
numbered n k z others = cond (int_eq z (pos n)) (Ok k) others

-- The kinds by their numbers; no line of another number is due.
unfoldable pub kind_of : ℤ → Result Kind Fault
kind_of z =
    numbered 0 K.First z (
    numbered 1 K.Case z (
    numbered 2 (K.Before Part.Cell) z (
    numbered 3 (K.Before Part.Number) z (
    numbered 4 (K.Before Part.Queue) z (
    numbered 5 (K.Before Part.Output) z (
    numbered 6 K.Byte z (
    numbered 7 K.Empty z (
    numbered 10 (K.Call C.Run) z (
    numbered 11 (K.Call C.Deliver) z (
    numbered 12 (K.Call C.Drain) z (
    numbered 13 (K.Call C.Raise) z (
    numbered 14 (K.Call C.SetRegister) z (
    numbered 20 (K.After Part.Cell) z (
    numbered 21 (K.After Part.Number) z (
    numbered 22 (K.After Part.Queue) z (
    numbered 23 (K.After Part.Output) z (
    numbered 24 (K.After Part.Buffer) z (
    numbered 29 K.Close z (
    numbered 99 K.Last z (Err F.Order))))))))))))))))))))

-- A call may come: in the case's lines "before", or after a call.
abbrev pub is_call : Phase → Bool
is_call P.Before = true
is_call P.Call = true
is_call _ = false

abbrev pub is_delivery : Phase → Bool
is_delivery P.Delivery = true
is_delivery p = is_call p

abbrev pub is_run : Phase → Bool
is_run P.Run = true
is_run p = is_call p

abbrev pub is_first : Phase → Bool
is_first P.First = true
is_first _ = false

abbrev pub is_case : Phase → Bool
is_case P.Case = true
is_case P.Call = true
is_case _ = false

abbrev pub is_before : Phase → Bool
is_before P.Before = true
is_before _ = false

abbrev pub is_after : Phase → Bool
is_after P.After = true
is_after _ = false

-- Phases: the first line is due, a case or the last line, the case's lines "before", the bytes to deliver, the lines "after", a call, a case or
-- the last line, nothing, a run.
unfoldable pub is_due : Phase → Kind → Bool
is_due p K.First = is_first p
is_due p K.Case = is_case p
is_due p (K.Before x) = is_before p
is_due p K.Byte = is_delivery p
is_due p K.Empty = is_call p
is_due p (K.Call C.Run) = is_run p
is_due p (K.Call C.Deliver) = is_delivery p
is_due p (K.Call C.Drain) = is_call p
is_due p (K.Call C.Raise) = is_call p
is_due p (K.Call C.SetRegister) = is_call p
is_due p (K.After x) = is_after p
is_due p K.Close = is_after p
is_due p K.Last = is_case p

-- How many numbers a line of this kind has besides the kind.
unfoldable pub used : Kind → ℕ
used K.First = 2
used K.Case = 4
used (K.Before Part.Cell) = 4
used (K.Before _) = 2
used K.Byte = 2
used K.Empty = 1
used (K.Call C.Run) = 4
used (K.Call C.Deliver) = 2
used (K.Call C.Drain) = 3
used (K.Call C.Raise) = 4
used (K.Call C.SetRegister) = 3
used (K.After Part.Cell) = 4
used (K.After _) = 2
used K.Close = 0
used K.Last = 1

-- "numbers that a kind does not use are 0"
abbrev pub is0 : ℤ → Bool
is0 z = int_eq z (pos 0)

unfoldable pub others_are0 : Line → ℕ → Bool
others_are0 l n = list_all is0 (drop n (l.a ∷ l.b ∷ l.c ∷ l.d ∷ []))

-- The line's kind, unless such a line may not come now, or has a number too many.
abbrev pub due_of : Phase → Line → Result Kind Fault → Result Kind Fault
due_of p l (Err f) = Err f
due_of p l (Ok k) = cond (is_due p k) (cond (others_are0 l (used k)) (Ok k) (Err F.Number)) (Err F.Order)

abbrev pub due_kind : Phase → Line → Result Kind Fault
due_kind p l = due_of p l (kind_of l.kind)
