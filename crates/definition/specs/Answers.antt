-- The numbers and places of the code's refusals, and the answers that its results stand for: `done_of` is 0 and 0 where nothing was refused.
use Rattle.std.specs.Prelude.{Bool, cond, ℕ, pos, Result, Ok, Err}
use Rattle.definition.specs.declared.Cell.{Cell}
use Rattle.definition.specs.declared.Done.{Done}
use Rattle.definition.specs.declared.Ran.{Ran}
use Rattle.definition.specs.declared.Drained.{Drained}
use Rattle.definition.specs.declared.Counted.{Counted}
use Rattle.definition.specs.declared.CellRead.{CellRead}
use Rattle.definition.specs.declared.Raised.{Raised}
use Rattle.definition.specs.declared.Stop.{Stop}
use Rattle.definition.specs.Exception.{stop_number, stop_detail}
use Rattle.definition.specs.declared.answers.Refusal.{Refusal}
use Rattle.definition.specs.declared.answers.Refusal.TheVariants.{Cells, Queue, Output, Row, DamagedCell, QueueRoom, DrainBuffer, Address, Image, Register, Code, ImageLine, Form, Label, Value, EmptyCell, TextRoom, NumericLine, Seats, Journal, NothingKept}

abbrev pub number_of : Refusal → ℕ
number_of Cells = 1
number_of Queue = 2
number_of Output = 3
number_of (Row _) = 4
number_of (DamagedCell _) = 5
number_of QueueRoom = 6
number_of DrainBuffer = 7
number_of Address = 8
number_of Image = 9
number_of Register = 10
number_of Code = 11
number_of (ImageLine _) = 12
number_of (Form _) = 13
number_of (Label _) = 14
number_of (Value _) = 15
number_of EmptyCell = 16
number_of TextRoom = 17
number_of (NumericLine _) = 18
number_of Seats = 19
number_of Journal = 20
number_of NothingKept = 21

abbrev pub place_of : Refusal → ℕ
place_of (Row i) = i
place_of (DamagedCell n) = n
place_of (ImageLine n) = n
place_of (Form n) = n
place_of (Label n) = n
place_of (Value n) = n
place_of (NumericLine n) = n
place_of e = 0

-- A test: what is refused where it did not pass.
abbrev pub checked : {E : Type 0} → Bool → E → Result (Unit {0}) E
checked b e = cond b (Ok tt) (Err e)

abbrev pub refused : Refusal → Done
refused e = record { refusal = number_of e; place = place_of e }

abbrev pub done_of : {A : Type 0} → Result A Refusal → Done
done_of (Ok _) = record { refusal = 0; place = 0 }
done_of (Err e) = refused e

abbrev pub ran_of : Refusal → Ran
ran_of e = record { refusal = number_of e; place = place_of e; stop = 0; detail = 0; steps = 0; empty = 0 }

abbrev pub drained_of : Result ℕ Refusal → Drained
drained_of (Ok n) = record { refusal = 0; place = 0; count = n }
drained_of (Err e) = record { refusal = number_of e; place = place_of e; count = 0 }

abbrev pub counted_of : Result ℕ Refusal → Counted
counted_of (Ok n) = record { refusal = 0; place = 0; count = n }
counted_of (Err e) = record { refusal = number_of e; place = place_of e; count = 0 }

abbrev pub cell_read_of : Result Cell Refusal → CellRead
cell_read_of (Ok v) = record { refusal = 0; place = 0; tag = v.tag; first = v.first; second = v.second }
cell_read_of (Err e) = record { refusal = number_of e; place = place_of e; tag = pos 0; first = pos 0; second = pos 0 }

abbrev pub raised_of : Refusal → Raised
raised_of e = record { refusal = number_of e; place = place_of e; stop = 0; detail = 0 }

-- Of a raise that isn't refused.
abbrev pub raise_of : Result (Unit {0}) Stop → Raised
raise_of (Ok _) = record { refusal = 0; place = 0; stop = 0; detail = 0 }
raise_of (Err s) = record { refusal = 0; place = 0; stop = stop_number s; detail = stop_detail s }
