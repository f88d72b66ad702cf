-- "Course cases": the starred ones as one table, shr beside shl, with more rows: 255 and 256 cells, a privileged instruction in user mode,
-- an interrupt, an exception beside a pending interrupt, and what each request of document 02 adds to the machine. The rows of 10,000 cells
-- cost the most to compute, and stand last. The proof is proofs/Course.
use Rattle.std.specs.Prelude.{◌≡◌, List, [], ◌∷◌, ℕ, ◌*◌, ℤ, pos, negsuc, replicate}
use Rattle.definition.specs.declared.Cell.{Cell}
use Rattle.definition.specs.declared.Ran.{Ran}
use Rattle.definition.specs.Constants.{ROW, ROW-FENCE, ROW-A, ROW-B, ROW-PC, ROW-SP, ROW-SR, ROW-CYCLES, ROW-PENDING, ROW-WRITTEN, ROW-INTERVAL, ROW-REMAINING, ROW-MARK}
use Rattle.definition.specs.Word.{smallest}
use Rattle.definition.specs.Memory.{cell, empty, word, cell_at, put_cell}
use Rattle.definition.specs.Encoding.{tag_of}
use Rattle.definition.specs.Calls.{Lent, lent, Called, run_call, raise, at, put, cell_of_row, put_cell_of_row}

-- A cell of the image, by its address.
pub record Line : Type 0 where
  pub address : ℕ
  pub holds : Cell

abbrev pub line : ℕ → Cell → Line
line n v = record { address = n; holds = v }

-- An instruction by op, m1, m2, r1, r2 and its two numbers.
abbrev pub inst : ℕ → ℕ → ℕ → ℕ → ℕ → ℤ → ℤ → Cell
inst o m₁ m₂ r₁ r₂ f s = cell (pos (tag_of o m₁ m₂ r₁ r₂)) f s

-- A machine with so many cells, empty but for the image, and a, pc, sp, sr and pending mark; the rest as in the runner. Afterwards one cell
-- is looked at.
pub record Case : Type 0 where
  pub size : ℕ
  pub image : List Line
  pub a : Cell
  pub pc : ℕ
  pub sp : ℕ
  pub sr : ℤ
  pub pending : ℤ
  pub fence : ℕ
  pub interval : ℤ
  pub remaining : ℤ
  pub mark : ℤ
  pub budget : ℕ
  pub look : ℕ

abbrev case : ℕ → List Line → Cell → ℕ → ℕ → ℕ → ℕ → Case
case n i a pc sp b k =
    record { size = n; image = i; a = a; pc = pc; sp = sp; sr = pos 0; pending = pos 0; fence = 0; interval = pos 0; remaining = pos 0; mark = pos 0; budget = b; look = k }

-- with S set
abbrev supervised : ℕ → List Line → ℕ → Case
supervised n i k =
    record { size = n; image = i; a = empty; pc = 0; sp = 0; sr = pos 512; pending = pos 0; fence = 0; interval = pos 0; remaining = pos 0; mark = pos 0; budget = 1; look = k }

-- with I set and the pending mark set
abbrev interrupted : ℕ → List Line → ℕ → Case
interrupted n i k =
    record { size = n; image = i; a = empty; pc = 0; sp = 0; sr = pos 256; pending = pos 1; fence = 0; interval = pos 0; remaining = pos 0; mark = pos 0; budget = 1; look = k }

-- What is looked at afterwards: refusal, stop, detail, steps and empty reads; pc, sp, sr, cycles, pending mark and output count; the timer;
-- a and b; and one cell.
pub record Shown : Type 0 where
  pub refusal : ℕ
  pub stop : ℕ
  pub detail : ℕ
  pub steps : ℕ
  pub empty : ℕ
  pub pc : ℤ
  pub sp : ℤ
  pub sr : ℤ
  pub cycles : ℤ
  pub pending : ℤ
  pub written : ℤ
  pub interval : ℤ
  pub remaining : ℤ
  pub mark : ℤ
  pub a : Cell
  pub b : Cell
  pub there : Cell

abbrev done : ℕ → ℕ → ℕ → ℤ → ℤ → ℤ → ℤ → Cell → Cell → Shown
done stop detail steps pc sp sr cycles a v =
    record { refusal = 0; stop = stop; detail = detail; steps = steps; empty = 0; pc = pc; sp = sp; sr = sr; cycles = cycles; pending = pos 0; written = pos 0; interval = pos 0; remaining = pos 0; mark = pos 0; a = a; b = empty; there = v }

-- with so many words of empty cells taken
abbrev took : ℕ → Shown → Shown
took n s =
    record { refusal = s.refusal; stop = s.stop; detail = s.detail; steps = s.steps; empty = n; pc = s.pc; sp = s.sp; sr = s.sr; cycles = s.cycles; pending = s.pending; written = s.written; interval = s.interval; remaining = s.remaining; mark = s.mark; a = s.a; b = s.b; there = s.there }

-- with the timer as it is then
abbrev runs_on : ℤ → ℤ → ℤ → Shown → Shown
runs_on i r t s =
    record { refusal = s.refusal; stop = s.stop; detail = s.detail; steps = s.steps; empty = s.empty; pc = s.pc; sp = s.sp; sr = s.sr; cycles = s.cycles; pending = s.pending; written = s.written; interval = i; remaining = r; mark = t; a = s.a; b = s.b; there = s.there }

-- A case and what it shows.
pub record Row : Type 0 where
  pub given : Case
  pub expected : Shown

abbrev gives : Case → Shown → Row
gives c s = record { given = c; expected = s }

-- add 5,%a · reset · div n,%a · shl n,%a · shr n,%a · nop · push 7 · swap [%a],%a · fas [5],%sr · ld [10000],%a · ld [%a],%a · call [10000] · st %a,[10000] ·
-- in [110],%a · swap [%a],%b · rti · jeq %a · st %a,[30] · swap [30],%a · swap [30],%sr · fas [30],%a · call 40 ·
-- out n,[120] · out 5,[121] · in [120],%a · in [121],%a · trap · ld 768,%sr
abbrev add5 : Cell
add5 = cell (pos 202) (pos 5) (pos 0)

abbrev reset : Cell
reset = cell (pos 20702) (pos 0) (pos 0)

abbrev div : ℤ → Cell
div n = cell (pos 3802) n (pos 0)

abbrev shl : ℤ → Cell
shl n = inst 26 1 2 0 0 n (pos 0)

abbrev shr : ℤ → Cell
shr n = inst 27 1 2 0 0 n (pos 0)

abbrev nop : Cell
nop = inst 17 0 0 0 0 (pos 0) (pos 0)

abbrev push7 : Cell
push7 = inst 22 1 0 0 0 (pos 7) (pos 0)

abbrev swap_a : Cell
swap_a = inst 30 4 2 0 0 (pos 0) (pos 0)

abbrev swap_b : Cell
swap_b = inst 30 4 2 0 1 (pos 0) (pos 0)

abbrev fas_sr : Cell
fas_sr = inst 5 3 2 0 4 (pos 5) (pos 0)

abbrev ld_outside : Cell
ld_outside = inst 14 3 2 0 0 (pos 10000) (pos 0)

abbrev ld_a : Cell
ld_a = inst 14 4 2 0 0 (pos 0) (pos 0)

abbrev call_outside : Cell
call_outside = inst 2 3 0 0 0 (pos 10000) (pos 0)

abbrev st_outside : Cell
st_outside = inst 28 2 3 0 0 (pos 0) (pos 10000)

abbrev st30 : Cell
st30 = inst 28 2 3 0 0 (pos 0) (pos 30)

abbrev swap30 : Cell
swap30 = inst 30 3 2 0 0 (pos 30) (pos 0)

abbrev swap_sr : Cell
swap_sr = inst 30 3 2 0 4 (pos 30) (pos 0)

abbrev fas30 : Cell
fas30 = inst 5 3 2 0 0 (pos 30) (pos 0)

abbrev call40 : Cell
call40 = inst 2 1 0 0 0 (pos 40) (pos 0)

abbrev out_interval : ℤ → Cell
out_interval n = inst 20 1 3 0 0 n (pos 120)

abbrev out_remaining : Cell
out_remaining = inst 20 1 3 0 0 (pos 5) (pos 121)

abbrev in_interval : Cell
in_interval = inst 6 3 2 0 0 (pos 120) (pos 0)

abbrev in_remaining : Cell
in_remaining = inst 6 3 2 0 0 (pos 121) (pos 0)

abbrev trap : Cell
trap = inst 31 0 0 0 0 (pos 0) (pos 0)

abbrev ld_sr : Cell
ld_sr = inst 14 1 2 0 4 (pos 768) (pos 0)

abbrev in_status : Cell
in_status = inst 6 3 2 0 0 (pos 110) (pos 0)

abbrev rti : Cell
rti = inst 24 0 0 0 0 (pos 0) (pos 0)

abbrev jeq_a : Cell
jeq_a = inst 8 2 0 0 0 (pos 0) (pos 0)

abbrev one : Cell
one = word (pos 1)

-- A case with a fence: word 7 in a, word 9 in cell 30 and sp above it, and a handler
abbrev fenced : ℤ → ℕ → Cell → ℕ → Case
fenced sr f i k =
    record { size = 256; image = line 0 i ∷ line 30 (word (pos 9)) ∷ line 200 nop ∷ []; a = word (pos 7); pc = 0; sp = 31; sr = sr; pending = pos 0; fence = f; interval = pos 0; remaining = pos 0; mark = pos 0; budget = 1; look = k }

-- the largest word
abbrev largest : ℤ
largest = pos 9223372036854775807

-- A case with the timer, sr and the pending mark, and what stands in cell 200.
abbrev ticking : ℤ → ℤ → ℤ → ℤ → ℤ → Cell → Cell → ℕ → Case
ticking i r t sr p x h k =
    record { size = 256; image = line 0 x ∷ line 200 h ∷ []; a = empty; pc = 0; sp = 0; sr = sr; pending = p; fence = 0; interval = i; remaining = r; mark = t; budget = 1; look = k }

-- with S set; and with S and I set
abbrev kernel : ℤ → ℤ → ℤ → Cell → ℕ → Case
kernel i r t x k = ticking i r t (pos 512) (pos 0) x nop k

abbrev polling : ℤ → ℤ → ℤ → Cell → ℕ → Case
polling i r t x k = ticking i r t (pos 768) (pos 0) x nop k

unfoldable pub table : List Row
table =
    -- "the run above"
    gives (case 2048 (line 0 add5 ∷ line 1 reset ∷ []) empty 0 0 100000 1) (took 1 (done 1 0 1 (pos 1) (pos 0) (pos 0) (pos 1) (word (pos 5)) reset))
    -- "div 0,%a (3802,0,0), no handler: stop 2, code 1, pc moved"
    ∷ gives (case 256 (line 0 (div (pos 0)) ∷ []) empty 0 0 1 0) (done 2 1 0 (pos 1) (pos 0) (pos 0) (pos 0) empty (div (pos 0)))
    -- "smallest / -1: code 1; smallest / 1: kept"
    ∷ gives (case 256 (line 0 (div (negsuc 0)) ∷ []) (word smallest) 0 0 1 0) (done 2 1 0 (pos 1) (pos 0) (pos 0) (pos 0) (word smallest) (div (negsuc 0)))
    ∷ gives (case 256 (line 0 (div (pos 1)) ∷ []) (word smallest) 0 0 1 0) (done 0 0 1 (pos 1) (pos 0) (pos 4) (pos 1) (word smallest) (div (pos 1)))
    -- "shift 63 taken, 64 and -1: code 2"
    ∷ gives (case 256 (line 0 (shl (pos 63)) ∷ []) one 0 0 1 0) (done 0 0 1 (pos 1) (pos 0) (pos 4) (pos 1) (word smallest) (shl (pos 63)))
    ∷ gives (case 256 (line 0 (shl (pos 64)) ∷ []) one 0 0 1 0) (done 2 2 0 (pos 1) (pos 0) (pos 0) (pos 0) one (shl (pos 64)))
    ∷ gives (case 256 (line 0 (shl (negsuc 0)) ∷ []) one 0 0 1 0) (done 2 2 0 (pos 1) (pos 0) (pos 0) (pos 0) one (shl (negsuc 0)))
    -- the same of shr, which "keeps the sign"
    ∷ gives (case 256 (line 0 (shr (pos 63)) ∷ []) (word smallest) 0 0 1 0) (done 0 0 1 (pos 1) (pos 0) (pos 4) (pos 1) (word (negsuc 0)) (shr (pos 63)))
    ∷ gives (case 256 (line 0 (shr (pos 64)) ∷ []) one 0 0 1 0) (done 2 2 0 (pos 1) (pos 0) (pos 0) (pos 0) one (shr (pos 64)))
    ∷ gives (case 256 (line 0 (shr (negsuc 0)) ∷ []) one 0 0 1 0) (done 2 2 0 (pos 1) (pos 0) (pos 0) (pos 0) one (shr (negsuc 0)))
    -- "budget 0: stop 0, 0 steps"
    ∷ gives (case 256 (line 0 (div (pos 0)) ∷ []) empty 0 0 0 0) (done 0 0 0 (pos 0) (pos 0) (pos 0) (pos 0) empty (div (pos 0)))
    -- "push at sp 0"
    ∷ gives (case 256 (line 0 push7 ∷ []) empty 0 0 1 0) (done 2 5 0 (pos 1) (pos 4294967295) (pos 0) (pos 0) empty push7)
    -- "swap [%a],%a writes through the new a"
    ∷ gives (case 256 (line 0 swap_a ∷ line 5 (word (pos 9)) ∷ []) (word (pos 5)) 0 0 1 9) (done 0 0 1 (pos 1) (pos 0) (pos 0) (pos 2) (word (pos 9)) (word (pos 5)))
    -- "fas [5],%sr in user mode: cell 5 word 1, code 3"
    ∷ gives (case 256 (line 0 fas_sr ∷ []) empty 0 0 1 5) (done 2 3 0 (pos 1) (pos 0) (pos 0) (pos 0) empty one)
    -- "255 and 256 cells"
    ∷ gives
    (case 255 (line 0 nop ∷ []) empty 0 0 1 0)
    (record { refusal = 1; stop = 0; detail = 0; steps = 0; empty = 0; pc = pos 0; sp = pos 0; sr = pos 0; cycles = pos 0; pending = pos 0; written = pos 0; interval = pos 0; remaining = pos 0; mark = pos 0; a = empty; b = empty; there = nop })
    ∷ gives (case 256 (line 0 nop ∷ []) empty 0 0 1 255) (done 0 0 1 (pos 1) (pos 0) (pos 0) (pos 1) empty empty)
    -- "in, out and rti check S first": in [110],%a in user mode enters code 3
    ∷ gives (case 256 (line 0 in_status ∷ line 200 nop ∷ []) empty 0 0 1 102) (done 0 0 1 (pos 200) (pos 0) (pos 512) (pos 1) empty (word (pos 3)))
    -- "the pending mark is taken and, if it was set, code 0 is entered", with the old sr in cell 101 and I clear
    ∷ gives (interrupted 256 (line 0 nop ∷ line 200 nop ∷ []) 101) (done 0 0 1 (pos 200) (pos 0) (pos 512) (pos 2) empty (word (pos 256)))
    -- "An exception step doesn't poll": code 1 is entered, I and the pending mark stay
    ∷ gives
    (interrupted 256 (line 0 (div (pos 0)) ∷ line 200 nop ∷ []) 102)
    (record { refusal = 0; stop = 0; detail = 0; steps = 1; empty = 1; pc = pos 200; sp = pos 0; sr = pos 768; cycles = pos 1; pending = pos 1; written = pos 0; interval = pos 0; remaining = pos 0; mark = pos 0; a = empty; b = empty; there = word (pos 1) })
    -- "An operand read at an address not below the count of cells raises code 5": ld [%a],%a with 256 cells, up to the largest address
    ∷ gives (case 256 (line 0 ld_a ∷ []) (word (pos 255)) 0 0 1 0) (done 0 0 1 (pos 1) (pos 0) (pos 0) (pos 2) empty ld_a)
    ∷ gives (case 256 (line 0 ld_a ∷ []) (word (pos 256)) 0 0 1 0) (done 2 5 0 (pos 1) (pos 0) (pos 0) (pos 0) (word (pos 256)) ld_a)
    ∷ gives (case 256 (line 0 ld_a ∷ []) (word (pos 4294967295)) 0 0 1 0) (done 2 5 0 (pos 1) (pos 0) (pos 0) (pos 0) (word (pos 4294967295)) ld_a)
    -- "A negative or too large word used as an address stops as before."
    ∷ gives (case 256 (line 0 ld_a ∷ []) (word (negsuc 0)) 0 0 1 0) (done 4 0 0 (pos 1) (pos 0) (pos 0) (pos 0) (word (negsuc 0)) ld_a)
    ∷ gives (case 256 (line 0 ld_a ∷ []) (word (pos 4294967296)) 0 0 1 0) (done 4 0 0 (pos 1) (pos 0) (pos 0) (pos 0) (word (pos 4294967296)) ld_a)
    -- "with all earlier effects of the instruction standing": call [10000] has pushed
    ∷ gives (case 256 (line 0 call_outside ∷ []) empty 0 10 1 9) (done 2 5 0 (pos 1) (pos 9) (pos 0) (pos 0) empty one)
    -- "Where a step takes a word twice, as swap does for its address, both count": swap [%a],%b with a and b empty, which carries two cells
    ∷ gives (case 256 (line 1 swap_b ∷ []) empty 1 0 1 1) (took 2 (done 0 0 1 (pos 2) (pos 0) (pos 0) (pos 2) empty swap_b))
    -- rti takes the words of cells 100 and 101; jeq %a, not taken, takes none
    ∷ gives (supervised 256 (line 0 rti ∷ []) 0) (took 2 (done 0 0 1 (pos 0) (pos 0) (pos 0) (pos 1) empty rti))
    ∷ gives (case 256 (line 0 jeq_a ∷ []) empty 0 0 1 0) (done 0 0 1 (pos 1) (pos 0) (pos 0) (pos 1) empty jeq_a)
    -- "A write by st, swap, fas, push or call, in a step begun with S clear, to an address below the fence raises code 5 and leaves that cell":
    -- of each a write of cell 30 with fence 31, then with fence 30
    ∷ gives (fenced (pos 0) 31 st30 30) (done 0 0 1 (pos 200) (pos 31) (pos 512) (pos 1) (word (pos 7)) (word (pos 9)))
    ∷ gives (fenced (pos 0) 30 st30 30) (done 0 0 1 (pos 1) (pos 31) (pos 0) (pos 2) (word (pos 7)) (word (pos 7)))
    -- "What the instruction did earlier stays done": swap has set its register
    ∷ gives (fenced (pos 0) 31 swap30 30) (done 0 0 1 (pos 200) (pos 31) (pos 512) (pos 1) (word (pos 9)) (word (pos 9)))
    ∷ gives (fenced (pos 0) 30 swap30 30) (done 0 0 1 (pos 1) (pos 31) (pos 0) (pos 2) (word (pos 9)) (word (pos 7)))
    -- fas sets its register after the write, so not at all
    ∷ gives (fenced (pos 0) 31 fas30 30) (done 0 0 1 (pos 200) (pos 31) (pos 512) (pos 1) (word (pos 7)) (word (pos 9)))
    ∷ gives (fenced (pos 0) 30 fas30 30) (done 0 0 1 (pos 1) (pos 31) (pos 0) (pos 2) (word (pos 9)) one)
    -- push and call have moved sp
    ∷ gives (fenced (pos 0) 31 push7 30) (done 0 0 1 (pos 200) (pos 30) (pos 512) (pos 1) (word (pos 7)) (word (pos 9)))
    ∷ gives (fenced (pos 0) 30 push7 30) (done 0 0 1 (pos 1) (pos 30) (pos 0) (pos 1) (word (pos 7)) (word (pos 7)))
    ∷ gives (fenced (pos 0) 31 call40 30) (done 0 0 1 (pos 200) (pos 30) (pos 512) (pos 1) (word (pos 7)) (word (pos 9)))
    ∷ gives (fenced (pos 0) 30 call40 30) (done 0 0 1 (pos 40) (pos 30) (pos 0) (pos 1) (word (pos 7)) one)
    -- "in a step begun with S clear": not with S set, nor where swap [30],%sr clears it before it writes
    ∷ gives (fenced (pos 512) 31 st30 30) (done 0 0 1 (pos 1) (pos 31) (pos 512) (pos 2) (word (pos 7)) (word (pos 7)))
    ∷ gives (fenced (pos 512) 31 swap_sr 30) (done 0 0 1 (pos 1) (pos 31) (pos 9) (pos 2) (word (pos 7)) (word (pos 512)))
    -- "Entry to the handler still writes cells 100 to 102", and no other: with the fence at "the count of cells"; one more is refused
    ∷ gives (fenced (pos 0) 256 st30 102) (done 0 0 1 (pos 200) (pos 31) (pos 512) (pos 1) (word (pos 7)) (word (pos 5)))
    ∷ gives (fenced (pos 0) 256 st30 103) (done 0 0 1 (pos 200) (pos 31) (pos 512) (pos 1) (word (pos 7)) empty)
    ∷ gives
    (fenced (pos 0) 257 st30 30)
    (record { refusal = 4; stop = 0; detail = 0; steps = 0; empty = 0; pc = pos 0; sp = pos 31; sr = pos 0; cycles = pos 0; pending = pos 0; written = pos 0; interval = pos 0; remaining = pos 0; mark = pos 0; a = word (pos 7); b = empty; there = word (pos 9) })
    -- "While the timer is on, each completed instruction [...] takes its cost off what remains": nop, and with a whole word
    ∷ gives (kernel (pos 5) (pos 2) (pos 0) nop 0) (runs_on (pos 5) (pos 1) (pos 0) (done 0 0 1 (pos 1) (pos 0) (pos 512) (pos 1) empty nop))
    ∷ gives (kernel largest largest (pos 0) nop 0) (runs_on largest (pos 9223372036854775806) (pos 0) (done 0 0 1 (pos 1) (pos 0) (pos 512) (pos 1) empty nop))
    -- "Where what is taken off leaves 0 or less, the timer's mark is set and the interval starts afresh": 0, less than 0, and where nothing remained
    ∷ gives (kernel (pos 5) (pos 1) (pos 0) nop 0) (runs_on (pos 5) (pos 5) (pos 1) (done 0 0 1 (pos 1) (pos 0) (pos 512) (pos 1) empty nop))
    ∷ gives (kernel (pos 5) (pos 1) (pos 0) in_status 0) (runs_on (pos 5) (pos 5) (pos 1) (done 0 0 1 (pos 1) (pos 0) (pos 512) (pos 2) (word (pos 2)) in_status))
    ∷ gives (kernel (pos 5) (pos 0) (pos 0) nop 0) (runs_on (pos 5) (pos 5) (pos 1) (done 0 0 1 (pos 1) (pos 0) (pos 512) (pos 1) empty nop))
    -- "before the poll": the mark just set is taken, and "a handler entry by code 0 [...] takes off none"
    ∷ gives (polling (pos 1) (pos 1) (pos 0) nop 102) (runs_on (pos 1) (pos 1) (pos 0) (done 0 0 1 (pos 200) (pos 0) (pos 512) (pos 2) empty (word (pos 0))))
    -- also where the instruction itself sets I
    ∷ gives (kernel (pos 1) (pos 1) (pos 0) ld_sr 101) (runs_on (pos 1) (pos 1) (pos 0) (done 0 0 1 (pos 200) (pos 0) (pos 512) (pos 2) empty (word (pos 768))))
    -- and where the poll finds no handler: mark and time are taken
    ∷ gives (ticking (pos 5) (pos 1) (pos 0) (pos 768) (pos 0) nop empty 0) (runs_on (pos 5) (pos 5) (pos 0) (done 2 0 0 (pos 1) (pos 0) (pos 768) (pos 1) empty nop))
    -- "The poll takes the console's mark first and otherwise the timer's", whose mark is taken with the timer off too
    ∷ gives (ticking (pos 0) (pos 0) (pos 1) (pos 768) (pos 1) nop nop 102) (runs_on (pos 0) (pos 0) (pos 1) (done 0 0 1 (pos 200) (pos 0) (pos 512) (pos 2) empty (word (pos 0))))
    ∷ gives (polling (pos 0) (pos 0) (pos 1) nop 102) (runs_on (pos 0) (pos 0) (pos 0) (done 0 0 1 (pos 200) (pos 0) (pos 512) (pos 2) empty (word (pos 0))))
    -- "and each exception step its one cycle", which it does not poll after; where there is no handler none is taken off
    ∷ gives (polling (pos 5) (pos 2) (pos 0) trap 102) (runs_on (pos 5) (pos 1) (pos 0) (done 0 0 1 (pos 200) (pos 0) (pos 768) (pos 1) empty (word (pos 4))))
    ∷ gives (polling (pos 5) (pos 1) (pos 0) trap 102) (runs_on (pos 5) (pos 5) (pos 1) (done 0 0 1 (pos 200) (pos 0) (pos 768) (pos 1) empty (word (pos 4))))
    ∷ gives (ticking (pos 5) (pos 1) (pos 0) (pos 768) (pos 0) trap empty 0) (runs_on (pos 5) (pos 1) (pos 0) (done 2 4 0 (pos 1) (pos 0) (pos 768) (pos 0) empty trap))
    -- "Port 120 written sets interval and remaining cycles". "A step that writes port 120 takes nothing off"; it polls
    ∷ gives (kernel (pos 1) (pos 1) (pos 0) (out_interval (pos 9)) 0) (runs_on (pos 9) (pos 9) (pos 0) (done 0 0 1 (pos 1) (pos 0) (pos 512) (pos 2) empty (out_interval (pos 9))))
    ∷ gives (polling (pos 1) (pos 1) (pos 1) (out_interval (pos 1)) 102) (runs_on (pos 1) (pos 1) (pos 0) (done 0 0 1 (pos 200) (pos 0) (pos 512) (pos 3) empty (word (pos 0))))
    -- "where a number below 1 turns it off as 0". "Turning the timer off keeps a mark already set."
    ∷ gives (kernel (pos 5) (pos 1) (pos 1) (out_interval (pos 0)) 0) (runs_on (pos 0) (pos 0) (pos 1) (done 0 0 1 (pos 1) (pos 0) (pos 512) (pos 2) empty (out_interval (pos 0))))
    ∷ gives (kernel (pos 5) (pos 1) (pos 0) (out_interval (negsuc 6)) 0) (runs_on (pos 0) (pos 0) (pos 0) (done 0 0 1 (pos 1) (pos 0) (pos 512) (pos 2) empty (out_interval (negsuc 6))))
    -- "read, it gives the interval. Port 121 reads what remains", before the step's own cost, "and swallows writes"
    ∷ gives (kernel largest (pos 9) (pos 0) in_interval 0) (runs_on largest (pos 7) (pos 0) (done 0 0 1 (pos 1) (pos 0) (pos 512) (pos 2) (word largest) in_interval))
    ∷ gives (kernel (pos 9) (pos 8) (pos 0) in_remaining 0) (runs_on (pos 9) (pos 6) (pos 0) (done 0 0 1 (pos 1) (pos 0) (pos 512) (pos 2) (word (pos 8)) in_remaining))
    ∷ gives (kernel (pos 9) (pos 8) (pos 0) out_remaining 0) (runs_on (pos 9) (pos 6) (pos 0) (done 0 0 1 (pos 1) (pos 0) (pos 512) (pos 2) empty out_remaining))
    -- "remaining (0 to the interval)"
    ∷ gives
    (kernel (pos 5) (pos 6) (pos 0) nop 0)
    (record { refusal = 4; stop = 0; detail = 0; steps = 0; empty = 0; pc = pos 0; sp = pos 0; sr = pos 512; cycles = pos 0; pending = pos 0; written = pos 0; interval = pos 5; remaining = pos 6; mark = pos 0; a = empty; b = empty; there = nop })
    -- "pc 9,999 fetches, 10,000 code 5"
    ∷ gives (case 10000 (line 9999 nop ∷ []) empty 9999 0 2 9999) (done 2 5 1 (pos 10000) (pos 0) (pos 0) (pos 1) empty nop)
    -- "The `ld [10000],%a` case becomes code 5"; "st to it: code 5"
    ∷ gives (case 10000 (line 9998 ld_outside ∷ []) empty 9998 0 1 9998) (done 2 5 0 (pos 9999) (pos 0) (pos 0) (pos 0) empty ld_outside)
    ∷ gives (case 10000 (line 9998 st_outside ∷ line 200 nop ∷ []) empty 9998 0 1 102) (took 1 (done 0 0 1 (pos 200) (pos 0) (pos 512) (pos 1) empty (word (pos 5))))
    ∷ []

-- ---- what a case gives

unfoldable pub cells_of : ℕ → List Line → List ℤ
cells_of n [] = replicate (3 * n) (pos 0)
cells_of n (i ∷ is) = put_cell (cells_of n is) i.address i.holds

unfoldable pub lent_case : Case → Lent
lent_case c =
    lent
    (cells_of c.size c.image)
    (replicate 256 0)
    (replicate 4096 0)
    (put_cell_of_row ROW-A c.a (put ROW-PC (pos c.pc) (put ROW-SP (pos c.sp) (put ROW-SR c.sr (put ROW-PENDING c.pending (put ROW-FENCE (pos c.fence) (put ROW-INTERVAL c.interval (put ROW-REMAINING c.remaining (put ROW-MARK c.mark (replicate ROW (pos 0)))))))))))

unfoldable pub shown : ℕ → Called Ran Lent → Shown
shown look r =
    let row = r.left.row in
    record { refusal = r.answer.refusal; stop = r.answer.stop; detail = r.answer.detail; steps = r.answer.steps; empty = r.answer.empty; pc = at ROW-PC row; sp = at ROW-SP row; sr = at ROW-SR row; cycles = at ROW-CYCLES row; pending = at ROW-PENDING row; written = at ROW-WRITTEN row; interval = at ROW-INTERVAL row; remaining = at ROW-REMAINING row; mark = at ROW-MARK row; a = cell_of_row ROW-A row; b = cell_of_row ROW-B row; there = cell_at r.left.cells look }

-- Each row shows what it should.
unfoldable pub Shows : List Row → Type 0
Shows [] = Unit {0}
Shows (r ∷ rs) = (shown r.given.look (run_call r.given.budget (lent_case r.given)) ≡ r.expected) × Shows rs

-- "a handler entry by code 0 or by raise takes off none": code 4 raised with 1 of 5 cycles left.
unfoldable pub raised_row : List ℤ
raised_row =
    let l = lent_case (kernel (pos 5) (pos 1) (pos 0) nop 0) in
    (raise l.cells l.row 4).left.1

pub record Raises : Type 0 where
  pub cycles : at ROW-CYCLES raised_row ≡ pos 1
  pub remaining : at ROW-REMAINING raised_row ≡ pos 1
  pub mark : at ROW-MARK raised_row ≡ pos 0

pub record Course : Type 0 where
  pub table_shows : Shows table
  pub raise_shows : Raises
