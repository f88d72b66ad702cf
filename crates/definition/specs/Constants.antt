-- constants.rs, and the limits that document 01 adds.
use Rattle.std.specs.Prelude.{ℕ, ◌^◌}

-- "pc, sr and code go to cells 100, 101, 102"
abbrev pub INTERRUPT-PC-SAVE : ℕ
INTERRUPT-PC-SAVE = 100

abbrev pub INTERRUPT-SR-SAVE : ℕ
INTERRUPT-SR-SAVE = 101

abbrev pub INTERRUPT-EXCEPTION : ℕ
INTERRUPT-EXCEPTION = 102

-- "through cell 200"
abbrev pub INTERRUPT-HANDLER : ℕ
INTERRUPT-HANDLER = 200

-- "a serial console on ports 110 and 111"
abbrev pub SERIAL-STATUS-PORT : ℕ
SERIAL-STATUS-PORT = 110

abbrev pub SERIAL-DATA-PORT : ℕ
SERIAL-DATA-PORT = 111

-- "A timer on ports 120 and 121"
abbrev pub TIMER-INTERVAL-PORT : ℕ
TIMER-INTERVAL-PORT = 120

abbrev pub TIMER-REMAINING-PORT : ℕ
TIMER-REMAINING-PORT = 121

-- The flags' bits in the status word: "five different single bits at the positions of `StatusRegister`".
abbrev pub ZERO : ℕ
ZERO = 1

abbrev pub NEGATIVE : ℕ
NEGATIVE = 2

abbrev pub OVERFLOW : ℕ
OVERFLOW = 3

abbrev pub INTERRUPT-ENABLE : ℕ
INTERRUPT-ENABLE = 8

abbrev pub SUPERVISOR : ℕ
SUPERVISOR = 9

-- "256 to 10,000 cells"
abbrev pub CELLS-LEAST : ℕ
CELLS-LEAST = 256

abbrev pub CELLS-MOST : ℕ
CELLS-MOST = 10000

-- "The queue is not 1 to 4,096 bytes." "The output record is over 65,536 bytes."
abbrev pub QUEUE-MOST : ℕ
QUEUE-MOST = 4096

abbrev pub OUTPUT-MOST : ℕ
OUTPUT-MOST = 65536

-- "cycles (0 to 2^63 - 1)": the first number that is too many
abbrev pub CYCLES-END : ℕ
CYCLES-END = 2 ^ 63

-- "Row of 16 numbers: a (3), b (3), pc, sp, sr, cycles [...], enable, flag, pending [...], queue start [...], queue count, output count": how
-- many, and each one's place, from 1.
abbrev pub ROW : ℕ
ROW = 20

abbrev pub ROW-A : ℕ
ROW-A = 1

abbrev pub ROW-B : ℕ
ROW-B = 4

abbrev pub ROW-PC : ℕ
ROW-PC = 7

abbrev pub ROW-SP : ℕ
ROW-SP = 8

abbrev pub ROW-SR : ℕ
ROW-SR = 9

abbrev pub ROW-CYCLES : ℕ
ROW-CYCLES = 10

abbrev pub ROW-ENABLE : ℕ
ROW-ENABLE = 11

abbrev pub ROW-FLAG : ℕ
ROW-FLAG = 12

abbrev pub ROW-PENDING : ℕ
ROW-PENDING = 13

abbrev pub ROW-START : ℕ
ROW-START = 14

abbrev pub ROW-COUNT : ℕ
ROW-COUNT = 15

abbrev pub ROW-WRITTEN : ℕ
ROW-WRITTEN = 16

-- "a seventeenth number, the fence"
abbrev pub ROW-FENCE : ℕ
ROW-FENCE = 17

-- "The row gains interval (0 or more), remaining (0 to the interval) and mark (0 or 1)"
abbrev pub ROW-INTERVAL : ℕ
ROW-INTERVAL = 18

abbrev pub ROW-REMAINING : ℕ
ROW-REMAINING = 19

abbrev pub ROW-MARK : ℕ
ROW-MARK = 20
