-- The options of a packet's block.
use Rattle.std.specs.Prelude.{ℕ, zero, suc, ◌+◌, ◌*◌, ◌/◌, ◌%◌, ◌==◌, ltb, if◌then◌else◌, List, length, Option, Some, None}
use Rattle.sctp_capture.specs.declared.record.Order.{Order}
use Rattle.sctp_capture.specs.declared.record.Order.TheVariants.{Big, Little}
use Rattle.sctp_capture.specs.declared.record.Direction.{Direction}
use Rattle.sctp_capture.specs.declared.record.Direction.TheVariants.{In, Out}
use Rattle.sctp_capture.specs.Record.{number_at}

-- the number that the first two of four bytes are, by the number that all four are; and that of the last two
abbrev pub first_half : Order → ℕ → ℕ
first_half Big number = number / 65536
first_half Little number = number % 65536

abbrev pub last_half : Order → ℕ → ℕ
last_half Big number = number % 65536
last_half Little number = number / 65536

-- an option has its code, the length of its value, and the value
abbrev pub code_at : Order → List ℕ → ℕ → ℕ
code_at order block at = first_half order (number_at order block at)

abbrev pub size_at : Order → List ℕ → ℕ → ℕ
size_at order block at = last_half order (number_at order block at)

-- what has a length in a block takes a multiple of four bytes
abbrev pub padded : ℕ → ℕ
padded n = (n + 3) / 4 * 4

abbrev pub next_option : Order → List ℕ → ℕ → ℕ
next_option order block at = at + 4 + padded (size_at order block at)

-- where the first option of a code stands, of so many from a place on: four bytes of a value and the block's end are behind it, and no option of
-- code 0, the last one, is before it
unfoldable pub option_at : ℕ → Order → ℕ → List ℕ → ℕ → Option ℕ
option_at zero order code block at = None
option_at (suc count) order code block at =
    if ltb (length block) (at + 12) then None
    else if code_at order block at == code then Some at
    else if code_at order block at == 0 then None
    else option_at count order code block (next_option order block at)

-- a packet came in, or went out, by the first two of its flags
abbrev pub direction_by : ℕ → Option Direction
direction_by bits = if bits == 1 then Some In else if bits == 2 then Some Out else None

abbrev pub direction_of : Order → List ℕ → Option ℕ → Option Direction
direction_of order block None = None
direction_of order block (Some at) =
    if size_at order block at == 4 then direction_by (number_at order block (at + 4) % 4) else None

-- the direction that the flags say, which are the option of code 2; the options begin in this place
abbrev pub direction_in : Order → List ℕ → ℕ → Option Direction
direction_in order block from = direction_of order block (option_at 64 order 2 block from)
