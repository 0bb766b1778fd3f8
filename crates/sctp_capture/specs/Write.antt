-- The blocks of a capture in the newer format (pcapng), as they are written: the lowest byte of each number first, times in nanoseconds.
use Rattle.std.specs.Prelude.{ℕ, ◌+◌, ◌-◌, ◌*◌, ◌/◌, ◌%◌, if◌then◌else◌, List, [], ◌∷◌, ◌++◌, length, take, min, flat_map, Option, Some, None}
use Rattle.sctp_util.specs.Field.{le32}
use Rattle.sctp_capture.specs.declared.record.Time.{Time}

-- the header of a section: type, length, what says the order of numbers, version 1.0, no length of the section, and its own length again
abbrev pub section : List ℕ
section = flat_map le32
    (168627466 ∷ 28 ∷ 439041101 ∷ 1 ∷ 4294967295 ∷ 4294967295 ∷ 28 ∷ [])

-- the description of an interface: its link type, no limit of frames, and the option 9 of one byte, which says that times are in units of 10^-9 seconds
abbrev pub interface : ℕ → List ℕ
interface link_type = flat_map le32
    (1 ∷ 32 ∷ link_type % 65536 ∷ 0 ∷ 65545 ∷ 9 ∷ 0 ∷ 32 ∷ [])

-- the nanoseconds of a time, up to the greatest number of eight bytes; 0 where there is none
abbrev pub ticks_of : Option Time → ℕ
ticks_of None = 0
ticks_of (Some t) =
    min (t.seconds * 1000000000 + t.fraction * (if t.nanoseconds then 1 else 1000))
    18446744073709551615

-- a block ends at a multiple of four
abbrev pub padding_of : ℕ → ℕ
padding_of n = (4 - n % 4) % 4

-- how many bytes the block of a packet takes
abbrev pub span_of : List ℕ → ℕ
span_of frame = 32 + length frame + padding_of (length frame)

-- The block of a packet: its interface, its time in two halves, how much was captured, how much that was before so many bytes were lost, the frame,
-- zeros, and the length of the block again.
abbrev pub packet : ℕ → Option Time → List ℕ → ℕ → List ℕ
packet interface time frame lost =
    flat_map le32 (6 ∷ span_of frame ∷ interface ∷ ticks_of time / 4294967296
    ∷ ticks_of time % 4294967296 ∷ length frame ∷ min (length frame + lost) 4294967295 ∷ [])
    ++ (frame ++ (take (padding_of (length frame)) (0 ∷ 0 ∷ 0 ∷ [])
    ++ flat_map le32 (span_of frame ∷ [])))
