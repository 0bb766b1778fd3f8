-- What is counted of the chunks that go one way.
use Rattle.std.specs.Prelude.{ℕ, ◌+◌, ◌-◌, ◌==◌, ◌&&◌, ◌||◌, leb, Bool, if◌then◌else◌, is_some, min, List, length, Option, Some, None}
use Rattle.sctp_util.specs.Field.{u16_at, u32_at}
use Rattle.sctp_chunks.specs.Framing.{type_at}
use Rattle.sctp_show.specs.Filter.{tsn_of}

-- a count and so many more; it stops at the greatest `u64`
abbrev pub counted : ℕ → ℕ → ℕ
counted count more = min (count + more) 18446744073709551615

-- how many bytes of a message DATA or I-DATA carries, by its length
abbrev pub payload_length : List ℕ → ℕ
payload_length bytes = u16_at bytes 2 - (if type_at bytes == 0 then 16 else 20)

-- INIT or INIT-ACK, with all of the fixed part (RFC 4960 3.3.2)
abbrev pub is_init : List ℕ → Bool
is_init bytes = leb 20 (length bytes) && ((type_at bytes == 1) || (type_at bytes == 2))

-- the TSN that those of a way are counted from, after a chunk: the initial one that it names, or the one before, or, if there is none, its own
abbrev pub base_after : Option ℕ → List ℕ → Option ℕ
base_after old bytes =
    if is_init bytes then Some (u32_at bytes 16)
    else if is_some old then old
    else tsn_of bytes

-- the same as a number that TSNs are printed relative to; 0 leaves them as they are
abbrev pub base_of : Option ℕ → ℕ
base_of None = 0
base_of (Some tsn) = tsn
