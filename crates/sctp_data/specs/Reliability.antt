-- How far the sending of a message is to go (RFC 8832 5.1), and until when (RFC 3758 4.1).
use Rattle.std.specs.Prelude.{ℕ, ◌+◌, ◌*◌, ◌^◌, ◌==◌, Bool, true, false, nat_lt, nat_le, if◌then◌else◌, Option, Some, None}
use Rattle.sctp_data.specs.declared.chunk.chunk_payload_data.ReliabilityType.{ReliabilityType}
use Rattle.sctp_data.specs.declared.chunk.chunk_payload_data.ReliabilityType.TheVariants.{Reliable, Rexmit, Timed}

abbrev pub reliability_from : ℕ → ReliabilityType
reliability_from n = if n == 1 then Rexmit else (if n == 2 then Timed else Reliable)

-- the mode with a lifetime
abbrev pub is_timed : ReliabilityType → Bool
is_timed Timed = true
is_timed _ = false

-- so many milliseconds after a moment in nanoseconds, where 64 bits hold that
abbrev pub deadline_at : ℕ → ℕ → Option ℕ
deadline_at start milliseconds =
    if nat_lt (start + milliseconds * 1000000) (2 ^ 64) then Some (start + milliseconds * 1000000)
    else None

-- the deadline is reached now, where there is one
abbrev pub is_past : ℕ → Option ℕ → Bool
is_past now None = false
is_past now (Some deadline) = nat_le deadline now
