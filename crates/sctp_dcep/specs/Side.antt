-- The numbers of streams that each side chooses (RFC 8832 6, RFC 8831 6.5).
use Rattle.std.specs.Prelude.{ℕ, ◌+◌, nat_le, if◌then◌else◌, Option, Some, None}
use Rattle.sctp_dcep.specs.declared.side.Side.{Side}
use Rattle.sctp_dcep.specs.declared.side.Side.TheVariants.{Client, Server}

-- the client chooses even numbers, the server odd ones
abbrev pub first_of : Side → ℕ
first_of Client = 0
first_of Server = 1

-- the next number of the same kind; the last stream is 65,534 (RFC 9260 3.3.2)
abbrev pub next_of : ℕ → Option ℕ
next_of stream = if nat_le (stream + 2) 65534 then Some (stream + 2) else None
