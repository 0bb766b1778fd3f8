-- The packet that is being written, which is there from the first one on.
use Rattle.std.specs.Prelude.{ℕ, List, [], Option, Some, None}
use Rattle.sctp_packets.specs.Draft.{Draft}

abbrev pub bytes_in : Option Draft → List ℕ
bytes_in None = []
bytes_in (Some d) = d.bytes

-- how many bytes it may have
abbrev pub limit_in : ℕ → Option Draft → ℕ
limit_in limit None = limit
limit_in limit (Some d) = d.limit
