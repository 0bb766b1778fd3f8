-- A packet in which nothing was put.
use Rattle.std.specs.Prelude.{ℕ, ◌≤◌, List, length}
use Rattle.sctp_packets.specs.Draft.{IsDraft}
use Rattle.sctp_packets.specs.Packet.{Parts}

-- so much is said where a packet that was begun, with its header of 12 bytes, has no chunk
abbrev pub IfNonePut : (old new : List ℕ) → Type 0 → Type 0
IfNonePut old new P = 12 ≤ length old → length new ≤ 12 → P

-- the same of a packet that was begun, and has these parts before
abbrev pub IfNoneAdded : (old new : List ℕ) → Type 0 → Type 0
IfNoneAdded old new P = (p : Parts) → IsDraft p old → length new ≤ 12 → P
