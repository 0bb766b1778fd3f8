use Rattle.std.proofs.Common.{◌≡◌, ◌≤◌, length}
use Rattle.sctp_association.proofs.Congested.{Each}
use Rattle.sctp_association.specs.Congested.{LeavesAgain, path_of}
use Rattle.sctp_association.specs.Counts.{IsCountedOn}
use Rattle.sctp_association.specs.Most.{FewerWherePut, most_data}
use Rattle.sctp_association.specs.Packets.{PutsOut}
use Rattle.sctp_association.proofs.outbound.Outbound.put_marked.Given as goal

-- a packet keeps its limit and gets no shorter, and what goes again is counted
abbrev pub invariant-loop : goal.invariant-loop
invariant-loop l = (l.packet.limit ≡ l.initial.packet.limit) × IsCountedOn l.initial.self l.self
    × PutsOut l.initial.self.sender l.self.sender l.initial.packet.bytes l.packet.bytes
    × (length l.initial.packet.bytes ≤ length l.packet.bytes)
    × Each (LeavesAgain l.now) (path_of l.initial.self) (path_of l.self)
    × FewerWherePut (most_data l.initial.self) (most_data l.self) l.initial.packet.bytes l.packet.bytes
