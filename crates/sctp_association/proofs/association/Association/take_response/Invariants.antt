use Rattle.std.proofs.Common.{◌≡◌}
use Rattle.sctp_association.proofs.Reconfigs.{Restarts, TellsRefused}
use Rattle.sctp_association.specs.Arrivals.{HearsBy, IsRestart}
use Rattle.sctp_association.specs.Kept.{IsKept, RestStays}
use Rattle.sctp_association.specs.Telling.{TellsEnd}
use Rattle.sctp_association.proofs.association.Association.take_response.Given as goal

-- streams are reset, and the receiver stays as it is
abbrev pub invariant-loop-stream : goal.invariant-loop-stream
invariant-loop-stream l =
    HearsBy IsRestart l.initial.self.outbound.sender l.self.outbound.sender × (l.self.inbound ≡ l.initial.self.inbound)
    × IsKept l.initial.self l.self × TellsEnd l.initial.self l.self × RestStays l.initial.self l.self
    × Restarts l.stream-items l.stream-index l.initial.self l.self

abbrev pub invariant-loop-stream-2 : goal.invariant-loop-stream-2
invariant-loop-stream-2 l =
    (l.self.outbound ≡ l.initial.self.outbound) × (l.self.inbound ≡ l.initial.self.inbound) × IsKept l.initial.self l.self × TellsEnd l.initial.self l.self
    × RestStays l.initial.self l.self
    × TellsRefused l.stream-items l.stream-index l.initial.self l.self
