-- What a SHUTDOWN makes of the sending half: it acknowledges as a SACK without blocks does, and leaves the peer's window (RFC 9260 3.3.8, 6.3, 7.2, 9.2).
use Rattle.std.specs.Prelude.{◌≡◌, ⊤, ℕ, ◌==◌, ◌||◌, Bool, true, false, not, if◌then◌else◌, List, drop, None, is_some}
use Rattle.sctp_association.specs.Acks.{acked_by, grown_by, without_blocks}
use Rattle.sctp_association.specs.Paths.{cleared_by, measured_by, sent_once, trips_of}
use Rattle.sctp_association.specs.Sending.{flight_of, t3_after}
use Rattle.sctp_association.specs.declared.association.arrivals.Step.{Step}
use Rattle.sctp_association.specs.declared.association.arrivals.Step.TheVariants.{Next, Stop, Cut, Refused}
use Rattle.sctp_association.specs.declared.outbound.Outbound.{Outbound}
use Rattle.sctp_chunks.specs.Wire.{shutdown_chunk}
use Rattle.sctp_datagram.specs.Framing.{StartsWith}
use Rattle.sctp_sender.specs.Flight.{Flight, is_outdated, released_by, sack_refusal}
use Rattle.sctp_sender.specs.Sender.{Transmission, after_acked}
use Rattle.sctp_sender.specs.Thresholds.{with_lows}
use Rattle.sctp_sender.specs.declared.sender.flight.Released.{Released}

-- the sender behind it
abbrev pub passed_with : (tsn : ℕ) → Transmission → Transmission
passed_with tsn t = after_acked (without_blocks tsn) t

-- the chunks that it acknowledges anew
abbrev pub passed_by : (tsn : ℕ) → Transmission → List Released
passed_by tsn t = with_lows (released_by (without_blocks tsn) t.flight) t.streams

-- it acknowledges nothing: it is outdated, or acknowledges what was not sent
abbrev pub passes_nothing : (tsn : ℕ) → Flight → Bool
passes_nothing tsn f =
    is_outdated (without_blocks tsn) f || is_some (sack_refusal (without_blocks tsn) f)

-- what it acknowledges is followed; T3-rtx stops where the cumulative TSN advances (RFC 9260 6.3.2)
pub record IsPassed (tsn now : ℕ) (old new : Outbound) : Type 0 where
  pub sender : new.sender ≡ passed_with tsn old.sender
  pub congestion : new.congestion ≡ grown_by (acked_by old.sender.flight.acked_tsn
      (flight_of old.sender.flight.queue.inflight.chunks) (passed_by tsn old.sender)
      (passed_with tsn old.sender)) (passed_by tsn old.sender) old.congestion
  pub trips : trips_of new
      ≡ measured_by now (sent_once (passed_by tsn old.sender)) (trips_of old)
  pub failures : new.failures
      ≡ cleared_by old.peer_window (passed_by tsn old.sender) old.failures
  pub timer : new.timer.at ≡ (
      if not ((passed_with tsn old.sender).flight.acked_tsn == old.sender.flight.acked_tsn)
      then None else old.timer.at)
  pub rest : new ≡ record old {
    sender = new.sender;
    congestion = new.congestion;
    rto = new.rto;
    measured = new.measured;
    failures = new.failures;
    timer = new.timer;
    burst = None;
    is_skip_due = true;
  }

-- then T3-rtx runs while something is in flight
pub record FollowsShutdown (tsn now : ℕ) (old new : Outbound) : Type 0 where
  pub passed : Outbound
  pub passes : IsPassed tsn now old passed
  pub timer : new.timer.at
      ≡ t3_after now passed.rto.rto passed.sender.flight.queue.inflight.chunks passed.timer.at
  pub rest : new ≡ record passed { timer = new.timer }

-- so it is, unless it acknowledges nothing: then nothing changes
abbrev pub ShutsBy : (tsn now : ℕ) → (old new : Outbound) → Type 0
ShutsBy tsn now old new = (passes_nothing tsn old.sender.flight ≡ true → new ≡ old)
    × (passes_nothing tsn old.sender.flight ≡ false → FollowsShutdown tsn now old new)

-- so it is of the SHUTDOWN at a place
pub record ShutsAt (at : ℕ) (datagram : List ℕ) (now : ℕ) (old new : Outbound) : Type 0 where
  pub tsn : ℕ
  pub reads : StartsWith (drop at datagram) (shutdown_chunk tsn)
  pub shuts : ShutsBy tsn now old new

-- so it is of one that is taken; it does not end the association
abbrev pub ShutsOn : (at : ℕ) → List ℕ → (now : ℕ) → Step → (old new : Outbound) → Type 0
ShutsOn at datagram now Next old new = ShutsAt at datagram now old new
ShutsOn at datagram now Stop old new = ⊥
ShutsOn at datagram now Cut old new = ⊥
ShutsOn at datagram now (Refused r) old new = ⊤
