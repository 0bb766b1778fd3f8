-- What a SACK makes of the sending half: cwnd, ssthresh, the RTO, T3-rtx and the peer's window (RFC 9260 6.2.1, 6.3, 7.2). Moments are nanoseconds.
use Rattle.std.specs.Prelude.{◌≡◌, ◌⊎◌, ℕ, ◌+◌, ◌-◌, ◌%◌, ◌^◌, ◌==◌, ⊤, Bool, true, false, not, ◌&&◌, ◌||◌, nat_le, nat_lt, if◌then◌else◌, List, [], ◌∷◌}
use Rattle.std.specs.Prelude.{length, drop, slice_get, Option, Some, None, is_some, unwrap_or}
use Rattle.std.specs.List.{list_all}
use Rattle.sctp_association.specs.Acks.{acked_by, grown_by}
use Rattle.sctp_association.specs.Arrivals.{without_gaps}
use Rattle.sctp_association.specs.Coming.{goes_on}
use Rattle.sctp_association.specs.Sending.{flight_of, t3_after}
use Rattle.sctp_association.specs.declared.association.Association.{Association}
use Rattle.sctp_association.specs.declared.association.arrivals.Step.{Step}
use Rattle.sctp_association.specs.declared.association.arrivals.Step.TheVariants.{Next}
use Rattle.sctp_association.specs.declared.outbound.Outbound.{Outbound}
use Rattle.sctp_chunks.specs.Wire.{sack_chunk}
use Rattle.sctp_data.specs.SelectiveAck.{Sack}
use Rattle.sctp_data.specs.declared.chunk.chunk_selective_ack.GapAckBlock.{GapAckBlock}
use Rattle.sctp_datagram.specs.Framing.{StartsWith}
use Rattle.sctp_datagram.specs.declared.datagram.ChunkPlace.{ChunkPlace}
use Rattle.sctp_path.specs.Congestion.{Control, after_loss, after_repeats}
use Rattle.sctp_path.specs.Rto.{Timeout, after_trip}
use Rattle.sctp_path.specs.declared.failures.Failures.{Failures}
use Rattle.sctp_sender.specs.Flight.{Flight, is_outdated, released_by}
use Rattle.sctp_sender.specs.Resending.{after_misses, count_before, thirds}
use Rattle.sctp_sender.specs.Sender.{Transmission, after_acked, after_take_back, taken_back_by, with_flight}
use Rattle.sctp_sender.specs.Thresholds.{with_lows}
use Rattle.sctp_sender.specs.declared.sender.flight.Released.{Released}
use Rattle.sctp_serial.specs.DataChunks.{preceding_tsn}
use Rattle.sctp_stream.specs.Stats.{count_up}
use Rattle.sctp_util.specs.Serial.{distance}

-- ## Round trips (6.3.1)

-- an acknowledgement of the chunk tells a round trip: it was sent once (C5), and was not abandoned
abbrev pub tells_trip : Released → Bool
tells_trip one = (one.nsent == 1) && nat_lt 0 one.bytes

-- when the last of these was sent that tells a round trip; where none does it is the moment that is handed in
abbrev pub sent_after : Option ℕ → List Released → Option ℕ
sent_after since [] = since
sent_after since (one ∷ more) =
    sent_after (if tells_trip one then one.since else since) more

abbrev pub sent_once : List Released → Option ℕ
sent_once gone = sent_after None gone

-- the RTO, and when a round trip was measured last
pub record Trips : Type 0 where
  pub rto : Timeout
  pub measured : ℕ

abbrev pub trips_of : Outbound → Trips
trips_of o = record { rto = o.rto; measured = o.measured }

-- a round trip is measured now, by a chunk that was sent at this moment
abbrev pub with_trip : (now since : ℕ) → Trips → Trips
with_trip now since t = record { rto = after_trip (now - since) t.rto; measured = now }

-- one is measured in each round trip: only by a chunk that was sent since the last one was (C4)
abbrev pub measured_by : (now : ℕ) → Option ℕ → Trips → Trips
measured_by now None t = t
measured_by now (Some since) t = if nat_le t.measured since then with_trip now since t else t

-- one is measured as Fast Recovery begins, unless that was done at this moment (7.2.4): what is sent again waits in the queue that just overflowed
abbrev pub measured_again : (recovers : Bool) → (now : ℕ) → Option ℕ → Trips → Trips
measured_again recovers now None t = t
measured_again recovers now (Some since) t =
    if recovers || (t.measured == now) then t else with_trip now since t

-- ## What is acknowledged (6.2.1)

-- the gap ack blocks of a SACK are passed over where the peer took back as many chunks as may be in flight
abbrev pub taken_as : Sack → Outbound → Sack
taken_as s o = if nat_le o.most_in_flight o.came_back then without_gaps s else s

-- the sender behind the SACK: what it no longer reports comes back first
abbrev pub acked_with : Sack → Transmission → Transmission
acked_with s t = after_acked s (after_take_back s t)

-- the chunks that it acknowledges anew
abbrev pub gone_by : Sack → Transmission → List Released
gone_by s t =
    let back = after_take_back s t in with_lows (released_by s back.flight) back.streams

-- the Cumulative TSN Ack Point moves
abbrev pub advances : Sack → Transmission → Bool
advances s t = not ((acked_with s t).flight.acked_tsn == t.flight.acked_tsn)

-- how many chunks came back, less those that the cumulative TSN passed since
abbrev pub came_back_by : Sack → Outbound → ℕ
came_back_by s o = count_up
    (o.came_back - distance o.sender.flight.acked_tsn (acked_with s o.sender).flight.acked_tsn)
    (length (taken_back_by s o.sender))

-- cwnd and ssthresh: first by its Duplicate TSNs, then by what it acknowledges (7.2.1, 7.2.2)
abbrev pub grown : Sack → Outbound → Control
grown s o =
    let gone = gone_by s o.sender in
    let flight = flight_of o.sender.flight.queue.inflight.chunks in
    grown_by (acked_by o.sender.flight.acked_tsn flight gone (acked_with s o.sender)) gone
    (after_repeats s.duplicate_tsn o.congestion)

-- no failure is left where something is acknowledged, nor where a window of 0 was probed (6.1 A, 8.1)
abbrev pub cleared_by : (peer_window : ℕ) → List Released → Failures → Failures
cleared_by peer_window gone f =
    if (length gone == 0) && not (peer_window == 0) then f else record f { count = 0 }

-- the SACK is taken, and what it acknowledges is followed; T3-rtx stops where the cumulative TSN advances (RFC 9260 6.3.2)
pub record IsAcked (s : Sack) (now : ℕ) (old new : Outbound) : Type 0 where
  pub sender : new.sender ≡ acked_with s old.sender
  pub came_back : new.came_back ≡ came_back_by s old
  pub peer_window : new.peer_window ≡ s.advertised_receiver_window_credit
  pub congestion : new.congestion ≡ grown s old
  pub trips : trips_of new ≡ measured_by now (sent_once (gone_by s old.sender)) (trips_of old)
  pub failures : new.failures
      ≡ cleared_by s.advertised_receiver_window_credit (gone_by s old.sender) old.failures
  pub timer : new.timer.at ≡ (if advances s old.sender then None else old.timer.at)
  pub rest : new ≡ record old {
    sender = new.sender;
    came_back = new.came_back;
    peer_window = new.peer_window;
    congestion = new.congestion;
    rto = new.rto;
    measured = new.measured;
    failures = new.failures;
    timer = new.timer;
    burst = None;
    is_skip_due = true;
  }

-- ## What is missing (7.2.4)

abbrev pub last_of : {A : Type 0} → List A → Option A
last_of all = slice_get all (length all - 1)

-- The TSN before which chunks are missing: the highest that is acknowledged anew; in Fast Recovery, where the cumulative TSN advances, the highest
-- that the SACK reports. None where it reports no gap, or that chunk was sent before T3-rtx expired
abbrev pub missing_by : (cumulative timed_out : ℕ) → (reported : Bool) → Option GapAckBlock
    → Option Released → Option ℕ
missing_by cumulative timed_out reported None one = None
missing_by cumulative timed_out reported (Some block) None = None
missing_by cumulative timed_out reported (Some block) (Some one) =
    if nat_lt (unwrap_or one.since 0) timed_out then None
    else Some (if reported then (cumulative + block.end) % 2 ^ 32 else one.tsn)

abbrev pub missing_before : Sack → List Released → (advances : Bool) → Outbound → Option ℕ
missing_before s gone advances o =
    missing_by s.cumulative_tsn_ack o.timed_out (advances && is_some o.congestion.exit)
    (last_of s.gap_ack_blocks) (last_of gone)

-- of the first so many chunks one is missing for the third time
abbrev pub is_lost : ℕ → Flight → Bool
is_lost count f = nat_lt 0 (length (thirds count f))

-- Fast Recovery begins, with the highest outstanding TSN as its exit point
abbrev pub after_third : Flight → Control → Control
after_third f c = after_loss f.acked_tsn (preceding_tsn f.next_tsn) c.exit c

-- the first so many chunks are missing once more; a third time is a loss
pub record IsMissed (now : ℕ) (since : Option ℕ) (count : ℕ) (old new : Outbound) : Type 0 where
  pub sender : new.sender
      ≡ with_flight (after_misses count old.sender.flight) old.sender
  pub congestion : new.congestion ≡ (if is_lost count old.sender.flight
      then after_third old.sender.flight old.congestion else old.congestion)
  pub trips : trips_of new ≡ (if is_lost count old.sender.flight
      then measured_again (is_some old.congestion.exit) now since (trips_of old)
      else trips_of old)
  pub fast : new.is_fast ≡ (is_lost count old.sender.flight || old.is_fast)
  pub rest : new ≡ record old {
    sender = new.sender;
    congestion = new.congestion;
    rto = new.rto;
    measured = new.measured;
    is_fast = new.is_fast;
  }

-- so it is of those before a TSN, if there is one
abbrev pub IsMissedBefore : (now : ℕ) → (since before : Option ℕ) → (old new : Outbound) → Type 0
IsMissedBefore now since None old new = new ≡ old
IsMissedBefore now since (Some before) old new =
    IsMissed now since (count_before before old.sender.flight) old new

-- ## A SACK

-- it is taken, then what it leaves out is missing, and T3-rtx runs while something is in flight
pub record FollowsSack (s : Sack) (now : ℕ) (old new : Outbound) : Type 0 where
  pub acked : Outbound
  pub missed : Outbound
  pub takes : IsAcked s now old acked
  pub misses : IsMissedBefore now (sent_once (gone_by s old.sender))
      (missing_before s (gone_by s old.sender) (advances s old.sender) acked) acked missed
  pub timer : new.timer.at
      ≡ t3_after now missed.rto.rto missed.sender.flight.queue.inflight.chunks missed.timer.at
  pub rest : new ≡ record missed { timer = new.timer }

-- so it is, unless the SACK is outdated: then nothing changes
abbrev pub MovesBy : Sack → (now : ℕ) → (old new : Outbound) → Type 0
MovesBy s now old new = (is_outdated s old.sender.flight ≡ true → new ≡ old)
    × (is_outdated s old.sender.flight ≡ false → FollowsSack (taken_as s old) now old new)

-- ## The first SACK of a datagram

-- so it is of the SACK at a place
pub record MovesAt (at : ℕ) (datagram : List ℕ) (now : ℕ) (old new : Outbound) : Type 0 where
  pub sack : Sack
  pub reads : StartsWith (drop at datagram) (sack_chunk sack)
  pub moves : MovesBy sack now old new

-- behind each of these chunks the datagram goes on: they are DATA, SACK and FORWARD-TSN
abbrev pub all_go_on : List ChunkPlace → Bool
all_go_on chunks = list_all (λ c. goes_on c.typ) chunks

-- so it is of the first SACK of these; where there is none the sending half stays as it is
abbrev pub MovesByFirst : List ChunkPlace → List ℕ → (now : ℕ) → (old new : Outbound) → Type 0
MovesByFirst [] datagram now old new = new ≡ old
MovesByFirst (c ∷ cs) datagram now old new =
    (c.typ ≡ 3 → MovesAt c.at datagram now old new)
    × ((c.typ ≡ 3 → ⊥) → MovesByFirst cs datagram now old new)

-- so it is, or the association is over
abbrev pub MovesByFirstOf : List ChunkPlace → List ℕ → (now : ℕ) → (old new : Association) → Type 0
MovesByFirstOf chunks datagram now old new =
    (new.is_over ≡ true) ⊎ MovesByFirst chunks datagram now old.outbound new.outbound

-- of the chunks behind one of this type: behind a SACK nothing moves
abbrev pub MovesBehind : (first : ℕ) → List ChunkPlace → List ℕ → (now : ℕ)
    → (old new : Outbound) → Type 0
MovesBehind first chunks datagram now old new =
    (first ≡ 3 → new ≡ old)
    × ((first ≡ 3 → ⊥) → MovesByFirst chunks datagram now old new)

-- a chunk behind which the datagram goes on moves the sending half only where it is a SACK
abbrev pub MovesOn : ChunkPlace → List ℕ → (now : ℕ) → Step → (old new : Outbound) → Type 0
MovesOn c datagram now Next old new =
    (c.typ ≡ 3 → MovesAt c.at datagram now old new) × ((c.typ ≡ 3 → ⊥) → new ≡ old)
MovesOn c datagram now _ old new = ⊤
