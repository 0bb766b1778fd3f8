-- A small session in which an unordered message is not read, though nothing was abandoned: the receiver drops its chunk. So the law on what is read in
-- the end needs the messages of which chunks are dropped.
use Rattle.sctp_delivery.proofs.Names.{◌≡◌, true, List, [], ◌∷◌, refl, arith, ℕ, StandAt, Contains, Binary, Reliable, ChunkPayloadData, OutboundStream}
use Rattle.sctp_delivery.proofs.Names.{sends, writes, written_to, Session, ReceiverFollows, SenderFollows, of_receiver, of_sender, is_exhausted, after_acked}
use Rattle.sctp_data.specs.ChunkSet.{fresh}
use Rattle.sctp_sender.specs.Outgoing.{with_mode}
use Rattle.sctp_sender.specs.Sender.{with_mode_on}
use Rattle.sctp_stream.specs.Stream.{new_stream}
use Rattle.sctp_util.specs.Serial.{at_or_before, at_or_before16, comes_before, comes_before16, distance, distance16}
use Rattle.sctp_delivery.specs.EveryCall.{AnyCall, ReceiverDoes, RunsAny, discards, makes, of_receiving, single_messages}
use Rattle.sctp_delivery.specs.EveryEnd.{IsLeftOn, IsUnorderedReadInTheEnd, abandoned_any, dropped_any}
use Rattle.sctp_delivery.specs.EveryOrder.{is_unbroken}
use Rattle.sctp_delivery.specs.ReceiverCalls.{reports}
use Rattle.sctp_delivery.specs.SenderCalls as outgoing
use Rattle.sctp_delivery.proofs.Examples.{acks, after_send, by-receiver, by-sender, first_chunk, opened, opens, receiving, sack_of, sending, start, writes-byte}

-- stream 1 is in unordered mode
abbrev unordered : Session
unordered = sending (outgoing.sets_mode 1 true Reliable 0) (with_mode_on 1 true Reliable 0 opened.sending.sender) opened

sets-mode : SenderFollows (outgoing.sets_mode 1 true Reliable 0) opened unordered
sets-mode = by-sender (outgoing.sets_mode 1 true Reliable 0) unordered.sending.sender opened tt refl tt refl tt

abbrev line : OutboundStream
line = with_mode true Reliable 0 (new_stream 1 1200)

abbrev written : Session
written = sending (writes 1 Binary (7 ∷ [])) (written_to line 1 Binary (7 ∷ []) unordered.sending.sender) unordered

writes-one : SenderFollows (writes 1 Binary (7 ∷ [])) unordered written
writes-one = by-sender (writes 1 Binary (7 ∷ [])) written.sending.sender unordered tt refl (writes-byte 7 line unordered.sending.sender refl) refl tt

abbrev in_flight : Session
in_flight = sending (sends 5) (after_send 5 written.sending.sender) written

sends-one : SenderFollows (sends 5) written in_flight
sends-one = by-sender (sends 5) in_flight.sending.sender written tt refl refl refl tt

-- its chunk is dropped
abbrev chunk : ChunkPayloadData
chunk = fresh (record (first_chunk (7 ∷ [])) { unordered = true })

abbrev dropped : Session
dropped = record in_flight { receiving = record in_flight.receiving { receiver = record in_flight.receiving.receiver { cumulative_tsn = 10 } } }

drops-one : ReceiverDoes (discards chunk) in_flight dropped
unfolding at_or_before at_or_before16 comes_before comes_before16 distance distance16
drops-one = record { handed = (0, omega arith, refl); step = record { receiver = refl; accepted = refl; read = refl }; accepted = refl; after = refl }

-- and acknowledged
abbrev reported : Session
reported = receiving (reports 1000) dropped.receiving.receiver dropped

reports-one : ReceiverFollows (reports 1000) dropped reported
reports-one = by-receiver (reports 1000) dropped.receiving.receiver dropped tt refl tt

abbrev acknowledged : Session
acknowledged = sending (acks 10 in_flight.sending.sender) (after_acked (sack_of 10) in_flight.sending.sender) reported

takes-sack : SenderFollows (acks 10 in_flight.sending.sender) reported acknowledged
unfolding at_or_before at_or_before16 comes_before comes_before16 distance distance16
takes-sack = by-sender (acks 10 in_flight.sending.sender) acknowledged.sending.sender reported (0, omega arith, refl) refl refl refl refl

abbrev calls : List AnyCall
calls =
    makes (of_sender (outgoing.opens 1)) ∷ makes (of_sender (outgoing.sets_mode 1 true Reliable 0)) ∷ makes (of_sender (writes 1 Binary (7 ∷ [])))
    ∷ makes (of_sender (sends 5)) ∷ of_receiving (discards chunk) ∷ makes (of_receiver (reports 1000))
    ∷ makes (of_sender (acks 10 in_flight.sending.sender)) ∷ []

abbrev session : RunsAny start calls acknowledged
session = (
  opened,
  (
    opens,
    (
      unordered,
      (
        sets-mode,
        (
          written,
          (
            writes-one,
            (
              in_flight,
              (
                sends-one,
                (
                  dropped,
                  (
                    drops-one,
                    (
                      reported,
                      (
                        reports-one,
                        (
                          acknowledged,
                          (
                            takes-sack,
                            refl,
                          ),
                        ),
                      ),
                    ),
                  ),
                ),
              ),
            ),
          ),
        ),
      ),
    ),
  ),
)

-- in the end nothing was abandoned, and the message is one of which a chunk was dropped
tells : (abandoned_any start calls acknowledged session ≡ []) × (dropped_any start calls acknowledged session ≡ 0 ∷ []) × (is_unbroken calls 1 ≡ true)
unfolding at_or_before at_or_before16 comes_before comes_before16 distance distance16
tells = (refl, refl, refl)

nothing-left : is_exhausted acknowledged.sending.sender acknowledged.receiving.receiver ≡ true
unfolding at_or_before at_or_before16 comes_before comes_before16 distance distance16
nothing-left = refl

left : IsLeftOn true 1 [] calls acknowledged 0
left = record { inside = omega arith; on = λ w. refl; kind = refl; left = refl }

none-there : (ps : List ℕ) → StandAt acknowledged.written (single_messages acknowledged.receiving.read) ps → Contains ps 0 → ⊥
none-there [] s c = let lt = c.1 in absurd (omega (arith, lt))
none-there (p ∷ ps) s c = absurd s

-- if it were not, the law would be false
falls : IsUnorderedReadInTheEnd [] calls acknowledged → ⊥
falls law = let x = law nothing-left in none-there x.0 x.1 (x.3 1 refl 0 left)
