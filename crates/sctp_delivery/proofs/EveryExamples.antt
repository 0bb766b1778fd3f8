-- The least session in which a message that is read is no write: the sender resets a stream, and the receiver does not.
use Rattle.sctp_delivery.proofs.Names.{◌≡◌, true, false, List, [], ◌∷◌, refl, arith, Binary, New, Contains, ChunkPayloadData}
use Rattle.sctp_delivery.proofs.Names.{InboundStream, after_acked, OutboundStream, reads, sends, takes, writes, Session, of_receiver, after_ordered_push}
use Rattle.sctp_delivery.proofs.Names.{of_sender, ReceiverFollows, SenderFollows, IsWrite, Write, written_to, zero, suc, ap, less_by, wrote, length}
use Rattle.sctp_delivery.proofs.Names.{sym, ◌∙◌}
use Rattle.sctp_sender.specs.Outgoing.{from_first}
use Rattle.sctp_stream.specs.Stream.{new_stream}
use Rattle.sctp_data.specs.ChunkSet.{fresh}
use Rattle.sctp_receiver.specs.Inbound as inbound
use Rattle.sctp_receiver.specs.Receiver as receiver
use Rattle.sctp_sender.specs.Settings.{reset_on}
use Rattle.sctp_util.specs.Serial.{at_or_before, at_or_before16, comes_before, comes_before16, distance, distance16}
use Rattle.sctp_delivery.specs.EveryCall.{AnyCall, RunsAny, SenderDoes, is_single, is_steady, makes, of_sending, resets}
use Rattle.sctp_delivery.specs.ReceiverCalls as incoming
use Rattle.sctp_delivery.specs.ReceiverCalls.{reports}
use Rattle.sctp_delivery.specs.SenderCalls as outgoing
use Rattle.sctp_delivery.proofs.Examples.{acks, after_chunk, after_send, by-receiver, by-sender, chunk, first_chunk, in_flight, opened, opens, receiving}
use Rattle.sctp_delivery.proofs.Examples.{sack_of}
use Rattle.sctp_delivery.proofs.Examples.{sending, sends-one, start, taken, takes-one, both_open, opens-too, writes-byte, written, writes-one}

-- the message came, and was not read; it is acknowledged
abbrev reported : Session
reported = receiving (reports 1000) taken.receiving.receiver taken

reports-one : ReceiverFollows (reports 1000) taken reported
reports-one = by-receiver (reports 1000) taken.receiving.receiver taken tt refl tt

abbrev acknowledged : Session
acknowledged = sending (acks 10 in_flight.sending.sender) (after_acked (sack_of 10) in_flight.sending.sender) reported

takes-sack : SenderFollows (acks 10 in_flight.sending.sender) reported acknowledged
unfolding at_or_before at_or_before16 comes_before comes_before16 distance distance16
takes-sack = by-sender (acks 10 in_flight.sending.sender) acknowledged.sending.sender reported (0, omega arith, refl) refl refl refl refl

-- so the sender may reset the stream: the next message has the number 0 again
abbrev reset : Session
reset = record acknowledged { sending = record acknowledged.sending { sender = reset_on 1 acknowledged.sending.sender } }

resets-it : SenderDoes (resets 1) acknowledged reset
unfolding at_or_before at_or_before16 comes_before comes_before16 distance distance16
resets-it = record {
  handed = tt;
  step = record { sender = refl; written = refl; released = refl; taken_back = refl };
  exact = tt;
  accepted = refl;
  after = refl;
}

-- it is written, sent, taken and read
abbrev line : OutboundStream
line = from_first (less_by 1 (wrote Binary (7 ∷ []) (new_stream 1 1200)))

abbrev two_written : Session
two_written = sending (writes 1 Binary (8 ∷ [])) (written_to line 1 Binary (8 ∷ []) reset.sending.sender) reset

writes-two : SenderFollows (writes 1 Binary (8 ∷ [])) reset two_written
unfolding at_or_before at_or_before16 comes_before comes_before16 distance distance16
writes-two =
    by-sender (writes 1 Binary (8 ∷ [])) two_written.sending.sender reset tt refl (writes-byte 8 line reset.sending.sender refl) refl tt

abbrev two_sent : Session
two_sent = sending (sends 6) (after_send 6 two_written.sending.sender) two_written

sends-two : SenderFollows (sends 6) two_written two_sent
unfolding at_or_before at_or_before16 comes_before comes_before16 distance distance16
sends-two = by-sender (sends 6) two_sent.sending.sender two_written tt refl refl refl tt

abbrev second : ChunkPayloadData
second = fresh (record (first_chunk (8 ∷ [])) { tsn = 11 })

abbrev in_line : InboundStream
in_line = inbound.with_queue (after_ordered_push chunk (inbound.new_stream 1 65536).queue) (inbound.new_stream 1 65536)

abbrev two_taken : Session
two_taken = receiving (takes second (New true)) (after_chunk second in_line two_sent.receiving.receiver) two_sent

takes-two : ReceiverFollows (takes second (New true)) two_sent two_taken
unfolding at_or_before at_or_before16 comes_before comes_before16 distance distance16
takes-two =
    by-receiver (takes second (New true)) two_taken.receiving.receiver two_sent (0, omega arith, refl) (record {
      stream = in_line;
      found = refl;
      queue = after_ordered_push second in_line.queue;
      pushed = (refl, refl);
      after = refl;
    }) (refl, refl)

abbrev both_read : Session
both_read = receiving (reads 1) (receiver.after_read 1 two_taken.receiving.receiver) two_taken

reads-both : ReceiverFollows (reads 1) two_taken both_read
unfolding at_or_before at_or_before16 comes_before comes_before16 distance distance16
reads-both = by-receiver (reads 1) both_read.receiving.receiver two_taken tt refl refl

-- the calls from where the first message came
abbrev rest : List AnyCall
rest =
    makes (of_receiver (reports 1000)) ∷ makes (of_sender (acks 10 in_flight.sending.sender)) ∷ of_sending (resets 1)
    ∷ makes (of_sender (writes 1 Binary (8 ∷ []))) ∷ makes (of_sender (sends 6)) ∷ makes (of_receiver (takes second (New true)))
    ∷ makes (of_receiver (reads 1)) ∷ []

abbrev calls : List AnyCall
calls =
    makes (of_sender (outgoing.opens 1)) ∷ makes (of_sender (writes 1 Binary (7 ∷ []))) ∷ makes (of_sender (sends 5))
    ∷ makes (of_receiver (incoming.opens 1)) ∷ makes (of_receiver (takes chunk (New true))) ∷ rest

goes-on : RunsAny taken rest both_read
goes-on = (
  reported,
  (
    reports-one,
    (
      acknowledged,
      (takes-sack, (reset, (resets-it, (two_written, (writes-two, (two_sent, (sends-two, (two_taken, (takes-two, (both_read, (reads-both, refl))))))))))),
    ),
  ),
)

session : RunsAny start calls both_read
session = (opened, (opens, (written, (writes-one, (in_flight, (sends-one, (both_open, (opens-too, (taken, (takes-one, goes-on))))))))))

-- both messages were read as one
joined : both_read.receiving.read ≡ record { stream = 1; fragments = chunk ∷ second ∷ [] } ∷ []
unfolding at_or_before at_or_before16 comes_before comes_before16 distance distance16
joined = refl

-- which is no write; a fragment begins inside it, and its stream was reset
no-write : (w : Write) → Contains both_read.written w → IsWrite (record { stream = 1; fragments = chunk ∷ second ∷ [] }) w → ⊥
no-write w (zero, lt, e) i =
    let a : 8 ∷ [] ≡ w.bytes = ap (λ (x : Write). x.bytes) e in
    let n = ap length (i.bytes ∙ sym a) in
    absurd (omega (arith, n))
no-write w (suc zero, lt, e) i =
    let a : 7 ∷ [] ≡ w.bytes = ap (λ (x : Write). x.bytes) e in
    let n = ap length (i.bytes ∙ sym a) in
    absurd (omega (arith, n))
no-write w (suc (suc k), lt, e) i = absurd (omega (arith, lt))

not-single : (is_single (chunk ∷ second ∷ []) ≡ false) × (is_steady calls 1 ≡ false)
not-single = (refl, refl)
