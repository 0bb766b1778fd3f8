-- A small session in which ordered messages of a stream are read out of order: the sender closes the stream and opens it again, while chunks of it
-- are in flight. The receiver does neither.
use Rattle.sctp_delivery.proofs.Names.{◌≡◌, ℕ, ◌<◌, true, false, List, [], ◌∷◌, refl, arith, zero, suc, ap, AllPairs, change_where, Binary, New}
use Rattle.sctp_delivery.proofs.Names.{ChunkPayloadData, InboundStream, Reception, StandAt, with_tsn, written_to, after_ordered_push, Message}
use Rattle.sctp_delivery.proofs.Names.{reads, sends, takes, writes, Session, ReceiverFollows, SenderFollows, of_receiver, of_sender}
use Rattle.sctp_data.specs.ChunkSet.{fresh}
use Rattle.sctp_receiver.specs.Inbound as inbound
use Rattle.sctp_receiver.specs.Receiver as receiver
use Rattle.sctp_sender.specs.Sender.{close_stream, open_stream}
use Rattle.sctp_stream.specs.Stream.{new_stream}
use Rattle.sctp_util.specs.Serial.{at_or_before, at_or_before16, comes_before, comes_before16, distance, distance16}
use Rattle.sctp_delivery.specs.EveryCall.{AnyCall, RunsAny, SenderDoes, closes, makes, of_sending, single_messages}
use Rattle.sctp_delivery.specs.EveryOrder.{is_unbroken}
use Rattle.sctp_delivery.specs.Order.{ordered_places}
use Rattle.sctp_delivery.specs.ReceiverCalls as incoming
use Rattle.sctp_delivery.specs.SenderCalls as outgoing
use Rattle.sctp_delivery.proofs.Examples.{after_send, by-receiver, by-sender, first_chunk, in_flight, opened, opens, receiving, second_chunk, sending}
use Rattle.sctp_delivery.proofs.Examples.{sends-one, start, two_written, writes-byte, writes-one, writes-second, written}

-- two messages are in flight, and the stream is closed and opened again
abbrev both_sent : Session
both_sent = sending (sends 6) (after_send 6 two_written.sending.sender) two_written

sends-both : SenderFollows (sends 6) two_written both_sent
unfolding at_or_before at_or_before16 comes_before comes_before16 distance distance16
sends-both = by-sender (sends 6) both_sent.sending.sender two_written tt refl refl refl tt

abbrev closed : Session
closed = record both_sent { sending = record both_sent.sending { sender = close_stream 1 both_sent.sending.sender } }

closes-it : SenderDoes (closes 1) both_sent closed
closes-it = record {
  handed = tt;
  step = record { sender = refl; written = refl; released = refl; taken_back = refl };
  exact = tt;
  accepted = tt;
  after = refl;
}

abbrev anew : Session
anew = sending (outgoing.opens 1) (open_stream 1 closed.sending.sender) closed

opens-anew : SenderFollows (outgoing.opens 1) closed anew
opens-anew = by-sender (outgoing.opens 1) anew.sending.sender closed tt refl tt refl tt

-- the third message has the number of the first one
abbrev three_written : Session
three_written = sending (writes 1 Binary (9 ∷ [])) (written_to (new_stream 1 1200) 1 Binary (9 ∷ []) anew.sending.sender) anew

writes-third : SenderFollows (writes 1 Binary (9 ∷ [])) anew three_written
unfolding at_or_before at_or_before16 comes_before comes_before16 distance distance16
writes-third =
    by-sender (writes 1 Binary (9 ∷ [])) three_written.sending.sender anew tt refl (writes-byte 9 (new_stream 1 1200) anew.sending.sender refl) refl tt

abbrev three_sent : Session
three_sent = sending (sends 7) (after_send 7 three_written.sending.sender) three_written

sends-third : SenderFollows (sends 7) three_written three_sent
unfolding at_or_before at_or_before16 comes_before comes_before16 distance distance16
sends-third = by-sender (sends 7) three_sent.sending.sender three_written tt refl refl refl tt

-- it comes first, and is read
abbrev receiver_open : Session
receiver_open = receiving (incoming.opens 1) (receiver.open_stream 1 three_sent.receiving.receiver) three_sent

opens-receiver : ReceiverFollows (incoming.opens 1) three_sent receiver_open
opens-receiver = by-receiver (incoming.opens 1) receiver_open.receiving.receiver three_sent tt (refl, refl) tt

abbrev third : ChunkPayloadData
third = fresh (record (first_chunk (9 ∷ [])) { tsn = 12 })

-- a receiver with stream 1 alone, after a chunk past others that did not come
abbrev after_early : ChunkPayloadData → InboundStream → Reception → Reception
after_early c l r = receiver.with_filter (with_tsn c.tsn (receiver.filter_of r))
    (record r { streams = change_where (inbound.has_number 1) (inbound.with_queue (after_ordered_push c l.queue)) r.streams })

abbrev third_taken : Session
third_taken =
    receiving (takes third (New true)) (after_early third (inbound.new_stream 1 65536) receiver_open.receiving.receiver) receiver_open

takes-third : ReceiverFollows (takes third (New true)) receiver_open third_taken
unfolding at_or_before at_or_before16 comes_before comes_before16 distance distance16
takes-third =
    by-receiver (takes third (New true)) third_taken.receiving.receiver receiver_open (0, omega arith, refl) (record {
      stream = inbound.new_stream 1 65536;
      found = refl;
      queue = after_ordered_push third (inbound.new_stream 1 65536).queue;
      pushed = (refl, refl);
      after = refl;
    }) (refl, refl)

abbrev third_read : Session
third_read = receiving (reads 1) (receiver.after_read 1 third_taken.receiving.receiver) third_taken

reads-third : ReceiverFollows (reads 1) third_taken third_read
unfolding at_or_before at_or_before16 comes_before comes_before16 distance distance16
reads-third = by-receiver (reads 1) third_read.receiving.receiver third_taken tt refl refl

-- then the second one comes, and is read
abbrev line : InboundStream
line = inbound.stream_read (inbound.with_queue (after_ordered_push third (inbound.new_stream 1 65536).queue) (inbound.new_stream 1 65536))

abbrev second_taken : Session
second_taken = receiving (takes second_chunk (New true)) (after_early second_chunk line third_read.receiving.receiver) third_read

takes-second : ReceiverFollows (takes second_chunk (New true)) third_read second_taken
unfolding at_or_before at_or_before16 comes_before comes_before16 distance distance16
takes-second =
    by-receiver (takes second_chunk (New true)) second_taken.receiving.receiver third_read (1, omega arith, refl) (record {
      stream = line;
      found = refl;
      queue = after_ordered_push second_chunk line.queue;
      pushed = (refl, refl);
      after = refl;
    }) (refl, refl)

abbrev second_read : Session
second_read = receiving (reads 1) (receiver.after_read 1 second_taken.receiving.receiver) second_taken

reads-second : ReceiverFollows (reads 1) second_taken second_read
unfolding at_or_before at_or_before16 comes_before comes_before16 distance distance16
reads-second = by-receiver (reads 1) second_read.receiving.receiver second_taken tt refl refl

-- the calls from where three messages were sent
abbrev rest : List AnyCall
rest =
    makes (of_receiver (incoming.opens 1)) ∷ makes (of_receiver (takes third (New true))) ∷ makes (of_receiver (reads 1))
    ∷ makes (of_receiver (takes second_chunk (New true))) ∷ makes (of_receiver (reads 1)) ∷ []

-- and from where the second was
abbrev later : List AnyCall
later = of_sending (closes 1) ∷ makes (of_sender (outgoing.opens 1)) ∷ makes (of_sender (writes 1 Binary (9 ∷ []))) ∷ makes (of_sender (sends 7)) ∷ rest

abbrev calls : List AnyCall
calls =
    makes (of_sender (outgoing.opens 1)) ∷ makes (of_sender (writes 1 Binary (7 ∷ []))) ∷ makes (of_sender (sends 5))
    ∷ makes (of_sender (writes 1 Binary (8 ∷ []))) ∷ makes (of_sender (sends 6)) ∷ later

ends : RunsAny three_sent rest second_read
ends = (
  receiver_open,
  (opens-receiver, (third_taken, (takes-third, (third_read, (reads-third, (second_taken, (takes-second, (second_read, (reads-second, refl))))))))),
)

goes-on : RunsAny both_sent later second_read
goes-on = (closed, (closes-it, (anew, (opens-anew, (three_written, (writes-third, (three_sent, (sends-third, ends))))))))

session : RunsAny start calls second_read
session = (opened, (opens, (written, (writes-one, (in_flight, (sends-one, (two_written, (writes-second, (both_sent, (sends-both, goes-on))))))))))

-- the second message was read behind the third
abbrev two_read : List Message
two_read = record { stream = 1; fragments = second_chunk ∷ [] } ∷ record { stream = 1; fragments = third ∷ [] } ∷ []

read-last : second_read.receiving.read ≡ two_read
unfolding at_or_before at_or_before16 comes_before comes_before16 distance distance16
read-last = refl

abbrev first_byte : List ℕ → ℕ
first_byte [] = 0
first_byte (b ∷ bs) = b

-- each is the write with its byte, and the place of the later one is the greater one
no-order : (ps : List ℕ) → StandAt second_read.written (single_messages two_read) ps
    → AllPairs (λ p q. p < q) (ordered_places 1 (single_messages two_read) ps) → ⊥
no-order [] s h = absurd s
no-order (p ∷ []) s h = absurd s.1
no-order (p ∷ q ∷ r ∷ ps) s h = absurd s.1.1
no-order (suc zero ∷ zero ∷ []) s h = let lt = h 0 1 0 (omega arith) (omega arith) in absurd (omega (arith, lt))
no-order (zero ∷ q ∷ []) s h =
    let e = ap first_byte (s.0.1 (record { stream = 1; payload_type = Binary; bytes = [] })).bytes in absurd (omega (arith, e))
no-order (suc (suc zero) ∷ q ∷ []) s h =
    let e = ap first_byte (s.0.1 (record { stream = 1; payload_type = Binary; bytes = [] })).bytes in absurd (omega (arith, e))
no-order (suc (suc (suc p)) ∷ q ∷ []) s h = let lt = s.0.0 in absurd (omega (arith, lt))
no-order (suc zero ∷ suc zero ∷ []) s h =
    let e = ap first_byte (s.1.0.1 (record { stream = 1; payload_type = Binary; bytes = [] })).bytes in absurd (omega (arith, e))
no-order (suc zero ∷ suc (suc zero) ∷ []) s h =
    let e = ap first_byte (s.1.0.1 (record { stream = 1; payload_type = Binary; bytes = [] })).bytes in absurd (omega (arith, e))
no-order (suc zero ∷ suc (suc (suc q)) ∷ []) s h = let lt = s.1.0.0 in absurd (omega (arith, lt))

-- the sender breaks the stream off
broken : is_unbroken calls 1 ≡ false
broken = refl
