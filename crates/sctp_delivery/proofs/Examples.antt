-- Worked sessions, by computation: a message of one byte is written, sent, taken, read and acknowledged.
use Rattle.sctp_delivery.proofs.Names.{◌≡◌, ℕ, ◌<◌, true, false, List, [], ◌∷◌, Some, None, refl, ap, arith, inl, sym, ◌∙◌, Bool, get_or, subst, zero, suc, ◌+◌}
use Rattle.sctp_delivery.proofs.Names.{◌-◌, AllPairs, ◌==◌, if◌then◌else◌, All, Contains, nat_eq, filter, list_all, list_any, change_where, some-same}
use Rattle.sctp_delivery.proofs.Names.{ChunkPayloadData, Binary, Reliable, Data, Sack, sent_next, New, NamedStreamUnknown, InboundStream, Reception, has_come}
use Rattle.sctp_delivery.proofs.Names.{after_ordered_push, released_by, next_after_send, message_to_abandon, Transmission, after_acked, with_flight, written_to}
use Rattle.sctp_delivery.proofs.Names.{after_abandon, held_by_sender, with_lows, OutboundStream, Message, fragments_held, holds_nothing, is_exhausted}
use Rattle.sctp_delivery.proofs.Names.{is_reliable, reads_nothing, is_all_acknowledged, chunks_waiting, takes_each_of, reads, takes, ReceiverCall, follows}
use Rattle.sctp_delivery.proofs.Names.{IsInFlight, is_takable, MayMake, is_due_named, is_reported, reports_tsn, tsns_given, was_passed, was_taken, data_chunk}
use Rattle.sctp_delivery.proofs.Names.{made_after, sends, takes_sack, writes, written_after, Answers, MakesExactly, SenderCall, abandons, forwards, Call}
use Rattle.sctp_delivery.proofs.Names.{ReceiverFollows, RunsTo, SenderFollows, Session, at_start, of_receiver, of_sender, IsReported, none-some, not_both}
use Rattle.sctp_delivery.proofs.Names.{ForwardTsn, after_forward_tsn, skip_refusal, last_of, AbandonedMessage, Name, advanced_ack_point, named_up_to, pairs_of}
use Rattle.sctp_delivery.proofs.Names.{skip_end, wrote, IsCaughtUp, IsRound, Rounds, chunks_left, EachOtherIsReadOnce, abandoned_in, abandoned_by}
use Rattle.std.specs.Prelude.{◌≤◌, ◌^◌, length}
use Rattle.sctp_util.specs.Serial.{at_or_before, at_or_before16, comes_before, comes_before16, distance, distance16}
use Rattle.sctp_data.specs.ChunkSet.{fresh}
use Rattle.sctp_receiver.specs.declared.receiver.refusal.ReceiverRefusal.TheVariants.{StreamUnknown}
use Rattle.sctp_receiver.specs.Inbound as inbound
use Rattle.sctp_receiver.specs.Receiver as receiver
use Rattle.sctp_sender.specs.Sender.{open_stream, with_nothing, stream_of}
use Rattle.sctp_stream.specs.Stream.{new_stream}
use Rattle.sctp_delivery.specs.Complete.{is_settled}
use Rattle.sctp_delivery.specs.Ending.{CanEnd, has_room, has_window}
use Rattle.sctp_delivery.specs.Order.{ordered_places}
use Rattle.sctp_delivery.specs.ReceiverCalls as incoming
use Rattle.sctp_delivery.specs.ReceiverCalls.{reports}
use Rattle.sctp_delivery.specs.SenderCalls as outgoing
use Rattle.sctp_delivery.specs.SenderCalls.{Writes}
use Rattle.sctp_delivery.specs.Session.{IsSent}
use Rattle.sctp_delivery.proofs.Every.{all-of-every}
use Rattle.sctp_sender.specs.SenderRuns as sender_runs
use Rattle.sctp_receiver.specs.ReceiverRuns as receiver_runs
use Rattle.sctp_delivery.specs.Rounds as rounds
use Rattle.sctp_delivery.proofs.EndWindows.{all-end}
use Rattle.sctp_delivery.proofs.Stands.{sender_after, sender-follows, receiver_after, receiver-follows}

-- ## Calls

-- a session after a call of the sender by which this becomes of the sender
abbrev pub sending : SenderCall → Transmission → Session → Session
sending call t s = sender_after call s t

pub by-sender : (call : SenderCall) (t : Transmission) (s : Session) → IsReported call s → sender_runs.Makes (outgoing.as_run call) s.sending.sender t
    → MakesExactly call s.sending.sender t → outgoing.IsAccepted call s.sending.sender → Answers call s.sending.sender
    → SenderFollows call s (sending call t s)
by-sender call t s handed made exact accepted answered = sender-follows call s t (made, (exact, (accepted, answered))) handed

-- and after a call of the receiver
abbrev pub receiving : ReceiverCall → Reception → Session → Session
receiving call r s = receiver_after call s r

pub by-receiver : (call : ReceiverCall) (r : Reception) (s : Session) → IsSent call s → receiver_runs.Makes (incoming.as_run call) s.receiving.receiver r
    → incoming.IsAccepted call s.receiving.receiver → ReceiverFollows call s (receiving call r s)
by-receiver call r s handed made accepted = receiver-follows call s r (made, accepted) handed

-- a byte is written on a stream that is open
pub writes-byte : (b : ℕ) (l : OutboundStream) (t : Transmission) → stream_of 1 t ≡ Some l
    → Writes 1 Binary (b ∷ []) t (written_to l 1 Binary (b ∷ []) t)
writes-byte b l t found = ((λ e. cc), λ p k e. ap (λ x. written_to x 1 Binary (b ∷ []) t) (some-same (sym found ∙ e)))

-- the sender after `send_next`
abbrev pub after_send : ℕ → Transmission → Transmission
after_send now t = with_flight (record t.flight { queue = sent_next t.flight.queue t.flight.next_tsn now; next_tsn = next_after_send t.flight }) t

-- a receiver that has this stream 1 alone, after a chunk that is complete and in turn
abbrev pub after_chunk : ChunkPayloadData → InboundStream → Reception → Reception
after_chunk c l r = receiver.with_filter (record (receiver.filter_of r) { cumulative_tsn = c.tsn })
    (record r { streams = change_where (inbound.has_number 1) (inbound.with_queue (after_ordered_push c l.queue)) r.streams })

-- a SACK of all TSNs up to this one
abbrev pub sack_of : ℕ → Sack
sack_of tsn = record { cumulative_tsn_ack = tsn; advertised_receiver_window_credit = 1000; gap_ack_blocks = []; duplicate_tsn = [] }

-- the sender takes it
abbrev pub acks : ℕ → Transmission → SenderCall
acks tsn t = takes_sack (sack_of tsn) (with_lows (released_by (sack_of tsn) t.flight) t.streams)

-- a sender of fragments of up to 1,200 bytes, with stream 1 open and one byte written
abbrev pub waiting : Transmission
waiting =
    written_to (new_stream 1 1200) 1 Binary (7 ∷ []) (open_stream 1 (with_nothing 10 1200 65536))

-- a write counts, but for one of no bytes
counts : (written_after (writes 1 Binary (7 ∷ [])) [] ≡ record { stream = 1; payload_type = Binary; bytes = 7 ∷ [] } ∷ [])
    × (written_after (writes 1 Binary []) [] ≡ [])
counts = (refl, refl)

abbrev pub first_chunk : List ℕ → Data
first_chunk bytes = record {
  unordered = false;
  beginning_fragment = true;
  ending_fragment = true;
  immediate_sack = false;
  tsn = 10;
  stream_identifier = 1;
  stream_sequence_number = 0;
  payload_type = Binary;
  user_data = bytes;
}

-- the chunk that is sent has the first TSN and the byte; where nothing waits none is made
sent : (made_after (sends 5) waiting [] ≡ data_chunk (first_chunk (7 ∷ [])) ∷ []) × (made_after (sends 5) (with_nothing 10 1200 65536) [] ≡ [])
sent = (refl, refl)

-- ## The session

abbrev pub start : Session
start = at_start 10 1200 65536 65536 None

abbrev pub opened : Session
opened = sending (outgoing.opens 1) (open_stream 1 start.sending.sender) start

pub opens : SenderFollows (outgoing.opens 1) start opened
opens = by-sender (outgoing.opens 1) opened.sending.sender start tt refl tt refl tt

abbrev pub written : Session
written = sending (writes 1 Binary (7 ∷ [])) waiting opened

pub writes-one : SenderFollows (writes 1 Binary (7 ∷ [])) opened written
writes-one =
    by-sender (writes 1 Binary (7 ∷ [])) waiting opened tt refl (writes-byte 7 (new_stream 1 1200) opened.sending.sender refl) refl tt

abbrev pub in_flight : Session
in_flight = sending (sends 5) (after_send 5 waiting) written

pub sends-one : SenderFollows (sends 5) written in_flight
sends-one = by-sender (sends 5) (after_send 5 waiting) written tt refl refl refl tt

-- the receiver opens the stream too
abbrev pub both_open : Session
both_open = receiving (incoming.opens 1) (receiver.open_stream 1 start.receiving.receiver) in_flight

pub opens-too : ReceiverFollows (incoming.opens 1) in_flight both_open
opens-too = by-receiver (incoming.opens 1) both_open.receiving.receiver in_flight tt (refl, refl) tt

-- the chunk as reading its packet leaves it
abbrev pub chunk : ChunkPayloadData
chunk = fresh (first_chunk (7 ∷ []))

abbrev pub taken : Session
taken = receiving (takes chunk (New true)) (after_chunk chunk (inbound.new_stream 1 65536) both_open.receiving.receiver) both_open

pub takes-one : ReceiverFollows (takes chunk (New true)) both_open taken
unfolding at_or_before at_or_before16 comes_before comes_before16 distance distance16
takes-one =
    by-receiver (takes chunk (New true)) taken.receiving.receiver both_open (0, omega arith, refl) (record {
      stream = inbound.new_stream 1 65536;
      found = refl;
      queue = after_ordered_push chunk (inbound.new_stream 1 65536).queue;
      pushed = (refl, refl);
      after = refl;
    }) (refl, refl)

abbrev has_read : Session
has_read = receiving (reads 1) (receiver.after_read 1 taken.receiving.receiver) taken

reads-one : ReceiverFollows (reads 1) taken has_read
unfolding at_or_before at_or_before16 comes_before comes_before16 distance distance16
reads-one = by-receiver (reads 1) has_read.receiving.receiver taken tt refl refl

abbrev pub reported : Session
reported = receiving (reports 1000) has_read.receiving.receiver has_read

reports-one : ReceiverFollows (reports 1000) has_read reported
reports-one = by-receiver (reports 1000) has_read.receiving.receiver has_read tt refl tt

abbrev pub acknowledged : Session
acknowledged = sending (acks 10 in_flight.sending.sender) (after_acked (sack_of 10) in_flight.sending.sender) reported

takes-sack : SenderFollows (acks 10 in_flight.sending.sender) reported acknowledged
unfolding at_or_before at_or_before16 comes_before comes_before16 distance distance16
takes-sack = by-sender (acks 10 in_flight.sending.sender) acknowledged.sending.sender reported (0, omega arith, refl) refl refl refl refl

-- what follows the sending
abbrev rest : List Call
rest =
    of_receiver (incoming.opens 1) ∷ of_receiver (takes chunk (New true)) ∷ of_receiver (reads 1) ∷ of_receiver (reports 1000)
    ∷ of_sender (acks 10 in_flight.sending.sender) ∷ []

abbrev goes-on : RunsTo in_flight rest acknowledged
goes-on = (both_open, (opens-too, (taken, (takes-one, (has_read, (reads-one, (reported, (reports-one, (acknowledged, (takes-sack, refl))))))))))

abbrev calls : List Call
calls = of_sender (outgoing.opens 1) ∷ of_sender (writes 1 Binary (7 ∷ [])) ∷ of_sender (sends 5) ∷ rest

abbrev session : RunsTo start calls acknowledged
session = (opened, (opens, (written, (writes-one, (in_flight, (sends-one, goes-on))))))

-- no call abandons, and one write is few; in the end nothing waits, is in flight, is held or is to be read
in-the-end : (held_by_sender acknowledged.sending.sender ≡ 0) × (list_all is_reliable calls ≡ true)
    × (length (filter (λ w. w.stream == 1) acknowledged.written) ≤ 2 ^ 15)
    × (is_exhausted acknowledged.sending.sender acknowledged.receiving.receiver ≡ true)
    × (is_settled acknowledged.sending.sender acknowledged.receiving.receiver ≡ true)
unfolding at_or_before at_or_before16 comes_before comes_before16 distance distance16
in-the-end = (refl, refl, omega arith, refl, refl)

-- before the message was read it was held, and to be read
before-it : (holds_nothing taken.receiving.receiver ≡ false) × (reads_nothing taken.receiving.receiver ≡ false)
    × (fragments_held 1 taken.receiving.receiver ≡ chunk ∷ [])
unfolding at_or_before at_or_before16 comes_before comes_before16 distance distance16
before-it = (refl, refl, refl)

-- ## What the SACK says

-- one TSN was given out; the SACK reports it, and not the next one; its chunk was taken, and no FORWARD-TSN goes there
tells : (tsns_given start calls acknowledged session ≡ 1) × (reports_tsn 10 (sack_of 10) ≡ true) × (reports_tsn 11 (sack_of 10) ≡ false)
    × (was_taken 10 reported ≡ true) × (was_passed 10 reported ≡ false)
unfolding at_or_before at_or_before16 comes_before comes_before16 distance distance16
tells = (refl, refl, refl, refl, refl)

-- the chunk as it is in flight
abbrev flying : ChunkPayloadData
flying = record chunk { since = Some 5; nsent = 1; reliability = Some (Reliable, 0) }

-- it is in flight yet, and not acknowledged: but the SACK reports it
in-flight-yet : (reported.sending.sender.flight.queue.inflight.chunks ≡ flying ∷ []) × (is_reported reported chunk ≡ true)
unfolding at_or_before distance
in-flight-yet = (refl, refl)

-- ## The order of what is read

abbrev of_chunk : ChunkPayloadData → Message
of_chunk c = record { stream = 1; fragments = c ∷ [] }

-- an ordered message, an unordered one and an ordered one were read
abbrev three : List Message
three = of_chunk chunk ∷ of_chunk (record chunk { unordered = true }) ∷ of_chunk chunk ∷ []

-- the places of the ordered ones; on another stream there is none
places : (ordered_places 1 three (0 ∷ 1 ∷ 2 ∷ []) ≡ 0 ∷ 2 ∷ []) × (ordered_places 2 three (0 ∷ 1 ∷ 2 ∷ []) ≡ [])
places = (refl, refl)

-- the write at place 2 is older than that at place 0, so it may not be read later
not-in-order : AllPairs (λ p q. p < q) (2 ∷ 0 ∷ []) → ⊥
not-in-order h = let lt = h 0 1 0 (omega arith) (omega arith) in omega (arith, lt)

-- ## What is not refused

-- the chunk is in flight; its TSN did not come, its stream is open, and nothing is to be read there
needed : IsInFlight chunk both_open
needed = record { chunk = flying; sent = (0, omega arith, refl); kept = refl; same = inl refl }

not-refused : (has_come 10 (receiver.filter_of both_open.receiving.receiver) ≡ false) × (is_takable chunk both_open.receiving.receiver ≡ true)
    × (receiver.arrival_refusal chunk both_open.receiving.receiver ≡ None)
unfolding at_or_before at_or_before16 comes_before comes_before16 distance distance16
not-refused = (refl, refl, refl)

-- before the stream was opened it was refused, and where its message waits to be read the law says nothing of it
refused-first : (receiver.arrival_refusal chunk in_flight.receiving.receiver ≡ Some StreamUnknown) × (is_takable chunk taken.receiving.receiver ≡ false)
unfolding at_or_before at_or_before16 comes_before comes_before16 distance distance16
refused-first = (refl, refl)

-- ## A session that ends

-- from the write on these calls end it
ends : CanEnd 5 [] written
unfolding at_or_before at_or_before16 comes_before comes_before16 distance distance16
ends = record {
  calls = of_sender (sends 5) ∷ rest;
  ended = acknowledged;
  run = (in_flight, (sends-one, goes-on));
  delivery = refl;
  given = refl;
  written = refl;
  sacks = omega arith;
  made = omega arith;
  exhausted = refl;
  read = (
    0 ∷ [],
    ((omega arith, λ w. record { stream = refl; payload_type = all-of-every (λ c. c.payload_type ≡ Binary) (chunk ∷ []) (refl, tt); bytes = refl }), tt),
    λ i j d lt le. absurd (omega (arith, lt, le)),
    λ k lt e. (0, omega arith, omega (arith, lt)),
  );
}

-- ## A window

-- a message of three fragments of one byte waits: it costs 1,203, and of a lesser window, or of no reach, the law says nothing
abbrev three_wait : Transmission
three_wait =
    with_flight (record waiting.flight {
      queue = record waiting.flight.queue { pending = record waiting.flight.queue.pending { ordered = chunk ∷ chunk ∷ chunk ∷ [] } };
    }) waiting

windows : (has_window (Some (record { window = 1203; reach = 1 })) three_wait start.receiving.receiver ≡ true)
    × (has_window (Some (record { window = 1202; reach = 3 })) three_wait start.receiving.receiver ≡ false)
    × (has_window (Some (record { window = 1203; reach = 0 })) three_wait start.receiving.receiver ≡ false)
windows = (refl, refl, refl)

-- two such messages wait: one after another fits, and both together do not
abbrev two_wait : Transmission
two_wait =
    with_flight (record waiting.flight {
      queue = record waiting.flight.queue { pending = record waiting.flight.queue.pending { ordered = chunk ∷ record chunk { message_id = 1 } ∷ [] } };
    }) waiting

one-by-one : (has_window (Some (record { window = 401; reach = 1 })) two_wait start.receiving.receiver ≡ true)
    × (has_room (Some (record { window = 401; reach = 1 })) two_wait start.receiving.receiver ≡ false)
one-by-one = (refl, refl)

-- # Worked rounds, of which one passes a message that is abandoned

-- ## A message is abandoned

abbrev stream_written : OutboundStream
stream_written = wrote Binary (7 ∷ []) (new_stream 1 1200)

-- behind the first message in flight a second one waits
abbrev pub two_written : Session
two_written = sending (writes 1 Binary (8 ∷ [])) (written_to stream_written 1 Binary (8 ∷ []) in_flight.sending.sender) in_flight

pub writes-second : SenderFollows (writes 1 Binary (8 ∷ [])) in_flight two_written
writes-second =
    by-sender (writes 1 Binary (8 ∷ [])) two_written.sending.sender in_flight tt refl (writes-byte 8 stream_written in_flight.sending.sender refl) refl tt

abbrev pub lost : AbandonedMessage
lost = record { stream = 1; number = 0; bytes = 1; is_low = true }

-- the first message is abandoned
abbrev pub first_gone : Session
first_gone = sending (abandons 10 lost) (after_abandon (message_to_abandon 10 two_written.sending.sender.flight) 1 1 two_written.sending.sender) two_written

pub abandons-first : SenderFollows (abandons 10 lost) two_written first_gone
abandons-first = by-sender (abandons 10 lost) first_gone.sending.sender two_written tt refl refl refl (refl, refl)

-- its chunk is so in flight
abandoned : first_gone.sending.sender.flight.queue.inflight.chunks
    ≡ record chunk { since = Some 5; nsent = 1; reliability = Some (Reliable, 0); abandoned = true; user_data = [] } ∷ []
abandoned = refl

-- and a FORWARD-TSN goes past it
abbrev pub skip : ForwardTsn
skip = record { new_cumulative_tsn = 10; streams = record { identifier = 1; sequence = 0 } ∷ [] }

abbrev pub skipped : Session
skipped = sending (forwards 10 skip) first_gone.sending.sender first_gone

-- it names the message of stream 1, and none of another
names : Name skip.streams (named_up_to 10 first_gone.sending.sender.flight)
unfolding distance
names s = by (1 == s)
  where
    by : (b : Bool) → (if b then skip.streams else []) ≡ pairs_of (last_of (if b then named_up_to 10 first_gone.sending.sender.flight else []))
    by true = refl
    by false = refl

pub makes-skip : SenderFollows (forwards 10 skip) first_gone skipped
unfolding at_or_before comes_before distance
makes-skip = by-sender (forwards 10 skip) first_gone.sending.sender first_gone tt refl refl (refl, names) tt

-- it may be made, and passes the chunk
may-make : MayMake skip first_gone.sending.sender × (was_passed 10 skipped ≡ true)
unfolding at_or_before comes_before distance
may-make = (inl (10, (refl, names)), refl)

abbrev pub receiver_open : Session
receiver_open = receiving (incoming.opens 1) (receiver.open_stream 1 skipped.receiving.receiver) skipped

pub opens-receiver : ReceiverFollows (incoming.opens 1) skipped receiver_open
opens-receiver = by-receiver (incoming.opens 1) receiver_open.receiving.receiver skipped tt (refl, refl) tt

-- it is not refused where stream 1 is open and nothing is to be read there
skip-taken : (is_due_named skip receiver_open.receiving.receiver ≡ true) × (skip_refusal skip receiver_open.receiving.receiver ≡ None)
    × (skip_refusal skip skipped.receiving.receiver ≡ Some NamedStreamUnknown)
unfolding at_or_before at_or_before16 comes_before comes_before16 distance distance16
skip-taken = (refl, refl, refl)

abbrev pub past_first : Session
past_first = receiving (follows skip) (after_forward_tsn skip receiver_open.receiving.receiver) receiver_open

pub follows-skip : ReceiverFollows (follows skip) receiver_open past_first
unfolding at_or_before at_or_before16 comes_before comes_before16 distance distance16
follows-skip = by-receiver (follows skip) past_first.receiving.receiver receiver_open (0, omega arith, refl) refl refl

-- ## Rounds

-- what a FORWARD-TSN passes ends where the message does
to-the-point : skip_end (advanced_ack_point past_first.sending.sender.flight) past_first.sending.sender.flight ≡ Some 10
unfolding at_or_before comes_before distance
to-the-point = refl

-- the receiver is past it, and took all the rest: there is none
first-caught-up : IsCaughtUp past_first
unfolding at_or_before at_or_before16 comes_before comes_before16 distance distance16
first-caught-up = record {
  taken =
      all-of-every (λ c. c.abandoned ≡ false → was_taken c.tsn past_first ≡ true) (rounds.in_flight past_first)
      ((λ e. absurd (not_both (sym e))), tt);
  followed = λ t e. subst (λ u. at_or_before u past_first.receiving.receiver.cumulative_tsn ≡ true) (some-same (sym to-the-point ∙ e)) refl;
}

abbrev pub first_reported : Session
first_reported = receiving (reports 1000) past_first.receiving.receiver past_first

pub reports-first : ReceiverFollows (reports 1000) past_first first_reported
unfolding at_or_before at_or_before16 comes_before comes_before16 distance distance16
reports-first = by-receiver (reports 1000) past_first.receiving.receiver past_first tt refl tt

abbrev pub first_taken : Session
first_taken = sending (acks 10 first_reported.sending.sender) (after_acked (sack_of 10) first_reported.sending.sender) first_reported

pub takes-first : SenderFollows (acks 10 first_reported.sending.sender) first_reported first_taken
unfolding at_or_before at_or_before16 comes_before comes_before16 distance distance16
takes-first = by-sender (acks 10 first_reported.sending.sender) first_taken.sending.sender first_reported (0, omega arith, refl) refl refl refl refl

first-round : IsRound two_written first_taken
unfolding at_or_before distance
first-round = record {
  calls = of_sender (abandons 10 lost) ∷ of_sender (forwards 10 skip) ∷ of_receiver (incoming.opens 1) ∷ of_receiver (follows skip) ∷ [];
  reached = past_first;
  exchange = refl;
  run = (first_gone, (abandons-first, (skipped, (makes-skip, (receiver_open, (opens-receiver, (past_first, (follows-skip, refl))))))));
  caught_up = first-caught-up;
  sent = λ _. omega arith;
  answered = record {
    call = reports 1000;
    makes = refl;
    reported = first_reported;
    reporting = reports-first;
    sack = sack_of 10;
    made = refl;
    gone = with_lows (released_by (sack_of 10) first_reported.sending.sender.flight) first_reported.sending.sender.streams;
    taking = takes-first;
  };
}

-- then the second message is sent, taken and acknowledged
abbrev pub second_chunk : ChunkPayloadData
second_chunk = fresh (record (first_chunk (8 ∷ [])) { tsn = 11; stream_sequence_number = 1 })

abbrev pub second_sent : Session
second_sent = sending (sends 6) (after_send 6 first_taken.sending.sender) first_taken

pub sends-second : SenderFollows (sends 6) first_taken second_sent
unfolding at_or_before at_or_before16 comes_before comes_before16 distance distance16
sends-second = by-sender (sends 6) second_sent.sending.sender first_taken tt refl refl refl tt

abbrev inbound_stream : InboundStream
inbound_stream = get_or second_sent.receiving.receiver.streams 0 (inbound.new_stream 1 65536)

abbrev pub second_taken : Session
second_taken = receiving (takes second_chunk (New true)) (after_chunk second_chunk inbound_stream second_sent.receiving.receiver) second_sent

pub takes-second : ReceiverFollows (takes second_chunk (New true)) second_sent second_taken
unfolding at_or_before at_or_before16 comes_before comes_before16 distance distance16
takes-second = by-receiver (takes second_chunk (New true)) second_taken.receiving.receiver second_sent (0, omega arith, refl) (record {
  stream = inbound_stream;
  found = refl;
  queue = after_ordered_push second_chunk inbound_stream.queue;
  pushed = (refl, refl);
  after = refl;
}) (refl, refl)

none-to-skip : skip_end (advanced_ack_point second_taken.sending.sender.flight) second_taken.sending.sender.flight ≡ None
unfolding at_or_before comes_before distance
none-to-skip = refl

second-caught-up : IsCaughtUp second_taken
unfolding at_or_before at_or_before16 comes_before comes_before16 distance distance16
second-caught-up = record {
  taken = all-of-every (λ c. c.abandoned ≡ false → was_taken c.tsn second_taken ≡ true) (rounds.in_flight second_taken) ((λ e. refl), tt);
  followed = λ t e. absurd (none-some t (sym none-to-skip ∙ e));
}

abbrev pub second_reported : Session
second_reported = receiving (reports 1000) second_taken.receiving.receiver second_taken

pub reports-second : ReceiverFollows (reports 1000) second_taken second_reported
unfolding at_or_before at_or_before16 comes_before comes_before16 distance distance16
reports-second = by-receiver (reports 1000) second_taken.receiving.receiver second_taken tt refl tt

abbrev pub emptied : Session
emptied = sending (acks 11 second_reported.sending.sender) (after_acked (sack_of 11) second_reported.sending.sender) second_reported

pub takes-both : SenderFollows (acks 11 second_reported.sending.sender) second_reported emptied
unfolding at_or_before at_or_before16 comes_before comes_before16 distance distance16
takes-both = by-sender (acks 11 second_reported.sending.sender) emptied.sending.sender second_reported (0, omega arith, refl) refl refl refl refl

one-flies : length (rounds.in_flight second_taken) ≡ 1
unfolding at_or_before at_or_before16 comes_before comes_before16 distance distance16
one-flies = refl

second-round : IsRound first_taken emptied
unfolding at_or_before distance
second-round = record {
  calls = of_sender (sends 6) ∷ of_receiver (takes second_chunk (New true)) ∷ [];
  reached = second_taken;
  exchange = refl;
  run = (second_sent, (sends-second, (second_taken, (takes-second, refl))));
  caught_up = second-caught-up;
  sent = λ _. omega (arith, one-flies);
  answered = record {
    call = reports 1000;
    makes = refl;
    reported = second_reported;
    reporting = reports-second;
    sack = sack_of 11;
    made = refl;
    gone = with_lows (released_by (sack_of 11) second_reported.sending.sender.flight) second_reported.sending.sender.streams;
    taking = takes-both;
  };
}

-- as many rounds as chunks are left
both-rounds : Rounds 2 two_written emptied
both-rounds = (first_taken, (first-round, (emptied, (second-round, refl))))

lefts : (chunks_left two_written.sending.sender ≡ 2) × (chunks_left first_taken.sending.sender ≡ 1) × (is_all_acknowledged emptied.sending.sender ≡ true)
unfolding at_or_before at_or_before16 comes_before comes_before16 distance distance16
lefts = (refl, refl, refl)

-- # A worked session in which messages are abandoned

-- ## What is read where a message was abandoned

-- the second message is read in the end
abbrev pub in_the_end : Session
in_the_end = receiving (reads 1) (receiver.after_read 1 emptied.receiving.receiver) emptied

pub reads-second : ReceiverFollows (reads 1) emptied in_the_end
unfolding at_or_before at_or_before16 comes_before comes_before16 distance distance16
reads-second = by-receiver (reads 1) in_the_end.receiving.receiver emptied tt refl refl

-- what follows the first round, and what follows the abandonment
abbrev last_calls : List Call
last_calls =
    of_sender (sends 6) ∷ of_receiver (takes second_chunk (New true)) ∷ of_receiver (reports 1000) ∷ of_sender (acks 11 second_reported.sending.sender)
    ∷ of_receiver (reads 1) ∷ []

abbrev last-run : RunsTo first_taken last_calls in_the_end
last-run = (
  second_sent,
  (sends-second, (second_taken, (takes-second, (second_reported, (reports-second, (emptied, (takes-both, (in_the_end, (reads-second, refl))))))))),
)

abbrev later_calls : List Call
later_calls =
    of_sender (forwards 10 skip) ∷ of_receiver (incoming.opens 1) ∷ of_receiver (follows skip) ∷ of_receiver (reports 1000)
    ∷ of_sender (acks 10 first_reported.sending.sender) ∷ last_calls

abbrev later-run : RunsTo first_gone later_calls in_the_end
later-run = (
  skipped,
  (makes-skip, (receiver_open, (opens-receiver, (past_first, (follows-skip, (first_reported, (reports-first, (first_taken, (takes-first, last-run))))))))),
)

abbrev pub all_calls : List Call
all_calls =
    of_sender (outgoing.opens 1) ∷ of_sender (writes 1 Binary (7 ∷ [])) ∷ of_sender (sends 5) ∷ of_sender (writes 1 Binary (8 ∷ []))
    ∷ of_sender (abandons 10 lost) ∷ later_calls

abbrev pub all-run : RunsTo start all_calls in_the_end
all-run = (opened, (opens, (written, (writes-one, (in_flight, (sends-one, (two_written, (writes-second, (first_gone, (abandons-first, later-run))))))))))

-- of two messages in flight the one is abandoned whose TSN is given, and neither once more
abbrev two_in_flight : Transmission
two_in_flight = after_send 6 two_written.sending.sender

which : (abandoned_by (abandons 10 lost) two_in_flight ≡ 0 ∷ []) × (abandoned_by (abandons 11 lost) two_in_flight ≡ 1 ∷ [])
    × (abandoned_by (abandons 10 lost) first_gone.sending.sender ≡ [])
unfolding comes_before distance
which = (refl, refl, refl)

-- a message without a deadline does not expire; so the first message was abandoned, and no other
no-other : (abandoned_by (outgoing.expires 100 None) waiting ≡ []) × (abandoned_in start all_calls in_the_end all-run ≡ 0 ∷ [])
no-other = (refl, refl)

-- nothing is to be read in the end, and the second message was read, once
pub exhausted : is_exhausted in_the_end.sending.sender in_the_end.receiving.receiver ≡ true
unfolding at_or_before at_or_before16 comes_before comes_before16 distance distance16
exhausted = refl

each-other : EachOtherIsReadOnce (0 ∷ []) in_the_end
unfolding at_or_before at_or_before16 comes_before16 distance distance16
each-other = (
  0 ∷ [],
  ((omega arith, λ w. record { stream = refl; payload_type = one; bytes = refl }), tt),
  λ i j d lt short. absurd (omega (arith, lt, short)),
  others,
)
  where
    one : All (λ (c : ChunkPayloadData). c.payload_type ≡ Binary) (second_chunk ∷ [])
    one zero d lt = refl
    one (suc k) d lt = absurd (omega (arith, lt))

    others : (k : ℕ) → k < 2 → list_any (nat_eq (2 - (k + 1))) (0 ∷ []) ≡ false → Contains (0 ∷ []) k
    others zero lt e = (0, omega arith, refl)
    others (suc zero) lt e = absurd (not_both (sym e))
    others (suc (suc k)) lt e = absurd (omega (arith, lt))

-- # A worked session that can end: the first of two messages is abandoned in flight, and the second one waits

abbrev first_calls : List Call
first_calls =
    of_sender (outgoing.opens 1) ∷ of_sender (writes 1 Binary (7 ∷ [])) ∷ of_sender (sends 5) ∷ of_sender (writes 1 Binary (8 ∷ []))
    ∷ of_sender (abandons 10 lost) ∷ []

abbrev first-run : RunsTo start first_calls first_gone
first-run = (opened, (opens, (written, (writes-one, (in_flight, (sends-one, (two_written, (writes-second, (first_gone, (abandons-first, refl))))))))))

given-one : tsns_given start first_calls first_gone first-run ≡ 1
unfolding distance
given-one = refl

one-waits : (chunks_waiting first_gone.sending.sender ≡ 1) × (abandoned_in start first_calls first_gone first-run ≡ 0 ∷ [])
one-waits = (refl, refl)

takes-all : takes_each_of first_gone.sending.sender first_gone.receiving.receiver ≡ true
takes-all = refl

-- the law leads to its end
all-ends : CanEnd 7 (0 ∷ []) first_gone
all-ends = all-end 10 1200 65536 65536 None first_calls first_gone (omega arith) (omega arith) first-run (omega (arith, given-one, one-waits.0)) takes-all 7

-- where the second message was read
second-read : Contains all-ends.read.0 0
second-read =
    let same = ap length all-ends.written in
    all-ends.read.3 0 (omega (arith, same)) (ap (λ n. list_any (nat_eq (n - (0 + 1))) (0 ∷ [])) same)
