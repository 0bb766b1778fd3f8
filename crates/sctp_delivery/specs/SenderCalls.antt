-- What a call of a sender makes, and what it sends.
use Rattle.std.specs.Prelude.{◌≡◌, ⊤, ℕ, ◌+◌, ◌<◌, ◌≤◌, ◌==◌, Bool, true, false, List, [], ◌∷◌, length, find, option_map, option_to_list, Option, Some, None}
use Rattle.std.specs.Prelude.{is_some}
use Rattle.std.specs.Prelude.{IfSome}
use Rattle.sctp_data.specs.declared.chunk.chunk_payload_data.ChunkPayloadData.{ChunkPayloadData}
use Rattle.sctp_data.specs.declared.chunk.chunk_payload_data.PayloadProtocolIdentifier.{PayloadProtocolIdentifier}
use Rattle.sctp_data.specs.declared.chunk.chunk_payload_data.ReliabilityType.{ReliabilityType}
use Rattle.sctp_data.specs.ForwardTsn.{ForwardTsn}
use Rattle.sctp_data.specs.PayloadData.{Data, data_of}
use Rattle.sctp_data.specs.SelectiveAck.{Sack}
use Rattle.sctp_outbound.specs.outbound_queue.OutboundQueue.{all_started, as_sent, expiring, expiring_tail, message_of, sent_next}
use Rattle.sctp_outbound.specs.pending_queue.PendingQueue.{next_pending}
use Rattle.sctp_serial.specs.DataChunks.{has_tsn}
use Rattle.sctp_stream.specs.declared.outbound_stream.OutboundStream.{OutboundStream}
use Rattle.sctp_sender.specs.declared.sender.ExpiredMessage.{ExpiredMessage}
use Rattle.sctp_sender.specs.declared.sender.flight.late.AbandonedMessage.{AbandonedMessage}
use Rattle.sctp_sender.specs.declared.sender.flight.Released.{Released}
use Rattle.sctp_sender.specs.declared.sender.flight.kept.TakenBack.{TakenBack}
use Rattle.sctp_sender.specs.Abandonment.{Name, abandon_refusal, can_skip_to, is_end, named_up_to, skip_end}
use Rattle.sctp_sender.specs.Flight.{can_resend, message_to_abandon, next_after_send, released_by, sack_refusal}
use Rattle.sctp_sender.specs.Keeping.{bytes_back}
use Rattle.sctp_sender.specs.Late.{after_late, after_worn, late_order, leaving_each, worn_order}
use Rattle.sctp_sender.specs.Numbers.{send_refusal}
use Rattle.sctp_sender.specs.Resending.{count_again, sent_again}
use Rattle.sctp_sender.specs.Sender.{Transmission, after_abandon, after_acked, after_expire, after_take_back, is_open, stream_of, taken_back_by, with_flight}
use Rattle.sctp_sender.specs.Sender.{write_refusal, written_to}
use Rattle.sctp_sender.specs.Thresholds.{with_lows, with_message_lows}
use Rattle.sctp_sender.specs.Totals.{bytes_in}
use Rattle.sctp_sender.specs.SenderRuns as runs
use Rattle.sctp_sender.specs.SenderRuns.{Makes}

-- a call that is not refused, with its arguments and its answer where that is not settled by them
pub data SenderCall : Type 0 where
  opens : ℕ → SenderCall
  sets_mode : ℕ → Bool → ReliabilityType → ℕ → SenderCall
  writes : ℕ → PayloadProtocolIdentifier → List ℕ → SenderCall
  starts : ℕ → SenderCall
  -- `send_next`
  sends : ℕ → SenderCall
  -- `resend`: the chunk as it was in flight
  resends : ℕ → ℕ → ChunkPayloadData → SenderCall
  abandons : ℕ → AbandonedMessage → SenderCall
  -- `expire`, `expire_tail`: the message, if there is one
  expires : ℕ → Option ExpiredMessage → SenderCall
  expires_tail : ℕ → Option AbandonedMessage → SenderCall
  expires_late : ℕ → List AbandonedMessage → SenderCall
  expires_rexmit : List AbandonedMessage → SenderCall
  -- `forward_tsn_to` a TSN, where it answers a chunk
  forwards : ℕ → ForwardTsn → SenderCall
  -- `forward_tsn_within` so many bytes, where it answers a chunk
  forwards_within : ℕ → ForwardTsn → SenderCall
  -- `retransmit_all`
  marks : SenderCall
  -- `add_miss_indications`: so many chunks in front stand before its TSN
  misses : ℕ → SenderCall
  sets_size : ℕ → SenderCall
  sets_low : ℕ → ℕ → SenderCall
  -- `reserve`
  reserves : ℕ → SenderCall
  -- `acked`
  takes_sack : Sack → List Released → SenderCall

abbrev pub bytes_expired : Option ExpiredMessage → ℕ
bytes_expired None = 0
bytes_expired (Some e) = e.bytes

-- the call as runs of a sender have it; one that only reads is there one by which no byte leaves
abbrev pub as_run : SenderCall → runs.Call
as_run (opens stream) = runs.opens stream
as_run (sets_mode stream unordered reliability value) =
    runs.sets_mode stream unordered reliability value
as_run (writes stream ppi bytes) = runs.writes bytes
as_run (starts now) = runs.starts now
as_run (sends now) = runs.sends
as_run (resends tsn now c) = runs.resends_at tsn now c
as_run (abandons tsn a) = runs.abandons a.bytes
as_run (expires now m) = runs.abandons (bytes_expired m)
as_run (expires_tail now m) = runs.abandons_late (option_to_list m)
as_run (expires_late now gone) = runs.abandons_late gone
as_run (expires_rexmit gone) = runs.abandons_late gone
as_run (forwards tsn f) = runs.abandons 0
as_run (forwards_within bytes f) = runs.abandons 0
as_run marks = runs.marks
as_run (misses count) = runs.misses count
as_run (sets_size size) = runs.sets_size size
as_run (sets_low stream bytes) = runs.sets_low stream bytes
as_run (reserves more) = runs.reserves more
as_run (takes_sack sack gone) = runs.takes_sack gone

-- ## Of what is accepted

-- what the call found
abbrev pub IsAccepted : SenderCall → Transmission → Type 0
IsAccepted (opens stream) t = is_open stream t ≡ false
IsAccepted (sets_mode stream unordered reliability value) t = is_open stream t ≡ true
IsAccepted (writes stream ppi bytes) t = write_refusal stream (length bytes) t ≡ None
IsAccepted (starts now) t = ⊤
IsAccepted (sends now) t = send_refusal t.flight ≡ None
IsAccepted (resends tsn now c) t =
    (can_resend tsn t.flight ≡ true)
    × (find (has_tsn tsn) t.flight.queue.inflight.chunks ≡ Some c)
IsAccepted (abandons tsn a) t = abandon_refusal tsn t.flight ≡ None
IsAccepted (expires now m) t = ⊤
IsAccepted (expires_tail now m) t = ⊤
IsAccepted (expires_late now gone) t = ⊤
IsAccepted (expires_rexmit gone) t = ⊤
IsAccepted (forwards tsn f) t =
    (Some f.new_cumulative_tsn ≡ skip_end tsn t.flight)
    × Name f.streams (named_up_to f.new_cumulative_tsn t.flight)
IsAccepted (forwards_within bytes f) t =
    (can_skip_to f.new_cumulative_tsn t.flight ≡ true)
    × (is_end f.new_cumulative_tsn t.flight ≡ true)
    × Name f.streams (named_up_to f.new_cumulative_tsn t.flight)
IsAccepted marks t = ⊤
IsAccepted (misses count) t = ⊤
IsAccepted (sets_size size) t = (0 < size) × (size ≤ 65519)
IsAccepted (sets_low stream bytes) t = is_open stream t ≡ true
IsAccepted (reserves more) t = ⊤
IsAccepted (takes_sack sack gone) t = sack_refusal sack t.flight ≡ None

-- the fragments of a write wait; one of no bytes changes nothing
abbrev pub Writes : ℕ → PayloadProtocolIdentifier → List ℕ → Transmission → Transmission → Type 0
Writes stream ppi bytes old new =
    (length bytes ≡ 0 → new ≡ old)
    × (0 < length bytes → (l : OutboundStream) → stream_of stream old ≡ Some l
    → new ≡ written_to l stream ppi bytes old)

-- the message in front leaves, where it is past its deadline and unsent
abbrev pub Expires : ℕ → Option ExpiredMessage → Transmission → Transmission → Type 0
Expires now m old new =
    (is_some m ≡ is_some (expiring now old.flight.queue))
    × (IfSome m (λ e. IfSome (expiring now old.flight.queue)
    (λ c. new ≡ after_expire c e.bytes now old))
    × (m ≡ None → new ≡ old))

-- the rest of the message in front is abandoned, where that is past its deadline and partially sent
abbrev pub ExpiresTail : ℕ → Option AbandonedMessage → Transmission → Transmission → Type 0
ExpiresTail now m old new =
    IfSome m (λ a. new
    ≡ after_abandon (message_of (expiring_tail now old.flight.queue)) a.stream a.bytes old)
    × (m ≡ None → new ≡ old)

-- what it makes of the sender, where runs of a sender say of the bytes alone
abbrev pub MakesExactly : SenderCall → Transmission → Transmission → Type 0
MakesExactly (writes stream ppi bytes) old new = Writes stream ppi bytes old new
MakesExactly (sends now) old new =
    new ≡ with_flight (record old.flight {
      queue = sent_next old.flight.queue old.flight.next_tsn now;
      next_tsn = next_after_send old.flight;
    }) old
MakesExactly (abandons tsn a) old new =
    new ≡ after_abandon (message_to_abandon tsn old.flight) a.stream a.bytes old
MakesExactly (expires now m) old new = Expires now m old new
MakesExactly (expires_tail now m) old new = ExpiresTail now m old new
MakesExactly (expires_late now gone) old new = new ≡ after_late now old
MakesExactly (expires_rexmit gone) old new = new ≡ after_worn old
MakesExactly (forwards tsn f) old new = new ≡ old
MakesExactly (forwards_within bytes f) old new = new ≡ old
MakesExactly (takes_sack sack gone) old new = new ≡ after_acked sack old
MakesExactly (opens stream) old new = ⊤
MakesExactly (sets_mode stream unordered reliability value) old new = ⊤
MakesExactly (starts now) old new = ⊤
MakesExactly (resends tsn now c) old new = ⊤
MakesExactly marks old new = ⊤
MakesExactly (misses count) old new = ⊤
MakesExactly (sets_size size) old new = ⊤
MakesExactly (sets_low stream bytes) old new = ⊤
MakesExactly (reserves more) old new = ⊤

-- ## What is answered

-- a message is told with the stream and the number of the chunk, and none where there is no chunk
abbrev pub Tells : Option AbandonedMessage → Option ChunkPayloadData → Type 0
Tells m c =
    (option_map (λ a. a.stream) m ≡ option_map (λ d. d.stream_identifier) c)
    × (option_map (λ a. a.number) m ≡ option_map (λ d. d.message_id) c)

-- what the call answers of what leaves: of which message or chunk, and for the bytes of several each its own
abbrev pub Answers : SenderCall → Transmission → Type 0
Answers (abandons tsn a) t = Tells (Some a) (find (has_tsn tsn) t.flight.queue.inflight.chunks)
Answers (expires now m) t =
    option_map (λ e. e.stream) m
    ≡ option_map (λ c. c.stream_identifier) (expiring now t.flight.queue)
Answers (expires_tail now m) t = Tells m (expiring_tail now t.flight.queue)
Answers (expires_late now gone) t =
    gone ≡ with_message_lows (leaving_each (late_order now t.flight) t.flight) t.streams
Answers (expires_rexmit gone) t =
    gone ≡ with_message_lows (leaving_each (worn_order t.flight) t.flight) t.streams
Answers (takes_sack sack gone) t = gone ≡ with_lows (released_by sack t.flight) t.streams
Answers _ t = ⊤

-- one call
abbrev pub SenderMakes : SenderCall → Transmission → Transmission → Type 0
SenderMakes call old new =
    Makes (as_run call) old new
    × (MakesExactly call old new × (IsAccepted call old × Answers call old))

-- what `acked` makes: what the SACK no longer reports comes back first, where the sender keeps it (`replay::take_back`), and then the SACK is
-- taken (`replay::acked`). Where nothing is kept, that is one call of a session
pub record TakesBackAndSack (sack : Sack) (back : List TakenBack) (gone : List Released)
    (old new : Transmission) : Type 0 where
  pub returned : back ≡ taken_back_by sack old
  pub exact : MakesExactly (takes_sack sack gone) (after_take_back sack old) new
  pub accepted : IsAccepted (takes_sack sack gone) (after_take_back sack old)
  pub answered : Answers (takes_sack sack gone) (after_take_back sack old)
  pub bytes : runs.held_by_sender new + bytes_in gone ≡ runs.held_by_sender old + bytes_back back
  pub whole : old.kept ≡ None → SenderMakes (takes_sack sack gone) old new

-- calls one after another
abbrev pub SenderMakesEach : List SenderCall → Transmission → Transmission → Type 0
SenderMakesEach [] old new = new ≡ old
SenderMakesEach (c ∷ cs) old new =
    (mid : Transmission) × (SenderMakes c old mid × SenderMakesEach cs mid new)

-- a call that gives up what has expired at a moment, or starts lifetimes then
abbrev pub is_drop : ℕ → SenderCall → Bool
is_drop now (starts at) = at == now
is_drop now (expires at m) = at == now
is_drop now (expires_tail at m) = at == now
is_drop now (expires_late at gone) = at == now
is_drop now (expires_rexmit gone) = true
is_drop now _ = false

-- ## What it sends

-- the wire fields of a chunk that a sender made
pub data Made : Type 0 where
  data_chunk : Data → Made
  forward_tsn : ForwardTsn → Made

-- the DATA chunk that the next sending answers, if something waits
abbrev pub next_chunk : ℕ → Transmission → Option ChunkPayloadData
next_chunk now t =
    option_map (as_sent t.flight.next_tsn now)
    (next_pending (all_started now t.flight.queue).pending)

abbrev pub with_chunk : Option ChunkPayloadData → List Made → List Made
with_chunk None ms = ms
with_chunk (Some c) ms = data_chunk (data_of c) ∷ ms

-- the chunks that were made, the last one first
abbrev pub made_after : SenderCall → Transmission → List Made → List Made
made_after (sends now) t ms = with_chunk (next_chunk now t) ms
made_after (resends tsn now c) t ms = data_chunk (data_of (sent_again (count_again c) now c)) ∷ ms
made_after (forwards tsn f) t ms = forward_tsn f ∷ ms
made_after (forwards_within bytes f) t ms = forward_tsn f ∷ ms
made_after marks t ms = ms
made_after (misses count) t ms = ms
made_after (sets_size size) t ms = ms
made_after (sets_low stream bytes) t ms = ms
made_after (reserves more) t ms = ms
made_after (opens stream) t ms = ms
made_after (sets_mode stream unordered reliability value) t ms = ms
made_after (writes stream ppi bytes) t ms = ms
made_after (starts now) t ms = ms
made_after (abandons tsn a) t ms = ms
made_after (expires now m) t ms = ms
made_after (expires_tail now m) t ms = ms
made_after (expires_late now gone) t ms = ms
made_after (expires_rexmit gone) t ms = ms
made_after (takes_sack sack gone) t ms = ms

-- ## What is written

-- a write of some bytes
pub record Write : Type 0 where
  pub stream : ℕ
  pub payload_type : PayloadProtocolIdentifier
  pub bytes : List ℕ

-- the writes, the last one first; one of no bytes is none
abbrev pub written_after : SenderCall → List Write → List Write
written_after (writes stream ppi []) ws = ws
written_after (writes stream ppi (b ∷ bs)) ws =
    record { stream = stream; payload_type = ppi; bytes = b ∷ bs } ∷ ws
written_after (opens stream) ws = ws
written_after (sets_mode stream unordered reliability value) ws = ws
written_after (starts now) ws = ws
written_after (sends now) ws = ws
written_after (resends tsn now c) ws = ws
written_after (abandons tsn a) ws = ws
written_after (expires now m) ws = ws
written_after (expires_tail now m) ws = ws
written_after (expires_late now gone) ws = ws
written_after (expires_rexmit gone) ws = ws
written_after (forwards tsn f) ws = ws
written_after (forwards_within bytes f) ws = ws
written_after marks ws = ws
written_after (misses count) ws = ws
written_after (sets_size size) ws = ws
written_after (sets_low stream bytes) ws = ws
written_after (reserves more) ws = ws
written_after (takes_sack sack gone) ws = ws
