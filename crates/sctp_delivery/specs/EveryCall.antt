-- Sessions of every call of a sender and a receiver: also those by which a stream is closed or reset, a chunk is dropped, names of streams
-- that are not open are passed over, or what a SACK no longer reports comes back.
use Rattle.std.specs.Prelude.{◌≡◌, ◌≢◌, ⊤, ℕ, ◌+◌, ◌^◌, ◌<◌, ◌==◌, ◌||◌, Bool, true, false, not, List, [], ◌∷◌, All, AllPairs, Contains, Option, None}
use Rattle.std.specs.List.{filter, list_all, list_any}
use Rattle.sctp_util.specs.Serial.{distance, at_or_before}
use Rattle.sctp_data.specs.declared.chunk.chunk_payload_data.ChunkPayloadData.{ChunkPayloadData}
use Rattle.sctp_data.specs.ForwardTsn.{ForwardTsn}
use Rattle.sctp_data.specs.PayloadData.{Data, data_of}
use Rattle.sctp_data.specs.SelectiveAck.{Sack}
use Rattle.sctp_receiver.specs.declared.receiver.limits.Limits.{Limits}
use Rattle.sctp_receiver.specs.Receiver.{Reception, discard_refusal}
use Rattle.sctp_receiver.specs.ReceiverRuns as receiver_runs
use Rattle.sctp_receiver.specs.ReceiverRuns.{Message}
use Rattle.sctp_receiver.specs.Resets.{reset_refusal as incoming_reset_refusal}
use Rattle.sctp_receiver.specs.Skips.{past_closed_refusal}
use Rattle.sctp_sender.specs.declared.sender.Reported.{Reported}
use Rattle.sctp_sender.specs.declared.sender.flight.kept.TakenBack.{TakenBack}
use Rattle.sctp_sender.specs.Flight.{released_by}
use Rattle.sctp_sender.specs.Sender.{Transmission, after_take_back, take_back_refusal, taken_back_by}
use Rattle.sctp_sender.specs.SenderRuns as sender_runs
use Rattle.sctp_sender.specs.Settings.{reset_refusal}
use Rattle.sctp_serial.specs.DataChunks.{following_tsn, has_tsn}
use Rattle.sctp_delivery.specs.Messages.{IsWrite, StandAt}
use Rattle.sctp_delivery.specs.Returns.{at_start_with}
use Rattle.sctp_delivery.specs.Sacks.{is_reported, reports_tsn, was_passed, was_taken}
use Rattle.sctp_delivery.specs.SenderCalls.{Write, data_chunk, forward_tsn}
use Rattle.sctp_delivery.specs.Session.{Call, Follows, Session, bytes_written}

-- ## One call

-- a call of the sender that most sessions do not have: what a SACK no longer reports comes back, with what the call answers; or a stream
-- is closed, or reset
pub data SenderOther : Type 0 where
  takes_back : Sack → List TakenBack → SenderOther
  closes : ℕ → SenderOther
  resets : ℕ → SenderOther

-- one of the receiver: the TSN of a DATA chunk counts as come, and the chunk is dropped; a stream is closed, or reset behind a TSN; or
-- `forward_tsn` passes over names of streams that are not open (`Closed::PassOver`)
pub data ReceiverOther : Type 0 where
  discards : ChunkPayloadData → ReceiverOther
  closes_incoming : ℕ → ReceiverOther
  resets_incoming : ℕ → ℕ → ReceiverOther
  passes_over : ForwardTsn → ReceiverOther

pub data AnyCall : Type 0 where
  makes : Call → AnyCall
  of_sending : SenderOther → AnyCall
  of_receiving : ReceiverOther → AnyCall

-- the calls as runs of a sender and of a receiver have them
abbrev pub as_sender_run : SenderOther → sender_runs.Call
as_sender_run (takes_back sack back) = sender_runs.takes_back back
as_sender_run (closes stream) = sender_runs.closes stream
as_sender_run (resets stream) = sender_runs.resets stream

abbrev pub as_receiver_run : ReceiverOther → receiver_runs.Call
as_receiver_run (discards c) = receiver_runs.discards c.tsn
as_receiver_run (closes_incoming stream) = receiver_runs.closes stream
as_receiver_run (resets_incoming stream last) = receiver_runs.resets stream last
as_receiver_run (passes_over f) = receiver_runs.forwards f

-- the receiver made the SACK
abbrev pub IsMadeSack : SenderOther → Session → Type 0
IsMadeSack (takes_back sack back) s = Contains s.sacks sack
IsMadeSack (closes stream) s = ⊤
IsMadeSack (resets stream) s = ⊤

-- and the sender the chunk
abbrev pub IsMadeChunk : ReceiverOther → Session → Type 0
IsMadeChunk (discards c) s = Contains s.made (data_chunk (data_of c))
IsMadeChunk (closes_incoming stream) s = ⊤
IsMadeChunk (resets_incoming stream last) s = ⊤
IsMadeChunk (passes_over f) s = Contains s.made (forward_tsn f)

-- what the call found, and what it answers
abbrev pub IsSenderTaken : SenderOther → Transmission → Type 0
IsSenderTaken (takes_back sack back) t =
    (take_back_refusal sack t ≡ None) × (back ≡ taken_back_by sack t)
IsSenderTaken (closes stream) t = ⊤
IsSenderTaken (resets stream) t = reset_refusal stream t ≡ None

abbrev pub IsReceiverTaken : ReceiverOther → Reception → Type 0
IsReceiverTaken (discards c) r = discard_refusal c.tsn r ≡ None
IsReceiverTaken (closes_incoming stream) r = ⊤
IsReceiverTaken (resets_incoming stream last) r = incoming_reset_refusal stream last r ≡ None
IsReceiverTaken (passes_over f) r = past_closed_refusal f r ≡ None

-- what it makes of the sender, where runs of a sender say of the bytes alone
abbrev pub Restores : SenderOther → Transmission → Transmission → Type 0
Restores (takes_back sack back) old new = new ≡ after_take_back sack old
Restores (closes stream) old new = ⊤
Restores (resets stream) old new = ⊤

-- the receiver stays as it is
pub record SenderDoes (call : SenderOther) (old new : Session) : Type 0 where
  pub handed : IsMadeSack call old
  pub step : sender_runs.Follows (as_sender_run call) old.sending new.sending
  pub exact : Restores call old.sending.sender new.sending.sender
  pub accepted : IsSenderTaken call old.sending.sender
  pub after : new ≡ record {
    sending = new.sending;
    receiving = old.receiving;
    made = old.made;
    sacks = old.sacks;
    written = old.written;
  }

-- and here the sender
pub record ReceiverDoes (call : ReceiverOther) (old new : Session) : Type 0 where
  pub handed : IsMadeChunk call old
  pub step : receiver_runs.Follows (as_receiver_run call) old.receiving new.receiving
  pub accepted : IsReceiverTaken call old.receiving.receiver
  pub after : new ≡ record {
    sending = old.sending;
    receiving = new.receiving;
    made = old.made;
    sacks = old.sacks;
    written = old.written;
  }

abbrev pub FollowsAny : AnyCall → Session → Session → Type 0
FollowsAny (makes call) old new = Follows call old new
FollowsAny (of_sending call) old new = SenderDoes call old new
FollowsAny (of_receiving call) old new = ReceiverDoes call old new

-- ## Calls one after another, in any order

abbrev pub RunsAny : Session → List AnyCall → Session → Type 0
RunsAny old [] new = new ≡ old
RunsAny old (c ∷ cs) new = (mid : Session) × (FollowsAny c old mid × RunsAny mid cs new)

-- so many TSNs were given out
abbrev pub tsns_given_any : (old : Session) (calls : List AnyCall) (new : Session)
    → RunsAny old calls new → ℕ
tsns_given_any old [] new run = 0
tsns_given_any old (c ∷ cs) new run =
    distance old.sending.sender.flight.next_tsn run.0.sending.sender.flight.next_tsn
    + tsns_given_any run.0 cs new run.1.1

-- the call drops a chunk with the TSN
abbrev pub drops : ℕ → AnyCall → Bool
drops tsn (makes call) = false
drops tsn (of_sending call) = false
drops tsn (of_receiving (discards c)) = has_tsn tsn c
drops tsn (of_receiving (closes_incoming stream)) = false
drops tsn (of_receiving (resets_incoming stream last)) = false
drops tsn (of_receiving (passes_over f)) = false

abbrev pub was_dropped : List AnyCall → ℕ → Bool
was_dropped calls tsn = list_any (drops tsn) calls

-- the sender closes or resets the stream by the call
abbrev pub renews : ℕ → AnyCall → Bool
renews s (makes call) = false
renews s (of_sending (takes_back sack back)) = false
renews s (of_sending (closes stream)) = stream == s
renews s (of_sending (resets stream)) = stream == s
renews s (of_receiving call) = false

-- it never did
abbrev pub is_steady : List AnyCall → ℕ → Bool
is_steady calls s = not (list_any (renews s) calls)

-- ## Sessions

-- P of the calls and of the session, after each such session
abbrev pub AfterEachAny : (List AnyCall → Session → Type 0) → Type 0
AfterEachAny P =
    (reported : Reported) (tsn size max most : ℕ) (limits : Option Limits)
    (calls : List AnyCall) (s : Session)
    → RunsAny (at_start_with reported tsn size max most limits) calls s → P calls s

-- P of the first TSN, of how many TSNs were given out, of the calls and of the session, after each that gives out fewer than 2^31; the
-- first one is a number of 32 bits
abbrev pub AfterEachAnyOfFewTsns : (ℕ → ℕ → List AnyCall → Session → Type 0) → Type 0
AfterEachAnyOfFewTsns P =
    (reported : Reported) (tsn size max most : ℕ) (limits : Option Limits)
    (calls : List AnyCall) (s : Session)
    → (run : RunsAny (at_start_with reported tsn size max most limits) calls s) → tsn < 2 ^ 32
    → tsns_given_any (at_start_with reported tsn size max most limits) calls s run < 2 ^ 31
    → P tsn (tsns_given_any (at_start_with reported tsn size max most limits) calls s run) calls s

-- P of the calls and of the session, after each of these in which fragments have some bytes, and fewer than 2^64 were written
abbrev pub AfterEachAnyOfFewBytes : (List AnyCall → Session → Type 0) → Type 0
AfterEachAnyOfFewBytes P =
    (reported : Reported) (tsn size max most : ℕ) (limits : Option Limits)
    (calls : List AnyCall) (s : Session)
    → (run : RunsAny (at_start_with reported tsn size max most limits) calls s) → tsn < 2 ^ 32
    → 0 < size
    → tsns_given_any (at_start_with reported tsn size max most limits) calls s run < 2 ^ 31
    → bytes_written s < 2 ^ 64 → P calls s

-- ## Messages

-- of the fragments none but the first begins a message
abbrev pub is_single : List ChunkPayloadData → Bool
is_single [] = true
is_single (c ∷ cs) = list_all (λ d. not d.beginning_fragment) cs

-- each message that was read of which that is so is a write
abbrev pub AreWritesWhereSingle : Session → Type 0
AreWritesWhereSingle s =
    All (λ m. is_single m.fragments ≡ true → (w : Write) × Contains s.written w × IsWrite m w)
    s.receiving.read

-- it is so of each that was read on a stream that the sender neither closed nor reset
abbrev pub AreSingleWhereSteady : List AnyCall → Session → Type 0
AreSingleWhereSteady calls s =
    All (λ m. is_steady calls m.stream ≡ true → is_single m.fragments ≡ true) s.receiving.read

-- it is so of each
abbrev pub AreSingle : Session → Type 0
AreSingle s = All (λ m. is_single m.fragments ≡ true) s.receiving.read

-- of two DATA chunks that the sender made, the second of which has the TSN behind that of the first, the second begins no ordered message
-- of the same stream and number
abbrev pub AreToldApart : Session → Type 0
AreToldApart s =
    (d e : Data) → Contains s.made (data_chunk d) → Contains s.made (data_chunk e)
    → e.tsn ≡ following_tsn d.tsn → e.beginning_fragment ≡ true
    → d.unordered ≡ false → e.unordered ≡ false → d.stream_identifier ≡ e.stream_identifier
    → d.stream_sequence_number ≡ e.stream_sequence_number → ⊥

abbrev pub single_messages : List Message → List Message
single_messages ms = filter (λ m. is_single m.fragments) ms

-- each of these is a write at a place of its own: so no write is read twice
abbrev pub AreSingleWritesOfTheirOwn : Session → Type 0
AreSingleWritesOfTheirOwn s =
    (places : List ℕ) × StandAt s.written (single_messages s.receiving.read) places
    × AllPairs (λ p q. p ≢ q) places

-- ## What SACKs report

-- a DATA chunk with the TSN came: it was dropped, or taken as new
abbrev pub has_arrived : List AnyCall → ℕ → Session → Bool
has_arrived calls tsn s = was_dropped calls tsn || was_taken tsn s

-- of the TSNs from the first on, each that a SACK reports came or was passed, and is one of those given out
abbrev pub ReportWhatArrived : ℕ → ℕ → List AnyCall → Session → Type 0
ReportWhatArrived first count calls s =
    (tsn : ℕ) → tsn < 2 ^ 32 → at_or_before first tsn ≡ true
    → list_any (reports_tsn tsn) s.sacks ≡ true
    → ((has_arrived calls tsn s || was_passed tsn s) ≡ true) × (distance first tsn < count)

-- each chunk in flight that is acknowledged or reported came, or its message is abandoned
abbrev pub AcknowledgedArrived : List AnyCall → Session → Type 0
AcknowledgedArrived calls s =
    All (λ c. is_reported s c ≡ true → (has_arrived calls c.tsn s || c.abandoned) ≡ true)
    s.sending.sender.flight.queue.inflight.chunks

-- of the chunks that a SACK would release, each that has bytes came
abbrev pub ReleasedArrived : List AnyCall → Session → Type 0
ReleasedArrived calls s =
    All (λ sack. All (λ r. 0 < r.bytes → has_arrived calls r.tsn s ≡ true)
    (released_by sack s.sending.sender.flight)) s.sacks

-- of the TSNs from the first on, each up to the acknowledged one came or was passed
abbrev pub LeftArrived : ℕ → List AnyCall → Session → Type 0
LeftArrived first calls s =
    (tsn : ℕ) → tsn < 2 ^ 32 → at_or_before first tsn ≡ true
    → at_or_before tsn s.sending.sender.flight.acked_tsn ≡ true
    → (has_arrived calls tsn s || was_passed tsn s) ≡ true
