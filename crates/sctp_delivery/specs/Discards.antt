-- Sessions in which the receiver drops chunks too: a TSN counts as come then, and its chunk is not kept (RFC 9260 6.2, 6.5).
use Rattle.std.specs.Prelude.{◌≡◌, ℕ, ◌+◌, ◌^◌, ◌<◌, ◌||◌, Bool, true, false, List, [], ◌∷◌, All, Contains, Option, None}
use Rattle.std.specs.List.{list_any}
use Rattle.sctp_util.specs.Serial.{distance, at_or_before}
use Rattle.sctp_data.specs.declared.chunk.chunk_payload_data.ChunkPayloadData.{ChunkPayloadData}
use Rattle.sctp_data.specs.PayloadData.{data_of}
use Rattle.sctp_receiver.specs.declared.receiver.limits.Limits.{Limits}
use Rattle.sctp_receiver.specs.Receiver.{Reception, discard_refusal}
use Rattle.sctp_receiver.specs.ReceiverRuns as receiver_runs
use Rattle.sctp_sender.specs.Flight.{released_by}
use Rattle.sctp_serial.specs.DataChunks.{has_tsn}
use Rattle.sctp_delivery.specs.Sacks.{is_reported, reports_tsn, was_passed, was_taken}
use Rattle.sctp_delivery.specs.SenderCalls.{data_chunk}
use Rattle.sctp_delivery.specs.Session.{Call, Follows, Session, at_start}

-- ## One call

-- a call of a session, or the receiver's `discard` of the TSN of a DATA chunk, where it is not refused
pub data CallOrDiscard : Type 0 where
  makes : Call → CallOrDiscard
  discards : ChunkPayloadData → CallOrDiscard

-- what it makes of the receiver
abbrev pub ReceiverDiscards : ℕ → Reception → Reception → Type 0
ReceiverDiscards tsn old new =
    receiver_runs.Makes (receiver_runs.discards tsn) old new × (discard_refusal tsn old ≡ None)

-- the sender made the chunk, and stays as it is
pub record Discards (c : ChunkPayloadData) (old new : Session) : Type 0 where
  pub handed : Contains old.made (data_chunk (data_of c))
  pub step : receiver_runs.Follows (receiver_runs.discards c.tsn) old.receiving new.receiving
  pub accepted : discard_refusal c.tsn old.receiving.receiver ≡ None
  pub after : new ≡ record {
    sending = old.sending;
    receiving = new.receiving;
    made = old.made;
    sacks = old.sacks;
    written = old.written;
  }

abbrev pub FollowsOrDiscards : CallOrDiscard → Session → Session → Type 0
FollowsOrDiscards (makes call) old new = Follows call old new
FollowsOrDiscards (discards c) old new = Discards c old new

-- ## Calls one after another, in any order

abbrev pub RunsWithDiscards : Session → List CallOrDiscard → Session → Type 0
RunsWithDiscards old [] new = new ≡ old
RunsWithDiscards old (c ∷ cs) new =
    (mid : Session) × (FollowsOrDiscards c old mid × RunsWithDiscards mid cs new)

-- so many TSNs were given out
abbrev pub tsns_given_so : (old : Session) (calls : List CallOrDiscard) (new : Session)
    → RunsWithDiscards old calls new → ℕ
tsns_given_so old [] new run = 0
tsns_given_so old (c ∷ cs) new run =
    distance old.sending.sender.flight.next_tsn run.0.sending.sender.flight.next_tsn
    + tsns_given_so run.0 cs new run.1.1

-- a chunk with the TSN was dropped
abbrev pub was_discarded : ℕ → List CallOrDiscard → Bool
was_discarded tsn [] = false
was_discarded tsn (makes call ∷ cs) = was_discarded tsn cs
was_discarded tsn (discards c ∷ cs) = has_tsn tsn c || was_discarded tsn cs

-- ## Sessions

-- P after each such session
abbrev pub AfterEachWithDiscards : (Session → Type 0) → Type 0
AfterEachWithDiscards P =
    (tsn size max most : ℕ) (limits : Option Limits) (calls : List CallOrDiscard) (s : Session)
    → RunsWithDiscards (at_start tsn size max most limits) calls s → P s

-- after each that gives out fewer TSNs than this; the first one is a number of 32 bits, and fragments have some bytes
abbrev pub WhileFewerTsnsWithDiscards : ℕ → (Session → Type 0) → Type 0
WhileFewerTsnsWithDiscards most_tsns P =
    (tsn size max most : ℕ) (limits : Option Limits) (calls : List CallOrDiscard) (s : Session)
    → tsn < 2 ^ 32 → 0 < size
    → (r : RunsWithDiscards (at_start tsn size max most limits) calls s)
    → tsns_given_so (at_start tsn size max most limits) calls s r < most_tsns → P s

-- P of the first TSN, of how many TSNs were given out, of the calls and of the session, after each that gives out fewer than 2^31; the
-- first one is a number of 32 bits
abbrev pub AfterEachWithDiscardsOfFewTsns : (ℕ → ℕ → List CallOrDiscard → Session → Type 0) → Type 0
AfterEachWithDiscardsOfFewTsns P =
    (tsn size max most : ℕ) (limits : Option Limits) (calls : List CallOrDiscard) (s : Session)
    → (run : RunsWithDiscards (at_start tsn size max most limits) calls s) → tsn < 2 ^ 32
    → tsns_given_so (at_start tsn size max most limits) calls s run < 2 ^ 31
    → P tsn (tsns_given_so (at_start tsn size max most limits) calls s run) calls s

-- ## What SACKs report

-- a DATA chunk with the TSN came: it was dropped, or taken as new
abbrev pub came : ℕ → List CallOrDiscard → Session → Bool
came tsn calls s = was_discarded tsn calls || was_taken tsn s

-- of the TSNs from the first on, each that a SACK reports came or was passed, and is one of those given out
abbrev pub ReportWhatCameSo : ℕ → ℕ → List CallOrDiscard → Session → Type 0
ReportWhatCameSo first count calls s =
    (tsn : ℕ) → tsn < 2 ^ 32 → at_or_before first tsn ≡ true
    → list_any (reports_tsn tsn) s.sacks ≡ true
    → ((came tsn calls s || was_passed tsn s) ≡ true) × (distance first tsn < count)

-- each chunk in flight that is acknowledged or reported came, or its message is abandoned
abbrev pub AcknowledgedCameSo : List CallOrDiscard → Session → Type 0
AcknowledgedCameSo calls s =
    All (λ c. is_reported s c ≡ true → (came c.tsn calls s || c.abandoned) ≡ true)
    s.sending.sender.flight.queue.inflight.chunks

-- of the chunks that a SACK would release, each that has bytes came
abbrev pub ReleasedCameSo : List CallOrDiscard → Session → Type 0
ReleasedCameSo calls s =
    All (λ sack. All (λ r. 0 < r.bytes → came r.tsn calls s ≡ true)
    (released_by sack s.sending.sender.flight)) s.sacks

-- of the TSNs from the first on, each up to the acknowledged one came or was passed
abbrev pub LeftCameSo : ℕ → List CallOrDiscard → Session → Type 0
LeftCameSo first calls s =
    (tsn : ℕ) → tsn < 2 ^ 32 → at_or_before first tsn ≡ true
    → at_or_before tsn s.sending.sender.flight.acked_tsn ≡ true
    → (came tsn calls s || was_passed tsn s) ≡ true
