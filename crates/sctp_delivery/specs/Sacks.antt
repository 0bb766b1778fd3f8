-- What SACKs and FORWARD-TSNs say in a session of two hosts (RFC 4960 3.3.4, 6.2.1; RFC 3758 3.5).
use Rattle.std.specs.Prelude.{◌≡◌, ℕ, ◌+◌, ◌^◌, ◌<◌, nat_le, Bool, true, false, not, ◌&&◌, ◌||◌, List, [], ◌∷◌, length, All, Contains, Option, None}
use Rattle.std.specs.List.{list_any}
use Rattle.sctp_util.specs.Serial.{distance, at_or_before}
use Rattle.sctp_data.specs.declared.chunk.chunk_payload_data.ChunkPayloadData.{ChunkPayloadData}
use Rattle.sctp_data.specs.SelectiveAck.{Sack}
use Rattle.sctp_outbound.specs.payload_queue.Blocks.{is_in_blocks}
use Rattle.sctp_receiver.specs.declared.receiver.limits.Limits.{Limits}
use Rattle.sctp_sender.specs.Flight.{after_sack, released_by, reports, sack_refusal}
use Rattle.sctp_receiver.specs.Receiver.{max_sack_entries}
use Rattle.sctp_serial.specs.DataChunks.{following_tsn, has_tsn}
use Rattle.sctp_delivery.specs.ReceiverCalls as incoming
use Rattle.sctp_delivery.specs.ReceiverCalls.{ReceiverCall, entries_of, is_reporting}
use Rattle.sctp_delivery.specs.SenderCalls.{Made, data_chunk, forward_tsn}
use Rattle.sctp_delivery.specs.Session.{Call, Follows, ReceiverFollows, RunsTo, Session, at_start}

-- ## Sessions with few TSNs

-- how far calls moved the next TSN on: so many TSNs were given out
abbrev pub tsns_given : (old : Session) (calls : List Call) (new : Session)
    → RunsTo old calls new → ℕ
tsns_given old [] new run = 0
tsns_given old (c ∷ cs) new run =
    distance old.sending.sender.flight.next_tsn run.0.sending.sender.flight.next_tsn
    + tsns_given run.0 cs new run.1.1

-- P of the first TSN, of how many TSNs were given out and of the session, after each session that gives out fewer than 2^31; the
-- first one is a number of 32 bits
abbrev pub AfterEachSessionOfFewTsns : (ℕ → ℕ → Session → Type 0) → Type 0
AfterEachSessionOfFewTsns P =
    (tsn size max most : ℕ) (limits : Option Limits) (calls : List Call) (s : Session)
    (run : RunsTo (at_start tsn size max most limits) calls s) → tsn < 2 ^ 32
    → tsns_given (at_start tsn size max most limits) calls s run < 2 ^ 31
    → P tsn (tsns_given (at_start tsn size max most limits) calls s run) s

-- ## What SACKs report

-- no SACK that was made would be refused now
abbrev pub NoneIsRefused : Session → Type 0
NoneIsRefused s = All (λ sack. sack_refusal sack s.sending.sender.flight ≡ None) s.sacks

-- the SACK reports the TSN: cumulatively, or in a gap ack block
abbrev pub reports_tsn : ℕ → Sack → Bool
reports_tsn tsn s =
    at_or_before tsn s.cumulative_tsn_ack
    || is_in_blocks s.gap_ack_blocks (distance s.cumulative_tsn_ack tsn)

-- a DATA chunk with the TSN was taken as new
abbrev pub was_taken : ℕ → Session → Bool
was_taken tsn s = list_any (has_tsn tsn) s.receiving.accepted

-- it is a FORWARD-TSN, and goes to the TSN or beyond
abbrev pub passes : ℕ → Made → Bool
passes tsn (data_chunk d) = false
passes tsn (forward_tsn f) = at_or_before tsn f.new_cumulative_tsn

-- a FORWARD-TSN that was made does
abbrev pub was_passed : ℕ → Session → Bool
was_passed tsn s = list_any (passes tsn) s.made

-- of the TSNs from the first on, each that a SACK reports was taken or passed, and is one of those given out
abbrev pub ReportWhatCame : ℕ → ℕ → Session → Type 0
ReportWhatCame first count s =
    (tsn : ℕ) → tsn < 2 ^ 32 → at_or_before first tsn ≡ true
    → list_any (reports_tsn tsn) s.sacks ≡ true
    → ((was_taken tsn s || was_passed tsn s) ≡ true) × (distance first tsn < count)

-- ## What is acknowledged

-- an earlier SACK acknowledged the chunk, or one that was made reports it
abbrev pub is_reported : Session → ChunkPayloadData → Bool
is_reported s c = c.acked || list_any (λ sack. reports sack c) s.sacks

-- each chunk in flight of which that is so was taken, or its message is abandoned
abbrev pub AcknowledgedCame : Session → Type 0
AcknowledgedCame s =
    All (λ c. is_reported s c ≡ true → (was_taken c.tsn s || c.abandoned) ≡ true)
    s.sending.sender.flight.queue.inflight.chunks

-- in every call of either host a chunk in flight that is acknowledged stays so, while it is in flight
abbrev pub StaysAcknowledged : Session → Type 0
StaysAcknowledged s =
    (call : Call) (t : Session) → Follows call s t → (c d : ChunkPayloadData)
    → Contains s.sending.sender.flight.queue.inflight.chunks c
    → Contains t.sending.sender.flight.queue.inflight.chunks d
    → c.tsn ≡ d.tsn → c.acked ≡ true → d.acked ≡ true

-- of the chunks that such a SACK would release, each that has bytes was taken
abbrev pub ReleasedCame : Session → Type 0
ReleasedCame s =
    All (λ sack. All (λ r. 0 < r.bytes → was_taken r.tsn s ≡ true)
    (released_by sack s.sending.sender.flight)) s.sacks

-- of the TSNs from the first on, each up to the acknowledged one was taken or passed
abbrev pub LeftCame : ℕ → Session → Type 0
LeftCame first s =
    (tsn : ℕ) → tsn < 2 ^ 32 → at_or_before first tsn ≡ true
    → at_or_before tsn s.sending.sender.flight.acked_tsn ≡ true
    → (was_taken tsn s || was_passed tsn s) ≡ true

-- a SACK that was made and has as its cumulative TSN the last one that was given out leaves nothing in flight
abbrev pub AllReportedLeaves : Session → Type 0
AllReportedLeaves s =
    All (λ sack. following_tsn sack.cumulative_tsn_ack ≡ s.sending.sender.flight.next_tsn
    → (after_sack sack s.sending.sender.flight).queue.inflight.chunks ≡ []) s.sacks

-- of the chunks in flight, a FORWARD-TSN that was made passes those of abandoned messages alone
abbrev pub PassAbandoned : Session → Type 0
PassAbandoned s =
    All (λ c. was_passed c.tsn s ≡ true → c.abandoned ≡ true)
    s.sending.sender.flight.queue.inflight.chunks

-- ## What is taken

-- no two of these have the same TSN
abbrev pub are_apart : List ChunkPayloadData → Bool
are_apart [] = true
are_apart (c ∷ cs) = not (list_any (has_tsn c.tsn) cs) && are_apart cs

-- no TSN was taken twice
abbrev pub NoneIsTakenTwice : Session → Type 0
NoneIsTakenTwice s = are_apart s.receiving.accepted ≡ true

-- the TSN after the cumulative one was not taken; and where its blocks are not as many as the SACK can hold, the SACK reports each TSN
-- that was taken, but for those 65,536 or more past the cumulative one
pub record TellsWhatCame (entries : ℕ) (s : Session) (sack : Sack) : Type 0 where
  pub next : was_taken (following_tsn sack.cumulative_tsn_ack) s ≡ false
  pub all : length sack.gap_ack_blocks < entries
      → All (λ c. (reports_tsn c.tsn sack || nat_le (2 ^ 16)
      (distance sack.cumulative_tsn_ack c.tsn)) ≡ true) s.receiving.accepted

-- the receiver makes a SACK, whatever its credit, and it does so
abbrev pub NextSackTells : Session → Type 0
NextSackTells s =
    (credit : ℕ) (new : Session) → ReceiverFollows (incoming.reports credit) s new
    → (sack : Sack) × (new.sacks ≡ sack ∷ s.sacks) × TellsWhatCame max_sack_entries s sack

-- it makes one by whichever call, and it does so
abbrev pub EachSackTells : Session → Type 0
EachSackTells s =
    (call : ReceiverCall) (new : Session) → is_reporting call ≡ true → ReceiverFollows call s new
    → (sack : Sack) × (new.sacks ≡ sack ∷ s.sacks) × TellsWhatCame (entries_of call) s sack
