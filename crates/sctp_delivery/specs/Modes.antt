-- How each message is to be sent, as the calls of a session say it and not as the sender keeps it: ordered or not, and how far
-- (RFC 8832 5.1, 6; RFC 3758 4.1).
use Rattle.std.specs.Prelude.{◌≡◌, ◌≢◌, ⊤, AllPairs, ℕ, ◌^◌, ◌<◌, ◌==◌, Bool, false, not, ◌&&◌, if◌then◌else◌, List, [], ◌∷◌, length, map, Contains}
use Rattle.std.specs.Prelude.{slice_index_or}
use Rattle.std.specs.Prelude.{Option, Some, None}
use Rattle.sctp_data.specs.declared.chunk.chunk_payload_data.PayloadProtocolIdentifier.{PayloadProtocolIdentifier}
use Rattle.sctp_data.specs.declared.chunk.chunk_payload_data.ReliabilityType.{ReliabilityType}
use Rattle.sctp_data.specs.declared.chunk.chunk_payload_data.ReliabilityType.TheVariants.{Reliable}
use Rattle.sctp_data.specs.PayloadData.{Data}
use Rattle.sctp_data.specs.PayloadTypes.{is_dcep}
use Rattle.sctp_data.specs.Reliability.{deadline_at, is_timed}
use Rattle.sctp_receiver.specs.declared.receiver.limits.Limits.{Limits}
use Rattle.sctp_receiver.specs.ReceiverRuns.{Message}
use Rattle.sctp_delivery.specs.Messages.{IsPart, StandAt}
use Rattle.sctp_delivery.specs.Order.{places_where}
use Rattle.sctp_delivery.specs.Sacks.{tsns_given}
use Rattle.sctp_delivery.specs.SenderCalls.{SenderCall, Write, data_chunk, opens, sends, sets_mode, starts, writes}
use Rattle.sctp_delivery.specs.Session.{Call, RunsTo, Session, at_start, count_in_flight, of_receiver, of_sender}

-- ## What the calls say

pub record Mode : Type 0 where
  pub unordered : Bool
  pub reliability : ReliabilityType
  pub value : ℕ

-- ordered, and sent until it is acknowledged: the mode of a stream that was opened
abbrev pub reliable_mode : Mode
reliable_mode = record { unordered = false; reliability = Reliable; value = 0 }

-- how a write is sent, and the moment of the first start or send behind it, if there was one
pub record Sending : Type 0 where
  pub mode : Mode
  pub started : Option ℕ

-- the mode that each stream has, and how each write is sent, the last one first
pub record Modes : Type 0 where
  pub of_streams : ℕ → Mode
  pub of_writes : List Sending

abbrev pub at_first : Modes
at_first = record { of_streams = λ s. reliable_mode; of_writes = [] }

abbrev pub with_mode_of : ℕ → Mode → Modes → Modes
with_mode_of stream mode m =
    record m { of_streams = λ s. if s == stream then mode else m.of_streams s }

-- a DCEP message is ordered and reliable on each stream (RFC 8832 6)
abbrev pub mode_of_write : PayloadProtocolIdentifier → Mode → Mode
mode_of_write ppi mode = if is_dcep ppi then reliable_mode else mode

abbrev pub moment : ℕ → Option ℕ → Option ℕ
moment now None = Some now
moment now (Some earlier) = Some earlier

abbrev pub starting : ℕ → Sending → Sending
starting now w = record w { started = moment now w.started }

-- when the lifetime of a write is over, where it has one (RFC 3758 4.1)
abbrev pub deadline_from : Mode → Option ℕ → Option ℕ
deadline_from mode None = None
deadline_from mode (Some start) =
    if is_timed mode.reliability then deadline_at start mode.value else None

abbrev pub deadline_of : Sending → Option ℕ
deadline_of w = deadline_from w.mode w.started

abbrev pub all_starting : ℕ → Modes → Modes
all_starting now m = record m { of_writes = map (starting now) m.of_writes }

-- after a call of the sender
abbrev pub modes_after : SenderCall → Modes → Modes
modes_after (opens stream) m = with_mode_of stream reliable_mode m
modes_after (sets_mode stream unordered reliability value) m =
    with_mode_of stream
    (record { unordered = unordered; reliability = reliability; value = value }) m
modes_after (writes stream ppi []) m = m
modes_after (writes stream ppi (b ∷ bs)) m =
    record m {
      of_writes = record { mode = mode_of_write ppi (m.of_streams stream); started = None }
          ∷ m.of_writes;
    }
modes_after (starts now) m = all_starting now m
modes_after (sends now) m = all_starting now m
modes_after _ m = m

-- after calls of both hosts
abbrev pub modes_from : Modes → List Call → Modes
modes_from m [] = m
modes_from m (of_sender call ∷ cs) = modes_from (modes_after call m) cs
modes_from m (of_receiver call ∷ cs) = modes_from m cs

-- the write before which so many were made: that is the number of its message
abbrev pub unknown : Sending
unknown = record { mode = reliable_mode; started = None }

abbrev pub numbered_in : ℕ → List Sending → Sending
numbered_in n [] = unknown
numbered_in n (w ∷ ws) = if length ws == n then w else numbered_in n ws

-- how the writes of a session are sent
abbrev pub sendings : List Call → List Sending
sendings calls = (modes_from at_first calls).of_writes

-- ## Sessions with their calls

-- P of the calls and of the session, after each session whose first TSN is a number of 32 bits, and whose fragments have some bytes
abbrev pub AfterEachFitRun : (List Call → Session → Type 0) → Type 0
AfterEachFitRun P =
    (tsn size max most : ℕ) (limits : Option Limits) (calls : List Call) (s : Session)
    → tsn < 2 ^ 32 → 0 < size → RunsTo (at_start tsn size max most limits) calls s → P calls s

-- and after each of these in which fewer than 2^31 TSNs were given out
abbrev pub AfterEachRunOfFewTsns : (List Call → Session → Type 0) → Type 0
AfterEachRunOfFewTsns P =
    (tsn size max most : ℕ) (limits : Option Limits) (calls : List Call) (s : Session)
    → tsn < 2 ^ 32 → 0 < size → (r : RunsTo (at_start tsn size max most limits) calls s)
    → tsns_given (at_start tsn size max most limits) calls s r < 2 ^ 31 → P calls s

-- fewer than 2^31 chunks are in flight after each call, as a `Sender` sees to it
abbrev pub AreFewInFlight : (old : Session) (calls : List Call) (new : Session)
    → RunsTo old calls new → Type 0
AreFewInFlight old [] new run = ⊤
AreFewInFlight old (c ∷ cs) new run =
    (count_in_flight run.0 < 2 ^ 31) × AreFewInFlight run.0 cs new run.1.1

-- and after each of these in which that is so, however many TSNs were given out
abbrev pub AfterEachRunOfFewInFlight : (List Call → Session → Type 0) → Type 0
AfterEachRunOfFewInFlight P =
    (tsn size max most : ℕ) (limits : Option Limits) (calls : List Call) (s : Session)
    → tsn < 2 ^ 32 → 0 < size → (r : RunsTo (at_start tsn size max most limits) calls s)
    → AreFewInFlight (at_start tsn size max most limits) calls s r → P calls s

abbrev pub WhileFewInFlight : (Session → Type 0) → Type 0
WhileFewInFlight P = AfterEachRunOfFewInFlight (λ calls s. P s)

-- ## Ordered and unordered

-- the write at a place is unordered
abbrev pub IsUnorderedAt : List Sending → ℕ → Bool → Type 0
IsUnorderedAt ws p unordered = (w : Sending) → (slice_index_or ws p w).mode.unordered ≡ unordered

-- each DATA chunk that was made is a part of a write, and says that it is unordered exactly where the write is
abbrev pub AreSentAsWritten : List Call → Session → Type 0
AreSentAsWritten calls s =
    (length (sendings calls) ≡ length s.written)
    × ((d : Data) → Contains s.made (data_chunk d)
    → (p : ℕ) × (p < length s.written) × ((w : Write) → IsPart d (slice_index_or s.written p w))
    × IsUnorderedAt (sendings calls) p d.unordered)

-- the message was read on the stream, and the write at this place is ordered
abbrev pub was_written_ordered : List Sending → ℕ → Message → ℕ → Bool
was_written_ordered ws stream m p =
    (m.stream == stream)
    && not (slice_index_or ws p unknown).mode.unordered

-- each message that was read is a write at a place of its own. On each stream, of two whose writes are ordered the one that was read
-- later was written later: its place is the lower one, since writes and messages have the last one first
abbrev pub AreReadAsWritten : List Call → Session → Type 0
AreReadAsWritten calls s =
    (places : List ℕ) × StandAt s.written s.receiving.read places
    × AllPairs (λ p q. p ≢ q) places
    × ((stream : ℕ)
    → AllPairs (λ p q. p < q)
    (places_where (was_written_ordered (sendings calls) stream) s.receiving.read places))
