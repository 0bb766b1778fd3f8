-- Runs of calls of a sender, and where the bytes are that were written.
use Rattle.std.specs.Prelude.{◌≡◌, ℕ, ◌+◌, Bool, List, [], ◌∷◌, length}
use Rattle.std.specs.List.{sum_by}
use Rattle.sctp_data.specs.declared.chunk.chunk_payload_data.ChunkPayloadData.{ChunkPayloadData}
use Rattle.sctp_data.specs.declared.chunk.chunk_payload_data.ReliabilityType.{ReliabilityType}
use Rattle.sctp_outbound.specs.outbound_queue.OutboundQueue.{all_started, total_bytes}
use Rattle.sctp_sender.specs.declared.sender.Reported.{Reported}
use Rattle.sctp_sender.specs.declared.sender.flight.late.AbandonedMessage.{AbandonedMessage}
use Rattle.sctp_sender.specs.declared.sender.flight.Released.{Released}
use Rattle.sctp_sender.specs.declared.sender.flight.kept.TakenBack.{TakenBack}
use Rattle.sctp_sender.specs.Flight.{resent, with_queue, with_room}
use Rattle.sctp_sender.specs.Sender.{Transmission, open_stream, close_stream, with_flight, with_mode_on, with_nothing, with_reported}
use Rattle.sctp_sender.specs.Resending.{after_misses, all_marked, resent_at}
use Rattle.sctp_sender.specs.Settings.{reset_on, with_fragment_size, with_low_on}
use Rattle.sctp_sender.specs.Keeping.{bytes_back}
use Rattle.sctp_sender.specs.Totals.{bytes_in}

-- ## One call

-- a call that is not refused, with the bytes that are written or those that it answers; a refused one changes nothing
pub data Call : Type 0 where
  opens : ℕ → Call
  closes : ℕ → Call
  sets_mode : ℕ → Bool → ReliabilityType → ℕ → Call
  starts : ℕ → Call
  reserves : ℕ → Call
  sets_size : ℕ → Call
  sets_low : ℕ → ℕ → Call
  resets : ℕ → Call
  -- `count_resend`
  resends : ℕ → ChunkPayloadData → Call
  -- `resend`
  resends_at : ℕ → ℕ → ChunkPayloadData → Call
  -- `retransmit_all`
  marks : Call
  -- `add_miss_indications`
  misses : ℕ → Call
  -- `write`
  writes : List ℕ → Call
  -- `send_next`, `send_next_tsn`, `send_next_tsn_unbounded`
  sends : Call
  -- `abandon`, `expire`, `expire_run`, `expire_tail`: so many bytes leave, none where the call answers None
  abandons : ℕ → Call
  -- `expire_late`, `expire_rexmit`
  abandons_late : List AbandonedMessage → Call
  -- `acked`
  takes_sack : List Released → Call
  -- `take_back`
  takes_back : List TakenBack → Call

abbrev pub held_by_sender : Transmission → ℕ
held_by_sender t = total_bytes t.flight.queue

abbrev pub bytes_of_all : List AbandonedMessage → ℕ
bytes_of_all gs = sum_by (λ g. g.bytes) gs

-- of what each call ensures, the part on which bytes depend
abbrev pub Makes : Call → Transmission → Transmission → Type 0
Makes (opens stream) old new = new ≡ open_stream stream old
Makes (closes stream) old new = new ≡ close_stream stream old
Makes (sets_mode stream unordered reliability value) old new =
    new ≡ with_mode_on stream unordered reliability value old
Makes (starts now) old new =
    new ≡ with_flight (with_queue old.flight (all_started now old.flight.queue)) old
Makes (reserves count) old new =
    new ≡ with_flight (with_queue old.flight (with_room count old.flight.queue)) old
Makes (sets_size size) old new = new ≡ with_fragment_size size old
Makes (sets_low stream bytes) old new = new ≡ with_low_on stream bytes old
Makes (resets stream) old new = new ≡ reset_on stream old
Makes (resends tsn c) old new = new ≡ with_flight (resent tsn c old.flight) old
Makes (resends_at tsn now c) old new = new ≡ with_flight (resent_at tsn now c old.flight) old
Makes marks old new = new ≡ with_flight (all_marked old.flight) old
Makes (misses count) old new = new ≡ with_flight (after_misses count old.flight) old
Makes (writes bytes) old new = held_by_sender new ≡ held_by_sender old + length bytes
Makes sends old new = held_by_sender new ≡ held_by_sender old
Makes (abandons bytes) old new = held_by_sender new + bytes ≡ held_by_sender old
Makes (abandons_late gone) old new = held_by_sender new + bytes_of_all gone ≡ held_by_sender old
Makes (takes_sack gone) old new = held_by_sender new + bytes_in gone ≡ held_by_sender old
Makes (takes_back back) old new = held_by_sender new ≡ held_by_sender old + bytes_back back

abbrev pub written_by : Call → ℕ
written_by (writes bytes) = length bytes
written_by _ = 0

abbrev pub released_by : Call → ℕ
released_by (abandons bytes) = bytes
released_by (abandons_late gone) = bytes_of_all gone
released_by (takes_sack gone) = bytes_in gone
released_by _ = 0

abbrev pub taken_back_by : Call → ℕ
taken_back_by (takes_back back) = bytes_back back
taken_back_by _ = 0

-- ## A run of calls

-- the sender, how many bytes were written, how many the calls answered that left, and how many that came back
pub record Ledger : Type 0 where
  pub sender : Transmission
  pub written : ℕ
  pub released : ℕ
  pub taken_back : ℕ

-- one call, and calls one after another
pub record Follows (c : Call) (old new : Ledger) : Type 0 where
  pub sender : Makes c old.sender new.sender
  pub written : new.written ≡ old.written + written_by c
  pub released : new.released ≡ old.released + released_by c
  pub taken_back : new.taken_back ≡ old.taken_back + taken_back_by c

abbrev pub RunsTo : Ledger → List Call → Ledger → Type 0
RunsTo old [] new = new ≡ old
RunsTo old (c ∷ cs) new = (mid : Ledger) × (Follows c old mid × RunsTo mid cs new)

abbrev pub with_no_bytes : Transmission → Ledger
with_no_bytes t = record { sender = t; written = 0; released = 0; taken_back = 0 }

abbrev pub at_start : ℕ → ℕ → ℕ → Ledger
at_start tsn size max = with_no_bytes (with_nothing tsn size max)

-- P after each run of calls on a new sender
abbrev pub AfterEachRun : (Ledger → Type 0) → Type 0
AfterEachRun P =
    (tsn size max : ℕ) (reported : Reported) (calls : List Call) (l : Ledger)
    → RunsTo (with_no_bytes (with_reported reported (with_nothing tsn size max))) calls l → P l

-- ## The law

-- each byte that was written waits, is in flight, or was answered as one that left; one that came back leaves once more
abbrev pub IsAccounted : Ledger → Type 0
IsAccounted l = l.written + l.taken_back ≡ held_by_sender l.sender + l.released
