-- What a SACK tells of the window, after each run of calls of a receiver (RFC 9260 3.3.4, 6.2).
use Rattle.std.specs.Prelude.{◌≡◌, ℕ, ◌+◌, ◌-◌, ◌^◌, ◌<◌, ◌≤◌, min, List, length, Some, None}
use Rattle.std.specs.List.{sum_by}
use Rattle.sctp_data.specs.declared.chunk.chunk_payload_data.ChunkPayloadData.{ChunkPayloadData}
use Rattle.sctp_data.specs.SelectiveAck.{Sack}
use Rattle.sctp_receiver.specs.declared.receiver.inbound_streams.InboundStream.{InboundStream}
use Rattle.sctp_receiver.specs.declared.receiver.limits.Limits.{Limits}
use Rattle.sctp_receiver.specs.Limits.{chunk_cost}
use Rattle.sctp_receiver.specs.Receiver.{Reception, sack_within, window}
use Rattle.sctp_receiver.specs.ReceiverRuns.{Call, RunsTo, Stand, at_start}
use Rattle.sctp_serial.specs.DataChunks.{bytes_of}

-- ## What chunks cost

-- each its bytes, and a cost of its own
abbrev pub cost_of_chunks : List ChunkPayloadData → ℕ
cost_of_chunks cs = sum_by (λ c. length c.user_data + chunk_cost) cs

-- the chunks that a stream holds: of ordered messages, of complete unordered ones, and unassembled ones
abbrev pub cost_held_on : InboundStream → ℕ
cost_held_on l =
    sum_by (λ set. cost_of_chunks set.chunks) l.queue.held.ordered
    + sum_by (λ set. cost_of_chunks set.chunks) l.queue.held.unordered
    + cost_of_chunks l.queue.held.unassembled

abbrev pub cost_held : Reception → ℕ
cost_held r = sum_by cost_held_on r.streams

-- the messages that were read
abbrev pub cost_read : Stand → ℕ
cost_read s = sum_by (λ m. cost_of_chunks m.fragments) s.read

-- ## Credit

-- a window less such a cost, up to the greatest u32
abbrev pub left_of : ℕ → ℕ → ℕ
left_of window cost = min (window - cost) (2 ^ 32 - 1)

-- the SACK that the receiver makes next, in a chunk of so many bytes at most
abbrev pub next_sack : ℕ → Reception → Sack
next_sack room r = sack_within (window r) room r

abbrev pub credit_within : ℕ → Reception → ℕ
credit_within room r = (next_sack room r).advertised_receiver_window_credit

-- ## The laws

-- P after each run of calls on a new receiver with limits, of which the window is a usize, that took fewer than 2^64 bytes as new
abbrev pub AfterEachLimitedRun : (Limits → Stand → Type 0) → Type 0
AfterEachLimitedRun P =
    (tsn max : ℕ) (limits : Limits) (calls : List Call) (s : Stand) → limits.window < 2 ^ 64
    → RunsTo (at_start tsn max (Some limits)) calls s → bytes_of s.accepted < 2 ^ 64 → P limits s

-- P after each on a new receiver without limits
abbrev pub AfterEachUnlimitedRun : (Stand → Type 0) → Type 0
AfterEachUnlimitedRun P =
    (tsn max : ℕ) (calls : List Call) (s : Stand) → RunsTo (at_start tsn max None) calls s → P s

-- a SACK tells what the window leaves over what is held
abbrev pub TellsWhatIsLeft : Limits → Stand → Type 0
TellsWhatIsLeft l s =
    (room : ℕ) → credit_within room s.receiver ≡ left_of l.window (cost_held s.receiver)

-- it tells no less than the window leaves over what was taken and not read
abbrev pub OpensByReads : Limits → Stand → Type 0
OpensByReads l s =
    (room : ℕ) → left_of l.window (cost_of_chunks s.accepted - cost_read s)
    ≤ credit_within room s.receiver

-- it tells the greatest u32
abbrev pub TellsTheMost : Stand → Type 0
TellsTheMost s = (room : ℕ) → credit_within room s.receiver ≡ 2 ^ 32 - 1
