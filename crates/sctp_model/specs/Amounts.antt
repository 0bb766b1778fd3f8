-- Bytes: each written one is pending, in flight or released. And the counters of a stream.
use Rattle.std.specs.Prelude.{ℕ, ◌+◌, ◌-◌, ◌^◌, min, Bool, ◌&&◌, ◌||◌, not, ◌==◌, if◌then◌else◌, length, Option, Some, None}
use Rattle.sctp_util.specs.Kept.{total_over, numbers_from}
use Rattle.sctp_data.specs.PayloadTypes.{has_bytes, is_counted}
use Rattle.sctp_model.specs.LinkRecord.{LinkRecord}
use Rattle.sctp_model.specs.Messages.{message_at, slot_at, messages_where, slots_where, has_fragment, sent_of, fragment_count, fragment_at, is_open}

-- message n expired or was abandoned
abbrev pub is_expired_or_abandoned : LinkRecord → ℕ → Bool
is_expired_or_abandoned w n = (message_at w n).expired || (message_at w n).abandoned

-- how many bytes of message n were written
abbrev pub written_bytes : LinkRecord → ℕ → ℕ
written_bytes w n = length (message_at w n).bytes

-- how many bytes its fragments without a slot have
abbrev pub unsent_bytes : LinkRecord → ℕ → ℕ
unsent_bytes w n =
    total_over (λ i. length (fragment_at w n i))
    (numbers_from (sent_of w n) (fragment_count w n - sent_of w n))

-- how many bytes the fragment in a slot of message n has
abbrev pub slot_bytes : LinkRecord → ℕ → ℕ → ℕ
slot_bytes w n place = length (fragment_at w n (slot_at w place).fragment)

-- how many bytes of message n lie in slots that are not acknowledged
abbrev pub unacknowledged_bytes : LinkRecord → ℕ → ℕ
unacknowledged_bytes w n =
    total_over (slot_bytes w n) (slots_where w
    (λ place. has_fragment w n place && not (slot_at w place).acknowledged))

-- how many bytes of message n lie in acknowledged slots
abbrev pub acknowledged_bytes : LinkRecord → ℕ → ℕ
acknowledged_bytes w n =
    total_over (slot_bytes w n) (slots_where w
    (λ place. has_fragment w n place && (slot_at w place).acknowledged))

-- the bytes of message n that wait for a slot
abbrev pub pending_bytes : LinkRecord → ℕ → ℕ
pending_bytes w n = if is_expired_or_abandoned w n then 0 else unsent_bytes w n

-- the bytes of message n that are in flight
abbrev pub in_flight_bytes : LinkRecord → ℕ → ℕ
in_flight_bytes w n = if is_expired_or_abandoned w n then 0 else unacknowledged_bytes w n

-- the bytes of message n that were released: all where it expired or was abandoned, else those acknowledged
abbrev pub released_bytes : LinkRecord → ℕ → ℕ
released_bytes w n =
    if is_expired_or_abandoned w n then written_bytes w n else acknowledged_bytes w n

-- the sum over all messages
abbrev pub in_all : LinkRecord → (ℕ → ℕ) → ℕ
in_all w f = total_over f (numbers_from 0 (length w.messages))

-- the sum over the messages of stream s
abbrev pub on_stream : LinkRecord → ℕ → (ℕ → ℕ) → ℕ
on_stream w s f = total_over f (messages_where w (λ n. (message_at w n).stream == s))

-- the four sums
pub record Ledger : Type 0 where
  pub written : ℕ
  pub pending : ℕ
  pub in_flight : ℕ
  pub released : ℕ

-- the four sums over all messages
abbrev pub ledger : LinkRecord → Ledger
ledger w =
    record {
      written = in_all w (written_bytes w);
      pending = in_all w (pending_bytes w);
      in_flight = in_all w (in_flight_bytes w);
      released = in_all w (released_bytes w);
    }

-- what a stream still has to send or to see acknowledged, where it is open
abbrev pub buffered_amount : LinkRecord → ℕ → Option ℕ
buffered_amount w s =
    if is_open w s then Some (on_stream w s (pending_bytes w) + on_stream w s (in_flight_bytes w))
    else None

-- by how much the released bytes grow from one record to another
abbrev pub growth : LinkRecord → LinkRecord → ℕ
growth old new = in_all new (released_bytes new) - in_all old (released_bytes old)

-- ## Counters (RFC 8831: DCEP and unknown payload types count nothing, the empty kinds no bytes)

-- a counter stops at the greatest u64
abbrev pub saturate : ℕ → ℕ
saturate n = min n (2 ^ 64 - 1)

-- the counters of a stream
pub record Counters : Type 0 where
  pub stream_identifier : ℕ
  pub generation : ℕ
  pub messages_sent : ℕ
  pub bytes_sent : ℕ
  pub messages_received : ℕ
  pub bytes_received : ℕ

-- message n as a counter of messages sees it
abbrev pub message_count : LinkRecord → ℕ → ℕ
message_count w n = if is_counted (message_at w n).ppi then 1 else 0

-- message n as a counter of bytes sees it
abbrev pub counted_bytes : LinkRecord → ℕ → ℕ
counted_bytes w n = if has_bytes (message_at w n).ppi then written_bytes w n else 0

-- only where message n was read
abbrev pub if_read : LinkRecord → (ℕ → ℕ) → ℕ → ℕ
if_read w f n = if (message_at w n).read then f n else 0

-- the counters of a stream, where it is open
abbrev pub counters_of : LinkRecord → ℕ → Option Counters
counters_of w s =
    if is_open w s
    then Some (record {
      stream_identifier = s;
      generation = 0;
      messages_sent = saturate (on_stream w s (message_count w));
      bytes_sent = saturate (on_stream w s (counted_bytes w));
      messages_received = saturate (on_stream w s (if_read w (message_count w)));
      bytes_received = saturate (on_stream w s (if_read w (counted_bytes w)));
    })
    else None
