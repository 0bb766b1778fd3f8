-- The sending half of a link as callers see it (RFC 4960 6.1, 6.2.1, 6.9).
use Rattle.std.specs.Prelude.{ℕ, ◌+◌, ◌^◌, Bool, not, ◌&&◌, ◌||◌, nat_lt, if◌then◌else◌, List, [], ◌∷◌, ◌++◌, Option, Some, None, is_some}
use Rattle.std.specs.Option.{option_map}
use Rattle.std.specs.List.{find}
use Rattle.sctp_util.specs.Lists.{change_where}
use Rattle.sctp_data.specs.declared.chunk.chunk_payload_data.ChunkPayloadData.{ChunkPayloadData}
use Rattle.sctp_data.specs.declared.chunk.chunk_payload_data.PayloadProtocolIdentifier.{PayloadProtocolIdentifier}
use Rattle.sctp_data.specs.declared.chunk.chunk_payload_data.ReliabilityType.{ReliabilityType}
use Rattle.sctp_data.specs.SelectiveAck.{Sack}
use Rattle.sctp_outbound.specs.outbound_queue.OutboundQueue.{Outbound, with_message, total_bytes, expired_of, expired_times, sent_next}
use Rattle.sctp_stream.specs.declared.outbound_stream.OutboundStream.{OutboundStream}
use Rattle.sctp_sender.specs.declared.sender.Reported.{Reported}
use Rattle.sctp_sender.specs.declared.sender.Reported.TheVariants.{Drop, Keep}
use Rattle.sctp_sender.specs.declared.sender.flight.kept.TakenBack.{TakenBack}
use Rattle.sctp_sender.specs.declared.sender.refusal.SenderRefusal.{SenderRefusal}
use Rattle.sctp_sender.specs.declared.sender.refusal.SenderRefusal.TheVariants.{StreamUnknown, MessageTooLarge, QueueFull}
use Rattle.sctp_sender.specs.Flight.{Flight, with_queue, at_first, after_sack, released_by, is_outdated, sack_refusal, next_after_send, after_abandonment}
use Rattle.sctp_sender.specs.Keeping.{after_returns, bytes_back, coming_back, kept_after, answered_back, with_restored}
use Rattle.sctp_sender.specs.Outgoing.{has_number, with_mode, fragments_with_mode, wrote, after_releases, less_by, after_expiries, after_expiry}
use Rattle.sctp_stream.specs.Numbers.{swapped_out}
use Rattle.sctp_stream.specs.Stream.{new_stream}

-- the open streams in the order in which they were opened, but that where one was closed, the last one stands in its place; what
-- waits and what is in flight; how long a fragment is, and how long a message may be; and what is kept of the chunks in flight
-- that gap ack blocks reported, where the sender keeps them
pub record Transmission : Type 0 where
  pub streams : List OutboundStream
  pub flight : Flight
  pub fragment_size : ℕ
  pub max_message_size : ℕ
  pub kept : Option (List (Option (List ℕ)))

abbrev pub with_nothing : ℕ → ℕ → ℕ → Transmission
with_nothing tsn size max =
    record {
      streams = [];
      flight = at_first tsn;
      fragment_size = size;
      max_message_size = max;
      kept = None;
    }

-- the user data of chunks that gap ack blocks report is kept, or not
abbrev pub with_reported : Reported → Transmission → Transmission
with_reported Drop t = t
with_reported Keep t = record t { kept = Some [] }

abbrev pub stream_of : ℕ → Transmission → Option OutboundStream
stream_of s t = find (has_number s) t.streams

abbrev pub is_open : ℕ → Transmission → Bool
is_open s t = is_some (stream_of s t)

abbrev pub with_streams : List OutboundStream → Transmission → Transmission
with_streams ls t = record t { streams = ls }

abbrev pub with_flight : Flight → Transmission → Transmission
with_flight f t = record t { flight = f }

abbrev pub open_stream : ℕ → Transmission → Transmission
open_stream s t =
    with_streams (t.streams ++ new_stream s t.fragment_size ∷ []) t

-- the stream is open no more, and the last one takes its place; what waits and is in flight stays
abbrev pub close_stream : ℕ → Transmission → Transmission
close_stream s t = with_streams (swapped_out (has_number s) t.streams) t

abbrev pub with_mode_on : ℕ → Bool → ReliabilityType → ℕ → Transmission → Transmission
with_mode_on s unordered reliability value t =
    with_streams (change_where (has_number s) (with_mode unordered reliability value) t.streams) t

-- ## Writing

-- numbers of messages or bytes are used up
abbrev pub is_full_of : ℕ → Outbound → Bool
is_full_of len q =
    not (nat_lt (q.next_message_id + 1) (2 ^ 64)) || not (nat_lt (total_bytes q + len) (2 ^ 64))

abbrev pub is_full : ℕ → Transmission → Bool
is_full len t = is_full_of len t.flight.queue

abbrev pub write_refusal : ℕ → ℕ → Transmission → Option SenderRefusal
write_refusal s len t =
    if not (is_open s t) then Some StreamUnknown
    else (if nat_lt t.max_message_size len then Some MessageTooLarge
    else (if is_full len t then Some QueueFull else None))

-- the fragments of a write wait; one of no bytes changes nothing
abbrev pub written_to : OutboundStream → ℕ → PayloadProtocolIdentifier → List ℕ → Transmission
    → Transmission
written_to l s ppi bytes t = record t {
  streams = change_where (has_number s) (wrote ppi bytes) t.streams;
  flight = with_queue t.flight (with_message (fragments_with_mode l ppi bytes) t.flight.queue);
}

-- ## Sending

-- the fragment that is next is in flight, and lifetimes start
abbrev pub after_send : ℕ → Transmission → Transmission
after_send now t =
    with_flight (record t.flight {
      queue = sent_next t.flight.queue t.flight.next_tsn now;
      next_tsn = next_after_send t.flight;
    }) t

-- ## A SACK

abbrev pub after_acked : Sack → Transmission → Transmission
after_acked s t =
    record t {
      streams = after_releases (released_by s t.flight) t.streams;
      flight = after_sack s t.flight;
      kept = option_map (kept_after s t.flight) t.kept;
    }

-- ## Taking back (RFC 4960 6.2.1 D iv)

-- what comes back, where something is kept
abbrev pub back_by : Sack → Flight → Option (List (Option (List ℕ))) → List (Option (List ℕ))
back_by s f None = []
back_by s f (Some ks) = coming_back s f ks

-- the chunks that the SACK takes back, in order of TSNs
abbrev pub taken_back_by : Sack → Transmission → List TakenBack
taken_back_by s t = answered_back (back_by s t.flight t.kept) t.flight.queue.inflight.chunks

-- they are outstanding again, and each stream has so much more
abbrev pub after_take_back : Sack → Transmission → Transmission
after_take_back s t =
    record t {
      streams = after_returns (taken_back_by s t) t.streams;
      flight = with_restored (back_by s t.flight t.kept) t.flight;
    }

-- the refusal of the SACK, or that there are too many bytes
abbrev pub or_full : Option SenderRefusal → Bool → Option SenderRefusal
or_full (Some e) fits = Some e
or_full None fits = if fits then None else Some QueueFull

-- none where nothing is kept, or the SACK is out of date
abbrev pub take_back_refusal : Sack → Transmission → Option SenderRefusal
take_back_refusal s t =
    if is_some t.kept && not (is_outdated s t.flight) then or_full (sack_refusal s t.flight)
    (nat_lt (total_bytes t.flight.queue + bytes_back (taken_back_by s t)) (2 ^ 64))
    else None

-- ## Abandoning

-- a message is abandoned, and its stream has so many bytes less
abbrev pub after_abandon : Option ℕ → ℕ → ℕ → Transmission → Transmission
after_abandon message stream bytes t = record t {
  streams = change_where (has_number stream) (less_by bytes) t.streams;
  flight = after_abandonment message t.flight;
}

-- the message past its deadline that begins with a chunk is gone, unsent
abbrev pub after_expire : ChunkPayloadData → ℕ → ℕ → Transmission → Transmission
after_expire c bytes now t = record t {
  streams = change_where (has_number c.stream_identifier)
      (after_expiry c.unordered bytes) t.streams;
  flight = with_queue t.flight (expired_of (Some c) t.flight.queue);
}

-- and so many such messages of one stream, one after another
abbrev pub after_expire_run : ℕ → Bool → ℕ → ℕ → ℕ → Transmission → Transmission
after_expire_run stream unordered messages bytes now t = record t {
  streams = change_where (has_number stream)
      (after_expiries unordered messages bytes) t.streams;
  flight = with_queue t.flight (expired_times now messages t.flight.queue);
}
