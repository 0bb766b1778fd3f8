-- Messages in flight whose lifetime is over, or which were sent as often as they may be (RFC 3758 3.5, 4.1; RFC 7496 3.1).
use Rattle.std.specs.Prelude.{ℕ, ◌-◌, false, if◌then◌else◌, List, [], ◌∷◌, ◌++◌, Option, Some, None, option_to_list}
use Rattle.std.specs.List.{find}
use Rattle.sctp_data.specs.declared.chunk.chunk_payload_data.ChunkPayloadData.{ChunkPayloadData}
use Rattle.sctp_util.specs.Lists.{change_where}
use Rattle.sctp_outbound.specs.outbound_queue.OutboundQueue.{late_tsns, total_bytes}
use Rattle.sctp_serial.specs.DataChunks.{has_tsn}
use Rattle.sctp_sender.specs.declared.sender.flight.late.AbandonedMessage.{AbandonedMessage}
use Rattle.sctp_stream.specs.declared.outbound_stream.OutboundStream.{OutboundStream}
use Rattle.sctp_sender.specs.Flight.{Flight, after_abandonment, has_tail_at, message_to_abandon}
use Rattle.sctp_sender.specs.Outgoing.{has_number, less_by}
use Rattle.sctp_sender.specs.Resending.{worn_tsns}
use Rattle.sctp_sender.specs.Sender.{Transmission}

-- the message of a TSN is abandoned, as `abandon` does
abbrev pub abandoned_at : ℕ → Flight → Flight
abandoned_at tsn f = after_abandonment (message_to_abandon tsn f) f

-- and those of these TSNs, one after another
abbrev pub abandoned_each : List ℕ → Flight → Flight
abandoned_each [] f = f
abandoned_each (tsn ∷ tsns) f = abandoned_each tsns (abandoned_at tsn f)

-- what is told of a message that is abandoned with its chunk, and of none that was abandoned before
abbrev pub abandoned_with : Option ChunkPayloadData → ℕ → List AbandonedMessage
abandoned_with None bytes = []
abandoned_with (Some c) bytes =
    if c.abandoned then [] else record {
      stream = c.stream_identifier;
      number = c.message_id;
      bytes = bytes;
      is_low = false;
    } ∷ []

-- the message of a TSN, with the bytes that leave with it
abbrev pub leaving_at : ℕ → Flight → List AbandonedMessage
leaving_at tsn f =
    abandoned_with (find (has_tsn tsn) f.queue.inflight.chunks)
    (total_bytes f.queue - total_bytes (abandoned_at tsn f).queue)

abbrev pub leaving_each : List ℕ → Flight → List AbandonedMessage
leaving_each [] f = []
leaving_each (tsn ∷ tsns) f = leaving_at tsn f ++ leaving_each tsns (abandoned_at tsn f)

-- ## The order

-- the first of these TSNs whose message has a tail
abbrev pub with_tail : List ℕ → Flight → Option ℕ
with_tail tsns f = find (has_tail_at f) tsns

-- these TSNs, and before them that of the message with a tail, whose terminal chunk alone may be refused
abbrev pub tail_first : List ℕ → Flight → List ℕ
tail_first tsns f = option_to_list (with_tail tsns f) ++ tsns

-- the TSNs of what is late, in that order
abbrev pub late_order : ℕ → Flight → List ℕ
late_order now f = tail_first (late_tsns now f.queue) f

-- and those of what was sent as often as it may be
abbrev pub worn_order : Flight → List ℕ
worn_order f = tail_first (worn_tsns f) f

-- ## The streams

-- each stream has less by what left of it, one message after another
abbrev pub after_leaving : List AbandonedMessage → List OutboundStream → List OutboundStream
after_leaving [] ls = ls
after_leaving (g ∷ gs) ls =
    after_leaving gs (change_where (has_number g.stream) (less_by g.bytes) ls)

-- the messages of these TSNs are abandoned, and each stream has so much less
abbrev pub after_abandoning : List ℕ → Transmission → Transmission
after_abandoning tsns t = record t {
  streams = after_leaving (leaving_each tsns t.flight) t.streams;
  flight = abandoned_each tsns t.flight;
}

abbrev pub after_late : ℕ → Transmission → Transmission
after_late now t = after_abandoning (late_order now t.flight) t

abbrev pub after_worn : Transmission → Transmission
after_worn t = after_abandoning (worn_order t.flight) t
