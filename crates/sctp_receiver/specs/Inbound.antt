-- The streams of a receiver.
use Rattle.std.specs.Prelude.{◌≡◌, ℕ, ◌==◌, Bool, true, false, List, [], ◌∷◌, map, Option, Some, None}
use Rattle.std.specs.List.{find, filter}
use Rattle.sctp_data.specs.PayloadTypes.{counted_as}
use Rattle.sctp_util.specs.Lists.{change_where}
use Rattle.sctp_data.specs.declared.chunk.chunk_payload_data.ChunkPayloadData.{ChunkPayloadData}
use Rattle.sctp_data.specs.declared.chunk.chunk_forward_tsn.ChunkForwardTsnStream.{ChunkForwardTsnStream}
use Rattle.sctp_data.specs.ChunkSet.{ChunkSet}
use Rattle.sctp_serial.specs.DataChunks.{bytes_of}
use Rattle.sctp_reassembly.specs.reassembly_queue.ReassemblyQueue.{ReassemblyState, PushesUnordered, after_ordered_push, is_complete_with, message_read}
use Rattle.sctp_reassembly.specs.reassembly_queue.ReassemblyQueue.{state_read, after_ordered_skip, after_unordered_skip}
use Rattle.sctp_receiver.specs.declared.receiver.inbound_streams.InboundStream.{InboundStream}
use Rattle.sctp_stream.specs.declared.stream.DataChannelStats.{DataChannelStats}
use Rattle.sctp_stream.specs.Stats.{with_received}

abbrev pub number : InboundStream → ℕ
number l = l.queue.si

abbrev pub has_number : ℕ → InboundStream → Bool
has_number s l = l.queue.si == s

abbrev pub numbers_of : List InboundStream → List ℕ
numbers_of ls = map number ls

-- a stream on which nothing came
abbrev pub new_stream : ℕ → ℕ → InboundStream
new_stream s max = record {
  queue =
      record {
        si = s;
        held = record {
          next_ssn = 0;
          ordered = [];
          unordered = [];
          unassembled = [];
        };
        bytes = 0;
        max_message_size = max;
        places = 0;
      };
  stats =
      record {
        stream_identifier = s;
        generation = 0;
        messages_sent = 0;
        bytes_sent = 0;
        messages_received = 0;
        bytes_received = 0;
      };
}

abbrev pub with_queue : ReassemblyState → InboundStream → InboundStream
with_queue q l = record l { queue = q }

-- ## A fragment comes

-- what it makes of its stream's queue, where it is unordered and where it is not, and whether a message became complete by it
abbrev pub PushesAs : Bool → ChunkPayloadData → Bool → ReassemblyState → ReassemblyState → Type 0
PushesAs false c complete old new =
    (new ≡ after_ordered_push c old) × (complete ≡ is_complete_with c old.held)
PushesAs true c complete old new = PushesUnordered c old new complete

abbrev pub Pushes : ChunkPayloadData → Bool → ReassemblyState → ReassemblyState → Type 0
Pushes c complete old new = PushesAs c.unordered c complete old new

-- and of the streams
pub record PushesOn (c : ChunkPayloadData) (complete : Bool) (old new : List InboundStream)
    : Type 0 where
  pub stream : InboundStream
  pub found : find (has_number c.stream_identifier) old ≡ Some stream
  pub queue : ReassemblyState
  pub pushed : Pushes c complete stream.queue queue
  pub after : new ≡ change_where (has_number c.stream_identifier) (with_queue queue) old

-- ## A message is read

abbrev pub count_read : Option ChunkSet → DataChannelStats → DataChannelStats
count_read None stats = stats
count_read (Some set) stats = with_received (counted_as set.ppi (bytes_of set.chunks)) stats

abbrev pub stream_read : InboundStream → InboundStream
stream_read l =
    record l { queue = state_read l.queue; stats = count_read (message_read l.queue.held) l.stats }

-- ## A FORWARD-TSN comes

abbrev pub ssn_forwarded : ℕ → InboundStream → InboundStream
ssn_forwarded ssn l = record l { queue = after_ordered_skip ssn l.queue }

-- one name after another
abbrev pub named_forwarded : List ChunkForwardTsnStream → List InboundStream → List InboundStream
named_forwarded [] ls = ls
named_forwarded (n ∷ ns) ls =
    named_forwarded ns (change_where (has_number n.identifier) (ssn_forwarded n.sequence) ls)

-- the stream sequence numbers that the names have for a stream, in their order
abbrev pub ssns_of : ℕ → List ChunkForwardTsnStream → List ℕ
ssns_of s ns = map (λ n. n.sequence) (filter (λ n. s == n.identifier) ns)

-- one ordered skip after another
abbrev pub skipped_each : List ℕ → ReassemblyState → ReassemblyState
skipped_each [] q = q
skipped_each (ssn ∷ ssns) q = skipped_each ssns (after_ordered_skip ssn q)

-- all that the names have for a stream, at once
abbrev pub stream_forwarded : List ChunkForwardTsnStream → InboundStream → InboundStream
stream_forwarded ns l = with_queue (skipped_each (ssns_of l.queue.si ns) l.queue) l

abbrev pub unassembled_forwarded : ℕ → InboundStream → InboundStream
unassembled_forwarded tsn l = record l { queue = after_unordered_skip tsn l.queue }
