use Rattle.std.proofs.Common.{◌≡◌, ◌+◌, ◌≤◌, ◌++◌, length, map}
use Rattle.sctp_serial.specs.DataChunks.{bytes_of}
use Rattle.sctp_outbound.specs.outbound_queue.OutboundQueue.{with_message_id}
use Rattle.sctp_outbound.proofs.pending_queue.line.Line.append_within_room.Given as goal

abbrev pub invariant-loop-chunk : goal.invariant-loop-chunk
invariant-loop-chunk l = record {
  placed : l.self.chunks ++ map (with_message_id l.message_id) l.rest.items ≡ l.initial.self.chunks ++ map (with_message_id l.message_id) l.initial.rest.items;
  room : l.self.room + length l.initial.rest.items ≡ l.initial.self.room + length l.rest.items;
  enough : length l.rest.items ≤ l.self.room;
  bytes : bytes_of l.self.chunks + bytes_of l.rest.items ≡ bytes_of l.initial.self.chunks + bytes_of l.initial.rest.items;
}

abbrev pub decreases-loop-chunk : goal.decreases-loop-chunk
decreases-loop-chunk l = length l.rest.items
