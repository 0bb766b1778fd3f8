use Rattle.std.proofs.Common.{◌≡◌, ◌+◌, ◌-◌, ◌≤◌, ◌++◌, length, take, drop, option_to_list}
use Rattle.std.specs.VecDeque.{deque_len, deque_capacity}
use Rattle.std.specs.List.{filter}
use Rattle.sctp_serial.specs.DataChunks.{bytes_of}
use Rattle.sctp_outbound.specs.pending_queue.PendingQueue.{removed_bytes, last_of, without_message}
use Rattle.sctp_outbound.specs.Marks.{is_of}
use Rattle.sctp_outbound.proofs.pending_queue.line.remove_from.Given as goal

abbrev pub invariant-loop-place : goal.invariant-loop-place
invariant-loop-place l = record {
  in_range : l.place ≤ length l.chunks.items;
  kept : take l.place l.chunks.items ++ without_message l.message_id (drop l.place l.chunks.items) ≡ without_message l.message_id l.initial.chunks.items;
  removed : l.bytes + removed_bytes l.message_id (drop l.place l.chunks.items) ≡ removed_bytes l.message_id l.initial.chunks.items;
  left : bytes_of l.chunks.items + l.bytes ≡ bytes_of l.initial.chunks.items;
  last : last_of (option_to_list l.last ++ filter (is_of l.message_id) (drop l.place l.chunks.items))
      ≡ last_of (filter (is_of l.message_id) l.initial.chunks.items);
  len : deque_len l.chunks ≤ deque_len l.initial.chunks;
  capacity : deque_capacity l.chunks ≡ deque_capacity l.initial.chunks;
}

abbrev pub decreases-loop-place : goal.decreases-loop-place
decreases-loop-place l = length l.chunks.items - l.place
