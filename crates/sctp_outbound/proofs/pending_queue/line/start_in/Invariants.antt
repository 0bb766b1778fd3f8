use Rattle.std.proofs.Common.{◌≡◌, ◌++◌, length, take, drop}
use Rattle.std.specs.VecDeque.{deque_len, deque_capacity}
use Rattle.sctp_util.specs.Lists.{change_where}
use Rattle.sctp_outbound.specs.pending_queue.PendingQueue.{is_to_start, with_deadline}
use Rattle.sctp_outbound.proofs.pending_queue.line.start_in.Given as goal

abbrev pub invariant-loop-place : goal.invariant-loop-place
invariant-loop-place l = record {
  changed : l.chunks.items ≡ change_where (is_to_start l.first_message_id) (with_deadline l.now)
      (take l.place l.initial.chunks.items) ++ drop l.place l.initial.chunks.items;
  same_length : length l.chunks.items ≡ length l.initial.chunks.items;
  len : deque_len l.chunks ≡ deque_len l.initial.chunks;
  capacity : deque_capacity l.chunks ≡ deque_capacity l.initial.chunks;
}
