use Rattle.std.proofs.Common.{◌≡◌, ◌++◌, true, length, option_to_list}
use Rattle.std.specs.List.{filter}
use Rattle.sctp_outbound.specs.pending_queue.PendingQueue.{last_of, without_message}
use Rattle.sctp_outbound.specs.pending_queue.Whole.{stand_in_front}
use Rattle.sctp_outbound.specs.Marks.{is_of}
use Rattle.sctp_outbound.proofs.pending_queue.line.Line.pop_message.Given as goal

abbrev pub invariant-loop-chunk : goal.invariant-loop-chunk
invariant-loop-chunk l = record {
  front : stand_in_front l.message_id l.self.chunks ≡ true;
  kept : without_message l.message_id l.self.chunks ≡ without_message l.message_id l.initial.self.chunks;
  room : l.self.room ≡ l.initial.self.room;
  last : last_of (option_to_list l.last ++ filter (is_of l.message_id) l.self.chunks)
      ≡ last_of (filter (is_of l.message_id) l.initial.self.chunks);
}

abbrev pub decreases-loop-chunk : goal.decreases-loop-chunk
decreases-loop-chunk l = length l.self.chunks
