use Rattle.std.proofs.Common.{◌≡◌, ◌+◌, length, map}
use Rattle.sctp_util.specs.Lists.{advance_over}
use Rattle.sctp_receiver.specs.TsnFilter.{placeholder}
use Rattle.sctp_link.proofs.link_receiver.tsn_queue.advance.Given as goal
use Rattle.sctp_serial.specs.DataChunks.{tsns}

abbrev pub invariant-loop-cumulative_tsn : goal.invariant-loop-cumulative_tsn
invariant-loop-cumulative_tsn l = record {
  moved : advance_over l.initial.cumulative_tsn (tsns l.initial.queue.chunks) ≡ advance_over l.cumulative_tsn (tsns l.queue.chunks);
  placeholders : l.initial.queue.chunks ≡ map placeholder (tsns l.initial.queue.chunks) → l.queue.chunks ≡ map placeholder (tsns l.queue.chunks);
  rest : l.queue ≡ record l.initial.queue { chunks = l.queue.chunks; room = l.queue.room };
  places : length l.queue.chunks + l.queue.room ≡ length l.initial.queue.chunks + l.initial.queue.room;
}

abbrev pub decreases-loop-cumulative_tsn : goal.decreases-loop-cumulative_tsn
decreases-loop-cumulative_tsn l = length l.queue.chunks
