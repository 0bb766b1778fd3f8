use Rattle.std.proofs.Common.{◌≡◌, ◌++◌, length, take, drop}
use Rattle.sctp_util.specs.Lists.{change_where}
use Rattle.sctp_outbound.specs.pending_queue.PendingQueue.{lower_by}
use Rattle.sctp_outbound.proofs.pending_queue.line.lower_ssns_in.Given as goal
use Rattle.sctp_serial.specs.DataChunks.{is_on}

abbrev pub invariant-loop-chunk : goal.invariant-loop-chunk
invariant-loop-chunk l = record {
  changed : l.chunks
      ≡ change_where (is_on l.stream_identifier) (lower_by l.by) (take l.chunk-index l.initial.chunks) ++ drop l.chunk-index l.initial.chunks;
  same_length : length l.chunks ≡ length l.initial.chunks;
}
