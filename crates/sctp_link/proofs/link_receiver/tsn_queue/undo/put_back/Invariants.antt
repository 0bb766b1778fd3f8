use Rattle.std.proofs.Common.{◌≡◌, ◌-◌, ◌+◌, ◌≤◌, ◌++◌, map}
use Rattle.std.specs.Prelude.{min}
use Rattle.sctp_receiver.specs.TsnFilter.{placeholder}
use Rattle.sctp_receiver.specs.TsnRuns.{tsns_from}
use Rattle.sctp_serial.specs.DataChunks.{following_tsn, tsns}
use Rattle.sctp_link.proofs.link_receiver.tsn_queue.undo.put_back.Given as goal

abbrev pub invariant-loop-left : goal.invariant-loop-left
invariant-loop-left l = record {
  placeholders : l.queue.chunks ≡ map placeholder (tsns l.queue.chunks);
  same : tsns_from (following_tsn (following_tsn l.cumulative_tsn)) (l.left - 1) ++ tsns l.queue.chunks ≡ tsns_from
      (following_tsn (following_tsn l.cumulative_tsn)) (l.count - 1) ++ tsns l.initial.queue.chunks;
  rest : l.queue ≡ record l.initial.queue { chunks = l.queue.chunks; room = l.queue.room };
  room : l.queue.room + l.count ≡ l.initial.queue.room + l.left;
  down : l.left ≤ l.count;
  above : min l.count 1 ≤ l.left;
}

abbrev pub decreases-loop-left : goal.decreases-loop-left
decreases-loop-left l = l.left
