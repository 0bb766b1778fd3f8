use Rattle.std.proofs.Common.{◌≡◌, ◌-◌, ◌<◌, ◌≤◌}
use Rattle.sctp_outbound.specs.outbound_queue.OutboundQueue.{AreExpiredOf, closed_run, expired_times}
use Rattle.sctp_outbound.specs.pending_queue.PendingQueue.{total_bytes}
use Rattle.sctp_outbound.proofs.outbound_queue.OutboundQueue.remove_run.Given as goal

abbrev pub invariant-loop-next : goal.invariant-loop-next
invariant-loop-next l = record {
  removed : closed_run l.stream_identifier l.unordered l.messages l.self ≡ expired_times l.now l.messages l.fn.self;
  of_one : AreExpiredOf l.stream_identifier l.unordered l.now l.messages l.fn.self;
  some : 0 < l.messages;
  in_flight : l.self.inflight ≡ l.fn.self.inflight;
  left : total_bytes l.self.pending ≤ total_bytes l.fn.self.pending;
}

abbrev pub decreases-loop-next : goal.decreases-loop-next
decreases-loop-next l = 65536 - l.messages
