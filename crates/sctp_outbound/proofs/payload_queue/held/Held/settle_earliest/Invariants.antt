use Rattle.std.proofs.Common.{◌≡◌, ◌+◌, take}
use Rattle.sctp_outbound.specs.Stored.{NoneBefore}
use Rattle.sctp_outbound.proofs.payload_queue.held.Held.settle_earliest.Given as goal

abbrev pub invariant-loop-place : goal.invariant-loop-place
invariant-loop-place l = record {
  deadlines : NoneBefore l.earliest (take l.place l.fn.self.chunks);
  turns : l.turns ≡ l.initial.turns + l.place;
}
