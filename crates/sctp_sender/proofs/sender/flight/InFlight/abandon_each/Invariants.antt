use Rattle.sctp_sender.proofs.Names.{◌≡◌, ◌+◌, ◌≤◌, ◌++◌, List, true, drop, length, has_tail_at, not, vec_capacity, list_all, sum_by, total_bytes}
use Rattle.sctp_sender.proofs.Names.{AbandonedMessage, GapAckBlock, AreKnown, are_listed, abandoned_each, leaving_each}
use Rattle.sctp_sender.proofs.sender.flight.InFlight.abandon_each.Given as goal

abbrev pub invariant-loop-tsn : goal.invariant-loop-tsn
invariant-loop-tsn l = record {
  so_far : abandoned_each l.tsns l.initial.self ≡ abandoned_each (drop l.tsn-index l.tsns) l.self;
  listed : are_listed l.tsns l.initial.self ≡ true → are_listed (drop l.tsn-index l.tsns) l.self ≡ true;
  answered : l.initial.abandoned.items ++ leaving_each l.tsns l.initial.self ≡ l.abandoned.items ++ leaving_each (drop l.tsn-index l.tsns) l.self;
  bytes : total_bytes l.self.queue + sum_by (λ (g : AbandonedMessage). g.bytes) l.abandoned.items
      ≡ total_bytes l.initial.self.queue + sum_by (λ (g : AbandonedMessage). g.bytes) l.initial.abandoned.items;
  known : (bs : List GapAckBlock) → AreKnown bs l.initial.self.queue.inflight.chunks → AreKnown bs l.self.queue.inflight.chunks;
  no_tail : list_all (λ t. not (has_tail_at l.self t)) (drop l.tsn-index l.tsns) ≡ true;
  room : length l.abandoned.items + length (drop l.tsn-index l.tsns) ≤ vec_capacity l.abandoned;
}
