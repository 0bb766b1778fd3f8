use Rattle.sctp_sender.proofs.Names.{◌≡◌, ◌+◌, ◌<◌, ◌≤◌, length, All, deque_capacity, put_all}
use Rattle.sctp_sender.proofs.sender.flight.anew.put_all.Given as goal

abbrev pub invariant-loop-one : goal.invariant-loop-one
invariant-loop-one l = record {
  goes_on : put_all l.chunks.items l.kept.items ≡ put_all l.initial.chunks.items l.initial.kept.items;
  not_back : l.initial.turns ≤ l.turns;
  turns : l.turns + length l.initial.kept.items + length l.chunks.items
      ≤ l.initial.turns + length l.initial.chunks.items + length l.kept.items;
  room : All (λ b. b.place < deque_capacity l.kept) l.chunks.items;
}

abbrev pub decreases-loop-one : goal.decreases-loop-one
decreases-loop-one l = length l.chunks.items
