use Rattle.sctp_receiver.proofs.Names.{◌≡◌, ◌+◌, ◌≤◌, length, drop, sum_by, numbers_of, cost_within, each_made, AreNamed, IsListing}
use Rattle.sctp_receiver.proofs.NotedNames.{pending}
use Rattle.sctp_receiver.proofs.receiver.names.make_each.Given as goal

abbrev pub invariant-loop-place : goal.invariant-loop-place
invariant-loop-place l = record {
  so_far : each_made l.noted.items l.streams.items ≡ each_made l.initial.noted.items l.initial.streams.items;
  same : length l.noted.items ≡ length l.initial.noted.items;
  numbers : l.numbers ≡ numbers_of l.streams.items;
  named : AreNamed (drop l.place l.names) l.noted.items l.numbers;
  cost : l.cost ≡ sum_by cost_within l.streams.items;
  listing : IsListing l.visits l.streams.items;
  not_back : l.initial.skips ≤ l.skips;
  walk : l.skips + pending l.noted.items l.streams.items ≤ l.initial.skips + l.place + pending l.initial.noted.items l.initial.streams.items;
}
