use Rattle.sctp_sender.proofs.Names.{◌≡◌, ◌++◌, take, drop, map, length, with_size}
use Rattle.sctp_sender.proofs.sender.outbound_streams.set_sizes.Given as goal

abbrev pub invariant-loop-place : goal.invariant-loop-place
invariant-loop-place l = record {
  so_far : l.streams.items ≡ map (with_size l.size) (take l.place l.initial.streams.items) ++ drop l.place l.initial.streams.items;
  count : length l.streams.items ≡ length l.initial.streams.items;
}
