use Rattle.sctp_sender.proofs.Names.{◌≡◌, ◌++◌, take, drop, map, length, with_reliability}
use Rattle.sctp_sender.proofs.sender.outbound_streams.set_reliability.Given as goal

abbrev pub invariant-loop-place : goal.invariant-loop-place
invariant-loop-place l = record {
  so_far : l.chunks.items ≡ map (with_reliability l.reliability l.value) (take l.place l.initial.chunks.items) ++ drop l.place l.initial.chunks.items;
  count : length l.chunks.items ≡ length l.initial.chunks.items;
}
