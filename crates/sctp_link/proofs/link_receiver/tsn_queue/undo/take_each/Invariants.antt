use Rattle.std.proofs.Common.{◌≡◌, ◌≤◌, length, take}
use Rattle.std.specs.Vec.{vec_capacity}
use Rattle.sctp_link.specs.Tsns.{with_arrivals, each_undone, CanUndoEach}
use Rattle.sctp_link.proofs.link_receiver.tsn_queue.undo.take_each.Given as goal

abbrev pub invariant-loop-chunk : goal.invariant-loop-chunk
invariant-loop-chunk l = record {
  taken : l.tsns.filter ≡ with_arrivals (take l.chunk-index l.chunks) l.initial.tsns.filter;
  undone : each_undone l.undos.items l.tsns.filter ≡ l.initial.tsns.filter;
  can : CanUndoEach l.undos.items l.tsns;
  undos : length l.undos.items ≡ l.chunk-index;
  undos_fit : length l.chunks ≤ vec_capacity l.undos;
}
