use Rattle.sctp_receiver.proofs.Names.{◌≡◌, ◌≤◌, length, take, TakesEach, parts, reception_of, chunks_undone, CanUndoChunks}
use Rattle.std.specs.Vec.{vec_capacity}
use Rattle.sctp_receiver.proofs.receiver.data_each.take_each.Given as goal

abbrev pub invariant-loop-chunk : goal.invariant-loop-chunk
invariant-loop-chunk l = record {
  taken : TakesEach (take l.chunk-index l.chunks) l.arrivals.items
      (reception_of l.rules (parts l.initial.streams l.initial.filter)) (reception_of l.rules (parts l.streams l.filter));
  undone : chunks_undone l.undos.items (parts l.streams l.filter) ≡ parts l.initial.streams l.initial.filter;
  can : CanUndoChunks l.undos.items (parts l.streams l.filter);
  arrivals : length l.arrivals.items ≡ l.chunk-index;
  arrivals_fit : length l.chunks ≤ vec_capacity l.arrivals;
  undos : length l.undos.items ≡ l.chunk-index;
  undos_fit : length l.chunks ≤ vec_capacity l.undos;
}
