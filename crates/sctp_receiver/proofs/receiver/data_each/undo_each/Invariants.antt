use Rattle.sctp_receiver.proofs.Names.{◌≡◌, parts, chunks_undone, CanUndoChunks}
use Rattle.sctp_receiver.proofs.receiver.data_each.undo_each.Given as goal

abbrev pub invariant-loop-undo : goal.invariant-loop-undo
invariant-loop-undo l = record {
  same : chunks_undone l.undos.items (parts l.streams l.filter) ≡ chunks_undone l.initial.undos.items (parts l.initial.streams l.initial.filter);
  can : CanUndoChunks l.undos.items (parts l.streams l.filter);
}

abbrev pub decreases-loop-undo : goal.decreases-loop-undo
decreases-loop-undo l = goal.left-loop-undo l
