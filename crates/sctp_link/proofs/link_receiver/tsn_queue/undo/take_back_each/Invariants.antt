use Rattle.std.proofs.Common.{◌≡◌}
use Rattle.sctp_link.specs.Tsns.{each_undone, CanUndoEach}
use Rattle.sctp_link.proofs.link_receiver.tsn_queue.undo.take_back_each.Given as goal

abbrev pub invariant-loop-undo : goal.invariant-loop-undo
invariant-loop-undo l = record {
  same : each_undone l.undos.items l.tsns.filter ≡ each_undone l.initial.undos.items l.initial.tsns.filter;
  can : CanUndoEach l.undos.items l.tsns;
}

abbrev pub decreases-loop-undo : goal.decreases-loop-undo
decreases-loop-undo l = goal.left-loop-undo l
