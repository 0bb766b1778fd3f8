use Rattle.std.proofs.Common.{◌≡◌, ℕ, List, [], map, drop}
use Rattle.sctp_dissect.specs.Dissection.{item_bytes}
use Rattle.sctp_follow.specs.Load.{came, behind}
use Rattle.sctp_follow.specs.Tsns.{contains}
use Rattle.sctp_follow.proofs.flow.Flow.note.Given as goal

abbrev pub invariant-loop-item : goal.invariant-loop-item
invariant-loop-item l = record {
  earlier : List (List ℕ);
  seen : (tsn : ℕ) → contains l.self.tsns tsn ≡ came l.fn.self.tsns earlier tsn;
  same : behind l.fn.self.tsns earlier l.left (map item_bytes (drop l.item-index l.items)) l.load
      ≡ behind l.fn.self.tsns [] l.fn.extent.length (map item_bytes l.items) l.fn.self.load;
}
