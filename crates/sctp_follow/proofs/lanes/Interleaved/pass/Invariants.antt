use Rattle.std.proofs.Common.{◌≡◌, take}
use Rattle.sctp_follow.specs.Forgetting.{Leaves, held_of}
use Rattle.sctp_follow.specs.Passing.{LooksAtEach}
use Rattle.sctp_follow.proofs.lanes.Interleaved.pass.Given as goal

abbrev pub invariant-loop-spot : goal.invariant-loop-spot
invariant-loop-spot l = record {
  look : LooksAtEach (take l.spot-index l.spot-items) l.messages.items l.initial.self.lanes l.self.lanes;
  notes : Leaves (held_of l.initial.self.lanes) (held_of l.self.lanes) l.messages.items l.initial.self.spots l.self.spots;
  whole : l.self.is_whole ≡ l.initial.self.is_whole;
}
