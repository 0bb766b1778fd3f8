use Rattle.std.proofs.Common.{◌≡◌, map, take, drop}
use Rattle.sctp_link.specs.Progress.{standing_of, after_each}
use Rattle.sctp_link.specs.Rooms.{HasRoom}
use Rattle.sctp_link.proofs.progress.completions.record_complete.Given as goal

abbrev pub invariant-loop-at : goal.invariant-loop-at
invariant-loop-at l = record {
  room : HasRoom (drop l.at l.chunks) l.streams.items;
  complete : map standing_of l.streams.items ≡ after_each (take l.at l.chunks) l.messages (take l.at l.arrivals) (map standing_of l.initial.streams.items);
}
