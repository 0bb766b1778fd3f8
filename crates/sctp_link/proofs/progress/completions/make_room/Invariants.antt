use Rattle.std.proofs.Common.{◌≡◌, map, take}
use Rattle.sctp_link.specs.Progress.{standing_of}
use Rattle.sctp_link.specs.Rooms.{HasRoom, HasCounted}
use Rattle.sctp_link.proofs.progress.completions.make_room.Given as goal

abbrev pub invariant-loop-at : goal.invariant-loop-at
invariant-loop-at l = record {
  kept : map standing_of l.streams.items ≡ map standing_of l.fn.streams.items;
  counted : HasCounted l.chunks (take l.at l.chunks) l.streams.items;
  room : HasRoom (take l.at l.chunks) l.streams.items;
  spare : HasRoom l.chunks l.fn.streams.items → HasRoom l.chunks l.streams.items;
}
