use Rattle.std.proofs.Common.{◌≡◌, List, [], map, take}
use Rattle.sctp_data.specs.declared.chunk.chunk_payload_data.ChunkPayloadData.{ChunkPayloadData}
use Rattle.sctp_link.specs.Progress.{standing_of}
use Rattle.sctp_link.specs.Rooms.{HasRoom, HasCounted}
use Rattle.sctp_link.proofs.progress.completions.clear_counts.Given as goal

abbrev pub invariant-loop-at : goal.invariant-loop-at
invariant-loop-at l = record {
  kept : map standing_of l.streams.items ≡ map standing_of l.initial.streams.items;
  stays : (cs : List ChunkPayloadData) → HasRoom cs l.initial.streams.items → HasRoom cs l.streams.items;
  counted : HasCounted (take l.at l.chunks) [] l.streams.items;
}
