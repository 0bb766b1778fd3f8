use Rattle.std.proofs.Common.{◌≡◌, ◌+◌, ◌-◌, get_or}
use Rattle.sctp_data.specs.declared.chunk.chunk_payload_data.ChunkPayloadData.{ChunkPayloadData}
use Rattle.sctp_reassembly.proofs.lemmas.reassembly_queue.SerialPlaces.{SerialUpto}
use Rattle.sctp_reassembly.proofs.reassembly_queue.unassembled.are_serial.Given as goal

abbrev pub invariant-loop-place : goal.invariant-loop-place
invariant-loop-place l = record {
  last : (d : ChunkPayloadData) → (get_or l.chunks.items (l.place - 1) d).tsn ≡ l.last;
  upto : SerialUpto l.chunks.items l.place;
  turns : l.turns ≡ l.initial.turns + l.place - 1;
}
