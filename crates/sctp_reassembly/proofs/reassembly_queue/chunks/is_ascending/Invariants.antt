use Rattle.std.proofs.Common.{◌≡◌, ◌+◌, ◌-◌, ◌^◌, ◌<◌, get_or}
use Rattle.sctp_data.specs.declared.chunk.chunk_payload_data.ChunkPayloadData.{ChunkPayloadData}
use Rattle.sctp_util.specs.Serial.{distance}
use Rattle.sctp_serial.proofs.lemmas.AscendingEdits.{IsRising}
use Rattle.sctp_reassembly.proofs.reassembly_queue.chunks.is_ascending.Given as goal

abbrev pub invariant-loop-place : goal.invariant-loop-place
invariant-loop-place l = record {
  rising : IsRising (λ (c : ChunkPayloadData). c.tsn) l.chunks l.first l.far l.place;
  last : (d : ChunkPayloadData) → distance l.first (get_or l.chunks (l.place - 1) d).tsn ≡ l.far;
  half : l.far < 2 ^ 31;
  small : l.first < 2 ^ 32;
  turns : l.turns + 1 ≡ l.initial.turns + l.place;
}
