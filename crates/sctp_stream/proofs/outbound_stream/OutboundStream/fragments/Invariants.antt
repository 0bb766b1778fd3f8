use Rattle.std.proofs.Common.{◌≡◌, ◌*◌, ◌-◌, ◌≤◌, min, map, length, take}
use Rattle.sctp_util.specs.Kept.{numbers_from}
use Rattle.sctp_reassembly.specs.reassembly_queue.Fragments.{payload_of}
use Rattle.sctp_stream.specs.Stream.{fragment_at, pieces_of}
use Rattle.sctp_stream.proofs.outbound_stream.OutboundStream.fragments.Given as goal

abbrev pub invariant-loop-at : goal.invariant-loop-at
invariant-loop-at l = record {
  place : l.at ≡ min (length l.chunks.items * l.self.max_payload_size) (length l.raw);
  joined : payload_of l.chunks.items ≡ take l.at l.raw;
  within : length l.chunks.items ≤ length (pieces_of l.self l.raw);
  made : l.chunks.items ≡ map (fragment_at l.self l.ppi l.raw) (numbers_from 0 (length l.chunks.items));
}

abbrev pub decreases-loop-at : goal.decreases-loop-at
decreases-loop-at l = length l.raw - l.at
