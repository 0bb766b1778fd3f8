use Rattle.std.proofs.Common.{◌≡◌, drop}
use Rattle.sctp_reassembly.specs.reassembly_queue.Skips.{earliest_among}
use Rattle.sctp_reassembly.proofs.reassembly_queue.skips.earliest_among.Given as goal

abbrev pub invariant-loop-chunk : goal.invariant-loop-chunk
invariant-loop-chunk l = earliest_among l.first (drop l.chunk-index l.chunks) ≡ earliest_among l.fn.first l.chunks
