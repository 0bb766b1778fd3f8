use Rattle.std.proofs.Common.{◌≡◌, ◌≤◌, ◌++◌, length, take, drop}
use Rattle.sctp_reassembly.specs.reassembly_queue.Fragments.{payload_of}
use Rattle.sctp_reassembly.proofs.reassembly_queue.chunks.Chunks.read.Given as goal

abbrev pub invariant-loop-chunk : goal.invariant-loop-chunk
invariant-loop-chunk l = record {
  written : l.n_written ≡ length (payload_of (take l.chunk-index l.self.set.chunks));
  in_range : l.n_written ≤ length l.buf;
  filled : l.buf ≡ payload_of (take l.chunk-index l.self.set.chunks) ++ drop l.n_written l.initial.buf;
}
