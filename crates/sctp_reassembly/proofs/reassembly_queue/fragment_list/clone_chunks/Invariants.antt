use Rattle.std.proofs.Common.{◌≡◌, take}
use Rattle.sctp_reassembly.proofs.reassembly_queue.fragment_list.clone_chunks.Given as goal

abbrev pub invariant-loop-chunk : goal.invariant-loop-chunk
invariant-loop-chunk l = l.copies.items ≡ take l.chunk-index l.chunks
