use Rattle.std.proofs.Common.{◌≡◌, ◌+◌, ◌*◌}
use Rattle.sctp_util.specs.Each.{each}
use Rattle.sctp_data.specs.ForwardTsn.{stream_at}
use Rattle.sctp_chunks.proofs.chunk.chunk_forward_tsn.read_streams.Given as goal

abbrev pub invariant-loop-i : goal.invariant-loop-i
invariant-loop-i l = l.streams.items ≡ each l.i (λ i. stream_at l.value (4 + 4 * i))
