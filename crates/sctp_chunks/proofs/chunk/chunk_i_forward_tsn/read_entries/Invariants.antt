use Rattle.std.proofs.Common.{◌≡◌, ◌+◌, ◌*◌}
use Rattle.sctp_util.specs.Each.{each}
use Rattle.sctp_chunks.specs.IForwardTsn.{entry_at}
use Rattle.sctp_chunks.proofs.chunk.chunk_i_forward_tsn.read_entries.Given as goal

abbrev pub invariant-loop-i : goal.invariant-loop-i
invariant-loop-i l = l.streams.items ≡ each l.i (λ i. entry_at l.value (4 + 8 * i))
