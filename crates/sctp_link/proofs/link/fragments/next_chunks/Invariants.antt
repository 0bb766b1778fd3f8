use Rattle.sctp_link.proofs.Names.{◌≡◌, ◌<◌, ◌+◌, ◌-◌, ◌/◌, ◌^◌, ◌++◌, map, after_sends, further, chunks_taken, following_tsn}
use Rattle.sctp_chunks.specs.declared.chunk.chunk_kind.ChunkKind.TheVariants as C
use Rattle.sctp_link.proofs.link.fragments.next_chunks.Given as goal

abbrev pub invariant-loop-sent : goal.invariant-loop-sent
invariant-loop-sent l = record {
  chunks : l.chunks.items ++ map C.PayloadData (further (l.limit / 16 - l.sent) l.limit l.used (following_tsn l.tsn)
      (after_sends (l.sent + 1) l.outbound.pending)) ≡ map C.PayloadData (chunks_taken l.limit l.fn.tsn l.outbound.pending);
  used : l.used < 2 ^ 33;
}
