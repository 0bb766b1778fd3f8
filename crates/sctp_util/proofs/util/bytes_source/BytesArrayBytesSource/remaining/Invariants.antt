use Rattle.std.proofs.Common.{◌≡◌, ◌+◌, length, drop}
use Rattle.std.specs.List.{concat}
use Rattle.sctp_util.proofs.util.bytes_source.BytesArrayBytesSource.remaining.Given as goal

abbrev pub invariant-loop-chunk : goal.invariant-loop-chunk
invariant-loop-chunk l = l.total + length (concat (drop l.chunk-index l.chunk-items)) ≡ length (concat l.chunk-items)
