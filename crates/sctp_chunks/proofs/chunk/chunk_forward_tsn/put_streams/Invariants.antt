use Rattle.std.proofs.Common.{◌≡◌, ◌+◌, ◌*◌, ◌++◌, take}
use Rattle.std.specs.List.{flat_map, AllByRecursion}
use Rattle.sctp_data.specs.ForwardTsn.{stream_encoding}
use Rattle.sctp_data.specs.ForwardTsn.{FitsStream}
use Rattle.sctp_chunks.proofs.chunk.chunk_forward_tsn.put_streams.Given as goal

abbrev pub invariant-loop-stream : goal.invariant-loop-stream
invariant-loop-stream l = record {
  items : l.buf.items ≡ l.fn.buf.items ++ flat_map stream_encoding (take l.stream-index l.streams);
  fits : AllByRecursion FitsStream (take l.stream-index l.streams);
  spare : l.buf.spare + 4 * l.stream-index ≡ l.fn.buf.spare;
}
