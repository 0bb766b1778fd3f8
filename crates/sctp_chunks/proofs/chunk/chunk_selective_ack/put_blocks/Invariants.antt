use Rattle.std.proofs.Common.{◌≡◌, ◌+◌, ◌*◌, ◌++◌, take}
use Rattle.std.specs.List.{flat_map, AllByRecursion}
use Rattle.sctp_data.specs.SelectiveAck.{block_encoding}
use Rattle.sctp_chunks.specs.Fits.{FitsBlock}
use Rattle.sctp_chunks.proofs.chunk.chunk_selective_ack.put_blocks.Given as goal

abbrev pub invariant-loop-block : goal.invariant-loop-block
invariant-loop-block l = record {
  items : l.buf.items ≡ l.fn.buf.items ++ flat_map block_encoding (take l.block-index l.blocks);
  fits : AllByRecursion FitsBlock (take l.block-index l.blocks);
  spare : l.buf.spare + 4 * l.block-index ≡ l.fn.buf.spare;
}
