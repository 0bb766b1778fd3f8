use Rattle.std.proofs.Common.{◌≡◌, ◌+◌, ◌*◌, ◌++◌, take}
use Rattle.std.specs.List.{flat_map, AllByRecursion}
use Rattle.sctp_chunks.specs.IForwardTsn.{entry_encoding}
use Rattle.sctp_chunks.specs.Fits.{FitsEntry}
use Rattle.sctp_chunks.proofs.chunk.chunk_i_forward_tsn.put_entries.Given as goal

abbrev pub invariant-loop-entry : goal.invariant-loop-entry
invariant-loop-entry l = record {
  items : l.buf.items ≡ l.fn.buf.items ++ flat_map entry_encoding (take l.entry-index l.entries);
  fits : AllByRecursion FitsEntry (take l.entry-index l.entries);
  spare : l.buf.spare + 8 * l.entry-index ≡ l.fn.buf.spare;
}
