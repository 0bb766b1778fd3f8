use Rattle.std.proofs.Common.{◌≡◌, ◌+◌, ◌*◌, ◌<◌, ◌^◌, ◌++◌, take}
use Rattle.std.specs.List.{flat_map, AllByRecursion}
use Rattle.sctp_util.specs.Field.{be32}
use Rattle.sctp_chunks.proofs.chunk.chunk_selective_ack.put_numbers.Given as goal

abbrev pub invariant-loop-number : goal.invariant-loop-number
invariant-loop-number l = record {
  items : l.buf.items ≡ l.fn.buf.items ++ flat_map be32 (take l.number-index l.numbers);
  fits : AllByRecursion (λ n. n < 2 ^ 32) (take l.number-index l.numbers);
  spare : l.buf.spare + 4 * l.number-index ≡ l.fn.buf.spare;
}
