use Rattle.std.proofs.Common.{◌≡◌, ◌+◌, ◌*◌, ◌++◌, take}
use Rattle.std.specs.List.{flat_map}
use Rattle.sctp_util.specs.Field.{be16}
use Rattle.sctp_c.proofs.requests.put_streams.Given as goal

abbrev pub invariant-loop-stream : goal.invariant-loop-stream
invariant-loop-stream l = record {
  items : l.buf.items ≡ l.fn.buf.items ++ flat_map be16 (take l.stream-index l.streams);
  spare : l.buf.spare + 2 * l.stream-index ≡ l.fn.buf.spare;
}
