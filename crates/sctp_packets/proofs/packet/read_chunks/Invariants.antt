use Rattle.std.proofs.Common.{length}
use Rattle.std.specs.Prelude.{map}
use Rattle.sctp_chunks.specs.Kind.{wire_of, IsFreshKind}
use Rattle.std.specs.List.{AllByRecursion}
use Rattle.sctp_chunks.specs.Wire.{HasEncoding}
use Rattle.sctp_util.specs.Walk.{Walks}
use Rattle.sctp_chunks.specs.Fits.{Canonical}
use Rattle.sctp_packets.specs.Packet.{Steps, after}
use Rattle.sctp_packets.proofs.packet.read_chunks.Given as goal

abbrev pub invariant-walk : goal.invariant-walk
invariant-walk l = record {
  walk : Walks Steps after l.fn.raw (map wire_of l.chunks.items) l.rest;
  rewritable : AllByRecursion HasEncoding (map wire_of l.chunks.items);
  canonical : AllByRecursion Canonical (map wire_of l.chunks.items);
  fresh : AllByRecursion IsFreshKind l.chunks.items;
}

abbrev pub decreases-walk : goal.decreases-walk
decreases-walk l = length l.rest
