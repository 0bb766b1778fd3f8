use Rattle.sctp_link.proofs.Names.{◌≡◌, ◌++◌, List, length, map, reverse, AllByRecursion, fresh, data_chunk, wire_of, IsFreshKind}
use Rattle.sctp_data.specs.PayloadData.{Data}
use Rattle.sctp_link.proofs.datagram.data_chunks.Given as goal

abbrev pub invariant-loop-kind : goal.invariant-loop-kind
invariant-loop-kind l = record {
  known : (ds : List Data) → map wire_of l.fn.kinds.items ≡ map data_chunk ds → (front : List Data) × (back : List Data) × (ds ≡ front ++ back)
      × (map wire_of l.kinds.items ≡ map data_chunk front) × (reverse l.chunks.items ≡ map fresh back);
  fresh : AllByRecursion IsFreshKind l.kinds.items;
}

abbrev pub decreases-loop-kind : goal.decreases-loop-kind
decreases-loop-kind l = length l.kinds.items
