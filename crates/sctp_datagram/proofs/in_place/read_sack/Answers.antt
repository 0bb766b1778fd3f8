use Rattle.sctp_datagram.proofs.InPlace.{sack_made}
use Rattle.sctp_datagram.proofs.in_place.read_sack.Goals as goal

pub returns-clause-found : goal.returns-clause-found
returns-clause-found c =
    let e = c.in_ok-value.ensures in
    sack_made c.args.bytes.now c.in_ok-value.value.now _ _ _ _ _ _ e.chunk e.value e.headed e.long c.read_u32.ensures c.read_u32-2.ensures
    c.read_u16-blocks.ensures c.read_u16-duplicates.ensures c.in_ok-gap_ack_blocks.ensures.ok c.in_ok-duplicate_tsn.ensures.ok
