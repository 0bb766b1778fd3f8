use Rattle.std.proofs.Common.{◌<◌, ◌+◌, length, inl, inr, refl, rules}
use Rattle.std.specs.Prelude.{◌*◌}
use Rattle.sctp_chunks.specs.Framing.{value_at}
use Rattle.sctp_data.specs.SelectiveAck.{blocks_in, duplicates_in}
use Rattle.sctp_datagram.proofs.Alone.{sack_short}
use Rattle.sctp_datagram.proofs.in_place.sack_value.Goals as goal

pub returns-then-value-lt-SELECTIVE_ACK_HEADER_SIZE-clause-fault : goal.returns-then-value-lt-SELECTIVE_ACK_HEADER_SIZE-clause-fault
returns-then-value-lt-SELECTIVE_ACK_HEADER_SIZE-clause-fault c =
    let short : length (value_at c.args.bytes.now) < 12 = search rules in
    sack_short _ c.args.bytes.now refl c.in_ok-value.ensures.chunk (inl short)

pub returns-then-value-blocks-clause-fault : goal.returns-then-value-blocks-clause-fault
returns-then-value-blocks-clause-fault c =
    let value = value_at c.args.bytes.now in
    let short : length value < 12 + 4 * blocks_in value + 4 * duplicates_in value = search rules in
    sack_short _ c.args.bytes.now refl c.in_ok-value.ensures.chunk (inr short)
