use Rattle.std.proofs.Common.{◌<◌, length, refl, rules}
use Rattle.sctp_chunks.specs.Framing.{value_at}
use Rattle.sctp_datagram.proofs.Alone.{data_short}
use Rattle.sctp_datagram.proofs.in_place.data_value.Goals as goal

pub returns-then-value-lt-PAYLOAD_DATA_HEADER_SIZE-clause-fault : goal.returns-then-value-lt-PAYLOAD_DATA_HEADER_SIZE-clause-fault
returns-then-value-lt-PAYLOAD_DATA_HEADER_SIZE-clause-fault c =
    let short : length (value_at c.args.bytes.now) < 12 = search rules in
    data_short _ c.args.bytes.now refl c.in_ok-value.ensures.chunk short
