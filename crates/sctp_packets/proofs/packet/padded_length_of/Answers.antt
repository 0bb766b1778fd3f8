use Rattle.std.proofs.Common.{◌≡◌, ◌+◌, ◌-◌, ◌^◌, length, arith}
use Rattle.std.specs.Prelude.{min}
use Rattle.sctp_util.specs.Padding.{padding_of}
use Rattle.sctp_chunks.specs.Wire.{value_of}
use Rattle.sctp_packets.proofs.Written.{length_padded_encoding, padded_up}
use Rattle.sctp_packets.proofs.packet.padded_length_of.Goals as goal

pub returns : goal.returns
returns g c =
    let w = g.K.Chunk.wire c.args.chunk.now in
    let len : c.saturating_add-length.result ≡ min (min (length (value_of w)) (2 ^ 64 - 1) + 4) (2 ^ 64 - 1) =
    omega (arith, c.value_length.ensures, c.saturating_add-length.ensures) in
    let sum : c.saturating_add.result ≡ min (c.saturating_add-length.result + padding_of c.saturating_add-length.result) (2 ^ 64 - 1) =
    omega (arith, c.get_padding_size.ensures, c.saturating_add.ensures) in
    rw (length_padded_encoding w) (padded_up (2 ^ 64 - 1) (length (value_of w)) _ _ len sum)
