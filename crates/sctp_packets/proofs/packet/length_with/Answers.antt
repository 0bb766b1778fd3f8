use Rattle.std.proofs.Common.{◌≡◌, ◌+◌, suc, arith}
use Rattle.std.proofs.lemmas.List.{take-map}
use Rattle.sctp_packets.proofs.Written.{length_body_next}
use Rattle.sctp_packets.proofs.packet.length_with.Goals as goal

pub loop-chunk-preserved : goal.loop-chunk-preserved
loop-chunk-preserved c =
    let cs = c.args.chunks.now in
    let i = c.loop-chunk.chunk-index in
    let next = length_body_next cs i c.chunk-item.result c.loop-chunk-test.true in
    let taken = rw (← c.chunk-item.is, take-map) at next in
    let one : i + 1 ≡ suc i = omega arith in
    record {
      total = rw one (omega (arith, taken, c.padded_length_of.ensures, c.loop-chunk.invariant.total, c.saturating_add-total.ensures));
    }
