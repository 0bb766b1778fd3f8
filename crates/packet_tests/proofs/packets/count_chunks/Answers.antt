use Rattle.std.proofs.Common.{[], refl, subst}
use Rattle.sctp_util.specs.Field.{u16_at, u32_at}
use Rattle.sctp_util.specs.Walk.{Walks}
use Rattle.sctp_packets.specs.Packet.{Parts, Steps, after}
use Rattle.packet_tests.proofs.packets.count_chunks.Goals as goal

pub returns : goal.returns
returns g c =
    let read = c.in_ok-count.ensures in
    let p : Parts = record {
      source_port = u16_at c.args.raw.now 0;
      destination_port = u16_at c.args.raw.now 2;
      verification_tag = u32_at c.args.raw.now 4;
      chunks = read.chunks;
    } in (
      p,
      record {
        is_headed = c.in_ok-reader.ensures.headed;
        source_port = refl;
        destination_port = refl;
        verification_tag = refl;
        chunks = subst (λ b. Walks Steps after b read.chunks []) c.in_ok-reader.ensures.rest read.walk;
      },
      read.counted,
    )
