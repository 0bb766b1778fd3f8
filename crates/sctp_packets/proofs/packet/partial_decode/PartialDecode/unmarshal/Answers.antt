use Rattle.std.proofs.Common.{length, drop, ap, ◌∙◌, arith, rules}
use Rattle.sctp_chunks.specs.Framing.{IsFramed, type_at}
use Rattle.sctp_packets.specs.Partial.{IsInitType}
use Rattle.sctp_packets.proofs.FirstChunk.{first_step, some_chunks, framed_no_fault, init_long}
use Rattle.sctp_packets.proofs.packet.partial_decode.PartialDecode.unmarshal.Goals as goal

pub returns-then-len-lt-CHUNK_HEADER_SIZE-clause-packets : goal.returns-then-len-lt-CHUNK_HEADER_SIZE-clause-packets
returns-then-len-lt-CHUNK_HEADER_SIZE-clause-packets g c = λ p r some.
    let step = first_step (drop 12 c.args.raw.now) p.chunks r.chunks some in
    let rest = ap length c.in_ok-common_header.ensures.rest in
    absurd (omega (arith, step.1.chunk.is_framed.headed, rest, c.len.ensures.value))

pub returns-in_err-header-clause-packets : goal.returns-in_err-header-clause-packets
returns-in_err-header-clause-packets g c = λ p r some.
    let step = first_step (drop 12 c.args.raw.now) p.chunks r.chunks some in
    let framed : IsFramed c.in_ok-common_header.remaining = rw c.in_ok-common_header.ensures.rest step.1.chunk.is_framed in
    absurd (framed_no_fault _ _ c.in_err-header.ensures.fault framed)

pub returns-in_err-initiate_tag-clause-packets : goal.returns-in_err-initiate_tag-clause-packets
returns-in_err-initiate_tag-clause-packets g c = λ p r some.
    let step = first_step (drop 12 c.args.raw.now) p.chunks r.chunks some in
    let rest = c.in_ok-common_header.ensures.rest in
    let fault = c.in_err-initiate_tag.ensures.fault in
    let typ : IsInitType (type_at (drop 12 c.args.raw.now)) = search (rules, rest, fault, c.in_ok-header.ensures) in
    let long = init_long (drop 12 c.args.raw.now) step.0 step.1 typ in
    let value = rw rest at c.in_ok-header.ensures.value in
    absurd (omega (arith, long, fault.2, ap length value))

pub returns-clause-finished : goal.returns-clause-finished
returns-clause-finished g c = λ p f.
    let rest = c.in_ok-common_header.ensures.rest in
    let chunks = rw rest at f.chunks in (
      record {
        is_headed = c.in_ok-common_header.ensures.headed;
        source_port = f.source_port ∙ c.in_ok-common_header.ensures.source_port;
        destination_port = f.destination_port ∙ c.in_ok-common_header.ensures.destination_port;
        verification_tag = f.verification_tag ∙ c.in_ok-common_header.ensures.verification_tag;
        chunks = chunks;
      },
      some_chunks (drop 12 c.args.raw.now) p.chunks chunks (omega (arith, ap length rest, c.len.ensures.value)),
    )
