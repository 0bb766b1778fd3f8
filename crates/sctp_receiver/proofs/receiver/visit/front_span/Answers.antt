use Rattle.sctp_receiver.proofs.Names.{arith, ◌≡◌, ◌<◌, ◌^◌, refl, ap, sym, ◌∙◌, false, length, ChunkPayloadData}
use Rattle.sctp_receiver.specs.Spans.{is_outside, front_outside}
use Rattle.sctp_receiver.proofs.Spans.{front-inside, complete-inside, both-inside}
use Rattle.sctp_receiver.proofs.receiver.visit.front_span.Goals as goal

pub returns-in-Some-clause-covers : goal.returns-in-Some-clause-covers
returns-in-Some-clause-covers c =
    let cs = c.unordered_chunks.result.now.items in
    let x = c.in-Some.chunk.now in
    let s = c.of.result in
    let some : 0 < length cs = omega (arith, c.in-Some.ensures.variant.0 refl) in
    let fits : x.tsn < 2 ^ 32 = omega (arith, c.of.ensures.fits, ap (λ (z : ChunkPayloadData). z.tsn) c.deref.ensures) in
    let here : is_outside s x.tsn ≡ false = sym (ap (λ (z : ChunkPayloadData). is_outside s z.tsn) c.deref.ensures) ∙ c.of.ensures.here in
    both-inside s c.args.queue.now.held
    (ap (front_outside s) (sym c.unordered_chunks.ensures) ∙ front-inside s cs x some c.in-Some.ensures.lookup fits here)
    (complete-inside s c.args.queue.now.held.ordered c.of.ensures.all c.requires)
