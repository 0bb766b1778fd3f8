use Rattle.std.proofs.Common.{◌≡◌, Some, length, refl, sym, ap, ◌∙◌, arith}
use Rattle.std.proofs.lemmas.Option.{none-some}
use Rattle.sctp_data.specs.declared.chunk.chunk_payload_data.ChunkPayloadData.{ChunkPayloadData}
use Rattle.sctp_util.proofs.Edits.{sum_by-inserted}
use Rattle.sctp_outbound.specs.outbound_queue.OutboundQueue.{as_sent}
use Rattle.sctp_serial.specs.DataChunks.{chunk_before}
use Rattle.sctp_outbound.proofs.lemmas.outbound_queue.Sendable.{popped_bytes, sendable-sent}
use Rattle.sctp_outbound.proofs.outbound_queue.OutboundQueue.send_peeked.Goals as goal

same_chunk : (x y : ChunkPayloadData) → Some x ≡ Some y → x ≡ y
same_chunk x y e = cc

pub unreachable-requires-in_default-pop : goal.unreachable-requires-in_default-pop
unreachable-requires-in_default-pop c =
    let front = c.in-Some.chunk.now in
    none-some _ (c.in_default-pop.ensures.popped ∙ (sendable-sent c.self.inside.pending c.self.inside.inflight.chunks c.self.inside.next_message_id front front
    refl c.self.invariant.sendable (sym c.in-Some.ensures)).taken)

pub invariant_of-self : goal.invariant_of-self
invariant_of-self c =
    let front = c.in-Some.chunk.now in
    let x = c.in-Some-pop.chunk in
    let t = as_sent c.args.tsn c.args.now x in
    let q = c.self.inside.pending in
    let xs = c.self.inside.inflight.chunks in
    let taken = (sendable-sent q xs c.self.inside.next_message_id front front refl c.self.invariant.sendable (sym c.in-Some.ensures)).taken in
    let same = same_chunk x front (c.in-Some-pop.ensures.popped ∙ taken) in
    let on = sendable-sent q xs c.self.inside.next_message_id front t (ap (λ (y : ChunkPayloadData). y.message_id) same) c.self.invariant.sendable
    (sym c.in-Some.ensures) in
    let left = popped_bytes front.beginning_fragment front.unordered q front taken in
    let more = sum_by-inserted (λ (y : ChunkPayloadData). length y.user_data) chunk_before t xs in
    rw (c.pop.ensures.rest, c.in-Ok.ensures.ok) record {
      sendable = on.sendable;
      fits = omega (arith, c.self.invariant.fits, ap (λ (y : ChunkPayloadData). length y.user_data) same);
    }
