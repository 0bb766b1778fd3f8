use Rattle.std.proofs.Common.{get_or, length, sym, ap, ◌∙◌, arith}
use Rattle.sctp_data.specs.declared.chunk.chunk_payload_data.ChunkPayloadData.{ChunkPayloadData}
use Rattle.sctp_outbound.proofs.lemmas.payload_queue.Places.{held_at, held_length}
use Rattle.sctp_outbound.proofs.payload_queue.held.Held.tsn_at.Goals as goal

pub returns-clause-value : goal.returns-clause-value
returns-clause-value c d =
    let viewed = ap (λ s. length s.chunks) c.self.view_is in
    let inv = c.self.invariant in
    let found = held_at _ _ _ inv.held c.args.place c.index.result.now (omega (arith, c.requires, viewed, held_length _ _ _ inv.held)) c.index.ensures in
    ap (λ s. (get_or s.chunks c.args.place d).tsn) (sym c.self.view_is) ∙ ap (λ (x : ChunkPayloadData). x.tsn) (found.3 d) ∙ sym found.2
