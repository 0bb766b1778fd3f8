use Rattle.std.proofs.Common.{length, Some, sym, ap, ◌∙◌, arith}
use Rattle.std.specs.List.{slice_get}
use Rattle.std.specs.Option.{option_map}
use Rattle.std.proofs.lemmas.Option.{slice_get-get_or}
use Rattle.sctp_data.specs.declared.chunk.chunk_payload_data.ChunkPayloadData.{ChunkPayloadData}
use Rattle.sctp_outbound.proofs.lemmas.payload_queue.Places.{held_at, held_length}
use Rattle.sctp_outbound.proofs.payload_queue.held.Held.see.Goals as goal

pub returns-clause-value : goal.returns-clause-value
returns-clause-value c =
    let viewed = ap (λ s. length s.chunks) c.self.view_is in
    let inv = c.self.invariant in
    let found = held_at _ _ _ inv.held c.args.place c.index-here.result.now (omega (arith, c.requires, viewed, held_length _ _ _ inv.held))
    c.index-here.ensures in
    found.1 ∙ ap Some (sym (found.3 found.0)) ∙ sym (slice_get-get_or _ c.args.place found.0 (omega (arith, c.requires, viewed)))
    ∙ ap (λ s. slice_get s.chunks c.args.place) c.self.view_is

pub invariant_of-result : goal.invariant_of-result
invariant_of-result c =
    let viewed = ap (λ s. length s.chunks) c.self.view_is in
    let inv = c.self.invariant in
    let found = held_at _ _ _ inv.held c.args.place c.index-here.result.now (omega (arith, c.requires, viewed, held_length _ _ _ inv.held))
    c.index-here.ensures in
    ap (option_map (λ (x : ChunkPayloadData). x.tsn)) found.1 ∙ ap Some (sym found.2)
