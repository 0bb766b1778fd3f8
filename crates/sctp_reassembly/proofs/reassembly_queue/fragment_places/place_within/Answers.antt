use Rattle.std.proofs.Common.{◌≡◌, ◌-◌, length, slice_index_or, sym, ap, ◌∙◌, arith}
use Rattle.std.proofs.lemmas.List.{get_or_default}
use Rattle.sctp_data.specs.declared.chunk.chunk_payload_data.ChunkPayloadData.{ChunkPayloadData}
use Rattle.sctp_util.specs.Serial.{distance}
use Rattle.sctp_reassembly.proofs.lemmas.reassembly_queue.Digits.{within_digits}
use Rattle.sctp_reassembly.proofs.reassembly_queue.fragment_places.place_within.Goals as goal
use Rattle.sctp_reassembly.proofs.reassembly_queue.fragment_places.place_within.Goals.{then-len-gt0+else-distance-far, else-len-gt0}

pub returns-then-distance-far-clause-split : goal.returns-then-distance-far-clause-split
returns-then-distance-far-clause-split c =
    let xs = c.args.chunks.now in
    let last = c.index-chunks-len.result in (
      (λ k d low high.
          let end : distance c.args.first (slice_index_or xs (length xs - 1) d).tsn ≡ c.distance.result =
          ap (λ (x : ChunkPayloadData). distance c.args.first x.tsn) (get_or_default xs (length xs - 1) d last (omega arith))
          ∙ sym (c.distance.ensures.value ∙ ap (λ (x : ChunkPayloadData). distance c.args.first x.tsn) (c.deref.ensures ∙ c.index-chunks-len.is)) in
          let le = c.requires k (length xs - 1) d (omega arith) (omega arith) in
          omega (arith, c.if-distance-far.true)),
      (λ k d low high. absurd (omega arith)),
    )

pub returns-clause-cost : goal.returns-clause-cost
returns-clause-cost c =
    let few = within_digits (length c.args.chunks.now) _ c.by_halves.ensures.cost in
    elim c.if-len-gt0.branch [
      | then-len-gt0+else-distance-far w ↦ omega (arith, few, c.by_halves.ensures.not_back, w.turns-is, w.tick.ensures)
      | else-len-gt0 w ↦ omega (arith, few, c.by_halves.ensures.not_back, w.turns-is)
    ]
