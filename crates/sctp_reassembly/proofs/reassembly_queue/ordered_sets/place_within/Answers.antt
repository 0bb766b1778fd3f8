use Rattle.std.proofs.Common.{◌≡◌, ◌-◌, length, slice_index_or, sym, ap, ◌∙◌, arith}
use Rattle.std.proofs.lemmas.List.{get_or_default}
use Rattle.sctp_data.specs.ChunkSet.{ChunkSet}
use Rattle.sctp_util.specs.Serial.{distance}
use Rattle.sctp_serial.specs.Ascending.{upper_half}
use Rattle.sctp_reassembly.proofs.lemmas.reassembly_queue.Digits.{within_digits}
use Rattle.sctp_reassembly.proofs.reassembly_queue.ordered_sets.place_within.Goals as goal
use Rattle.sctp_reassembly.proofs.reassembly_queue.ordered_sets.place_within.Goals.{then-len-gt0+else-distance-far, else-len-gt0}

pub returns-then-distance-far-clause-split : goal.returns-then-distance-far-clause-split
returns-then-distance-far-clause-split c =
    let xs = c.args.sets.now.items in
    let first = c.args.first in
    let last = c.index.result.now in
    let at : c.distance.result ≡ distance first (upper_half last.ssn) = c.distance.ensures.value
    ∙ ap (distance first) (c.upper_half.ensures.value ∙ ap upper_half c.ssn.ensures) in (
      (λ k d low high.
          let end : distance first (upper_half (slice_index_or xs (length xs - 1) d).ssn) ≡ c.distance.result =
          ap (λ (s : ChunkSet). distance first (upper_half s.ssn)) (get_or_default xs (length xs - 1) d last (omega arith)
          ∙ ap (λ i. slice_index_or xs i last) {y = c.len-len.result - 1} (omega arith) ∙ sym c.index.ensures) ∙ sym at in
          let le = c.requires k (length xs - 1) d (omega arith) (omega arith) in
          omega (arith, c.if-distance-far.true)),
      (λ k d low high. absurd (omega arith)),
    )

pub returns-clause-cost : goal.returns-clause-cost
returns-clause-cost c =
    let few = within_digits (length c.args.sets.now.items) _ c.by_halves.ensures.cost in
    elim c.if-len-gt0.branch [
      | then-len-gt0+else-distance-far w ↦ omega (arith, few, c.by_halves.ensures.not_back, w.turns-is, w.tick.ensures)
      | else-len-gt0 w ↦ omega (arith, few, c.by_halves.ensures.not_back, w.turns-is)
    ]
