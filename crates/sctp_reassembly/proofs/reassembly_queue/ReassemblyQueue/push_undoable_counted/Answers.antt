use Rattle.std.proofs.Common.{◌≡◌, ℕ, refl, sym, subst, ◌∙◌, arith}
use Rattle.std.proofs.lemmas.Bool.{false≢true}
use Rattle.sctp_data.specs.declared.chunk.chunk_payload_data.ChunkPayloadData.{ChunkPayloadData}
use Rattle.sctp_reassembly.specs.reassembly_queue.Costs.{IsAtEnd}
use Rattle.sctp_reassembly.specs.reassembly_queue.ReassemblyQueue.{IsCounted}
use Rattle.sctp_reassembly.proofs.lemmas.reassembly_queue.ByteCounts.{ordered_counted, unordered_counted, either, either_of}
use Rattle.sctp_reassembly.proofs.lemmas.reassembly_queue.Stretches.{fits_at}
use Rattle.sctp_reassembly.proofs.reassembly_queue.ReassemblyQueue.push_undoable_counted.Goals as goal

pub returns-clause-counted : goal.returns-clause-counted
returns-clause-counted c fits h =
    either_of c.push_unordered.result c.push_unordered.ensures.ok c.push_unordered.ensures.err
    (λ put pushed. unordered_counted c.args.chunk c.args.self.now c.push_unordered.new.self put.0 pushed fits h)
    (λ same. subst IsCounted (sym same) h)

pub returns-then-not-chunk-clause-counted : goal.returns-then-not-chunk-clause-counted
returns-then-not-chunk-clause-counted c fits h =
    either c.push_ordered.result c.push_ordered.ensures.ok c.push_ordered.ensures.err
    (λ put. subst IsCounted (sym put) (ordered_counted c.args.chunk c.args.self.now fits h))
    (λ same. subst IsCounted (sym same) h)

-- ## Looks

pub returns-then-is_too_large_at-clause-ordered_cost : goal.returns-then-is_too_large_at-clause-ordered_cost
returns-then-is_too_large_at-clause-ordered_cost c off old new = absurd (false≢true (sym off ∙ c.if-not-chunk.false))

pub returns-then-is_too_large_at-clause-ordered_walk : goal.returns-then-is_too_large_at-clause-ordered_walk
returns-then-is_too_large_at-clause-ordered_walk c off = absurd (false≢true (sym off ∙ c.if-not-chunk.false))

pub returns-then-is_too_large_at-clause-unordered_cost : goal.returns-then-is_too_large_at-clause-unordered_cost
returns-then-is_too_large_at-clause-unordered_cost c on fits s t w =
    let q = c.args.self.now.held in
    let h = fits_at q q.unassembled c.args.chunk c.place_of-place.result s t refl (c.place_of-place.ensures.place on) fits w in
    omega (
      arith,
      c.place_of-place.ensures.few h.without,
      c.is_too_large_at.ensures.unordered_cost on s t h.serial h.stretch,
      h.stretch.holds_from,
      h.stretch.holds_to,
    )

pub returns-then-is_too_large_at-clause-unordered_walk : goal.returns-then-is_too_large_at-clause-unordered_walk
returns-then-is_too_large_at-clause-unordered_walk c on = omega (arith, c.place_of-place.ensures.walk, c.is_too_large_at.ensures.unordered_walk on)

pub returns-clause-ordered_cost : goal.returns-clause-ordered_cost
returns-clause-ordered_cost c off old new = absurd (false≢true (sym off ∙ c.if-not-chunk.false))

pub returns-clause-ordered_walk : goal.returns-clause-ordered_walk
returns-clause-ordered_walk c off = absurd (false≢true (sym off ∙ c.if-not-chunk.false))

pub returns-clause-unordered_cost : goal.returns-clause-unordered_cost
returns-clause-unordered_cost c on fits s t w =
    let q = c.args.self.now.held in
    let h = fits_at q q.unassembled c.args.chunk c.place_of-place.result s t refl (c.place_of-place.ensures.place on) fits w in
    omega (
      arith,
      c.place_of-place.ensures.few h.without,
      c.is_too_large_at.ensures.unordered_cost on s t h.serial h.stretch,
      c.push_unordered.ensures.cost fits s t w,
      h.stretch.holds_from,
      h.stretch.holds_to,
    )

pub returns-clause-unordered_walk : goal.returns-clause-unordered_walk
returns-clause-unordered_walk c on =
    omega (arith, c.place_of-place.ensures.walk, c.is_too_large_at.ensures.unordered_walk on, c.push_unordered.ensures.walk)

pub returns-then-not-chunk-clause-ordered_cost : goal.returns-then-not-chunk-clause-ordered_cost
returns-then-not-chunk-clause-ordered_cost c off old new =
    omega (arith, c.push_ordered.ensures.few old new)

pub returns-then-not-chunk-clause-ordered_walk : goal.returns-then-not-chunk-clause-ordered_walk
returns-then-not-chunk-clause-ordered_walk c off =
    omega (arith, c.push_ordered.ensures.cost)

pub returns-then-not-chunk-clause-unordered_cost : goal.returns-then-not-chunk-clause-unordered_cost
returns-then-not-chunk-clause-unordered_cost c on fits s t w = absurd (false≢true (sym c.if-not-chunk.true ∙ on))

pub returns-then-not-chunk-clause-unordered_walk : goal.returns-then-not-chunk-clause-unordered_walk
returns-then-not-chunk-clause-unordered_walk c on = absurd (false≢true (sym c.if-not-chunk.true ∙ on))

-- at an end of its stretch, where all fit in one message
at_place : (x : ChunkPayloadData) (first last : ℕ) {place n : ℕ} → place ≡ n → IsAtEnd x n first last → IsAtEnd x place first last
at_place x first last same end = subst (λ i. IsAtEnd x i first last) (sym same) end

pub returns-then-is_too_large_at-clause-unordered_few : goal.returns-then-is_too_large_at-clause-unordered_few
returns-then-is_too_large_at-clause-unordered_few c on fits s t e =
    let q = c.args.self.now.held in
    let h = fits_at q q.unassembled c.args.chunk c.place_of-place.result s t refl (c.place_of-place.ensures.place on) fits e.joins in
    omega (arith, c.place_of-place.ensures.few h.without, c.is_too_large_at.ensures.none on h.without e.short)

pub returns-clause-unordered_few : goal.returns-clause-unordered_few
returns-clause-unordered_few c on fits s t e =
    let q = c.args.self.now.held in
    let at = c.place_of-place.ensures.place on in
    let h = fits_at q q.unassembled c.args.chunk c.place_of-place.result s t refl at fits e.joins in
    omega (
      arith,
      c.place_of-place.ensures.few h.without,
      c.is_too_large_at.ensures.none on h.without e.short,
      c.push_unordered.ensures.few fits s t e.joins (at_place c.args.chunk s t at e.at_end),
    )

pub returns-then-not-chunk-clause-unordered_few : goal.returns-then-not-chunk-clause-unordered_few
returns-then-not-chunk-clause-unordered_few c on fits s t e = absurd (false≢true (sym c.if-not-chunk.true ∙ on))
