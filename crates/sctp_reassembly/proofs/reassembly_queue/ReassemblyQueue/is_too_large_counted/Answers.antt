use Rattle.std.proofs.Common.{refl, arith}
use Rattle.sctp_reassembly.proofs.lemmas.reassembly_queue.Stretches.{fits_at}
use Rattle.sctp_reassembly.proofs.reassembly_queue.ReassemblyQueue.is_too_large_counted.Goals as goal

pub returns-clause-ordered_cost : goal.returns-clause-ordered_cost
returns-clause-ordered_cost c off old = omega (arith, c.place_of-place.ensures.none off, c.is_too_large_at.ensures.few off old.numbers)

pub returns-clause-ordered_walk : goal.returns-clause-ordered_walk
returns-clause-ordered_walk c off = omega (arith, c.place_of-place.ensures.none off, c.is_too_large_at.ensures.cost off)

pub returns-clause-unordered_cost : goal.returns-clause-unordered_cost
returns-clause-unordered_cost c on fits s t w =
    let q = c.args.self.now.held in
    let h = fits_at q q.unassembled c.args.chunk.now c.place_of-place.result s t refl (c.place_of-place.ensures.place on) fits w in
    omega (
      arith,
      c.place_of-place.ensures.few h.without,
      c.is_too_large_at.ensures.unordered_cost on s t h.serial h.stretch,
      h.stretch.holds_from,
      h.stretch.holds_to,
    )

pub returns-clause-unordered_walk : goal.returns-clause-unordered_walk
returns-clause-unordered_walk c on = omega (arith, c.place_of-place.ensures.walk, c.is_too_large_at.ensures.unordered_walk on)

pub returns-clause-unordered_few : goal.returns-clause-unordered_few
returns-clause-unordered_few c on fits s t e =
    let q = c.args.self.now.held in
    let h = fits_at q q.unassembled c.args.chunk.now c.place_of-place.result s t refl (c.place_of-place.ensures.place on) fits e.joins in
    omega (arith, c.place_of-place.ensures.few h.without, c.is_too_large_at.ensures.none on h.without e.short)
