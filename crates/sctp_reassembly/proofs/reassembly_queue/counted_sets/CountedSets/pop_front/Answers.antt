use Rattle.std.proofs.Common.{◌≡◌, ◌-◌, ◌^◌, ◌∷◌, min, length, sym, ap, ◌∙◌, arith}
use Rattle.std.proofs.lemmas.List.Sums.{sum_by-cons}
use Rattle.sctp_data.specs.ChunkSet.{ChunkSet}
use Rattle.sctp_reassembly.specs.reassembly_queue.Counts.{set_chunks}
use Rattle.sctp_reassembly.proofs.reassembly_queue.counted_sets.CountedSets.pop_front.Goals as goal

pub invariant_of-self-2 : goal.invariant_of-self-2
invariant_of-self-2 c =
    let left = c.pop_front.new.self.items in
    let all : c.self.inside.sets.items ≡ c.in_ok-set.set ∷ left = c.in_ok-set.ensures.items in
    let gone = c.first_chunks-gone.ensures c.in_ok-set.set left all in
    let sum = sum_by-cons (λ (s : ChunkSet). length s.chunks) c.in_ok-set.set left in
    c.chunks_without-self-inside.ensures.value (omega (arith, c.self.invariant, ap set_chunks all, sum, gone))
    ∙ ap (λ ss. min (set_chunks ss) (2 ^ 64 - 1)) (sym c.give_back.ensures.items)
