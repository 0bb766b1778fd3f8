use Rattle.std.proofs.Common.{◌≡◌, ◌<◌, length, is_some, option_map, true, ap, subst, sym, ◌∙◌, arith, rules}
use Rattle.std.proofs.lemmas.List.Sums.{sum_by-set}
use Rattle.sctp_data.specs.ChunkSet.{ChunkSet}
use Rattle.sctp_reassembly.specs.declared.reassembly_queue.chunks.Placed.{Placed}
use Rattle.sctp_reassembly.specs.reassembly_queue.Counts.{SetDeque}
use Rattle.sctp_reassembly.proofs.lemmas.reassembly_queue.ChunkCounts.{one_more, is_some-mapped}
use Rattle.sctp_reassembly.proofs.lemmas.reassembly_queue.Undone.{among_others}
use Rattle.sctp_reassembly.proofs.reassembly_queue.counted_sets.CountedSets.put_into.Goals as goal

pub invariant_of-self-then-is_some : goal.invariant_of-self-then-is_some
invariant_of-self-then-is_some c =
    let xs = c.self.inside.sets.items in
    let i = c.args.place in
    let old = c.index_mut-set.result.now in
    let new = c.put_placed.new.self in
    let within : i < length xs = subst (λ (s : SetDeque). i < length s.items) (sym c.self.view_is) c.requires in
    let sums = sum_by-set (λ (s : ChunkSet). length s.chunks) xs i new old within in
    let read = ap (λ (s : ChunkSet). length s.chunks) c.index_mut-set.ensures.value in
    let put = ap (λ (s : ChunkSet). length s.chunks) c.in_ok-put.ensures.ok in
    let there : is_some c.in_ok-put.put ≡ true = search rules in
    let whole = (λ (p : Placed). p.whole) in
    let some = is_some-mapped whole c.in_ok-put.put ∙ there in
    let more = one_more c.args.chunk old (option_map whole c.in_ok-put.put) c.in_ok-put.ensures.answer some in
    omega (arith, c.self.invariant, c.saturating_add-self-inside.ensures, sums, read, put, more)

pub returns-then-is_some-clause-undo : goal.returns-then-is_some-clause-undo
returns-then-is_some-clause-undo c =
    let xs = c.self.inside.sets.items in
    let i = c.args.place in
    let new = c.put_placed.new.self in
    let within : i < length xs = subst (λ (s : SetDeque). i < length s.items) (sym c.self.view_is) c.requires in
    rw (← c.self.view_is) (among_others xs i c.index_mut-set.result.now new c.in_ok-put.put within c.index_mut-set.ensures.value c.in_ok-put.ensures.undo)
