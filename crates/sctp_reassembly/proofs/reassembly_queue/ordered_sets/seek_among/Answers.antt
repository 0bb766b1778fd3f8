use Rattle.std.proofs.Common.{◌≡◌, map, ◌∷◌, ◌-◌, ◌^◌, ◌<◌, ◌≤◌, true, false, [], length, slice_index_or, sym, ap, subst, ◌∙◌, arith}
use Rattle.std.specs.List.Sorted.{IsPartitionPoint}
use Rattle.std.proofs.lemmas.Bool.Decides.{nat_tests}
use Rattle.std.proofs.lemmas.List.{get_or_default, nil_from_length}
use Rattle.sctp_data.specs.ChunkSet.{ChunkSet}
use Rattle.sctp_util.specs.Serial.{distance}
use Rattle.sctp_reassembly.specs.reassembly_queue.Fragments.{has_ssn, set_before}
use Rattle.sctp_serial.specs.Ascending.{IsAscending, IsInsertion, upper_half}
use Rattle.std.specs.List.{insert}
use Rattle.sctp_serial.proofs.lemmas.AscendingEdits.{upper_half_is, upper_half_small, same_upper_half, before_upper_half_of, before_half, number_read}
use Rattle.sctp_serial.proofs.lemmas.AscendingEdits.{first_small, sorted, place_from_split, place_positive, order_on, insertion_first, insertion_between}
use Rattle.sctp_serial.proofs.lemmas.AscendingEdits.{insertion_in_front, there}
use Rattle.sctp_reassembly.proofs.lemmas.reassembly_queue.Digits.{digits_le}
use Rattle.sctp_reassembly.proofs.lemmas.reassembly_queue.ExactFlags.{off_if, off_on, too_far_in_front, too_far_behind, insertion_opposite}
use Rattle.sctp_reassembly.proofs.reassembly_queue.ordered_sets.seek_among.Goals as goal

pub returns-then-len-eq0-clause-free : goal.returns-then-len-eq0-clause-free
returns-then-len-eq0-clause-free c =
    let num = (λ (s : ChunkSet). upper_half s.ssn) in
    let ssn = c.args.ssn in
    let none : c.args.sets.now.items ≡ [] = nil_from_length c.args.sets.now.items (omega (arith, c.len-len.ensures, c.if-len-eq0.true)) in
    subst (λ xs. IsInsertion (has_ssn ssn) num set_before xs 0 true) (sym none)
    (insertion_first (has_ssn ssn) num set_before (upper_half ssn) (upper_half_small ssn c.ranges.ssn.fits) (λ y. sym (same_upper_half y.ssn ssn))
    (λ y e. before_upper_half_of ssn y.ssn e.ssn c.ranges.ssn.fits))

pub returns-then-far-2-clause-free : goal.returns-then-far-2-clause-free
returns-then-far-2-clause-free c =
    let num = (λ (s : ChunkSet). upper_half s.ssn) in
    let xs = c.args.sets.now.items in
    let ssn = c.args.ssn in
    let n = upper_half ssn in
    let fits = upper_half_small ssn c.ranges.ssn.fits in
    let x = c.index.result.now in
    let last = c.index-then-far-2.result.now in
    let first = c.upper_half-first.result in
    let some : 0 < length xs = omega (arith, c.if-len-eq0.false, c.len-len.ensures) in
    let s = order_on num c.args.ascending xs c.if-not-ascending.false c.requires.order in
    let is_first = λ (d : ChunkSet). number_read num xs 0 x some c.index.ensures d ∙ sym (c.upper_half-first.ensures.value ∙ ap upper_half c.ssn.ensures) in
    let small = first_small num xs s first is_first some in
    let far : c.distance-far.result ≡ distance first n = c.distance-far.ensures.value ∙ ap (distance first) c.upper_half-number.ensures.value in
    let back : c.distance.result ≡ distance n (num last) = c.distance.ensures.value ∙ ap (λ t. distance t c.upper_half.result) c.upper_half-number.ensures.value
    ∙ ap (distance n) (c.upper_half.ensures.value ∙ ap upper_half c.ssn-then-far-2.ensures) in
    let end : c.len-len.result - 1 ≡ length xs - 1 = omega arith in
    insertion_in_front (has_ssn ssn) num set_before n fits (λ y. sym (same_upper_half y.ssn ssn))
    (λ y e. before_upper_half_of ssn y.ssn e.ssn c.ranges.ssn.fits) xs s first is_first some _ last (c.index-then-far-2.ensures
    ∙ ap (λ i. slice_index_or xs i last) end)
    (before_half first n small fits (omega (arith, c.if-far-2.true)))
    (λ on. grind (arith, nat_tests))

pub place_within-place-requires : goal.place_within-place-requires
place_within-place-requires c =
    let num = (λ (s : ChunkSet). upper_half s.ssn) in
    let xs = c.args.sets.now.items in
    let x = c.index.result.now in
    let some : 0 < length xs = omega (arith, c.if-len-eq0.false, c.len-len.ensures) in
    let s = order_on num c.args.ascending xs c.if-not-ascending.false c.requires.order in
    let is_first = λ (d : ChunkSet). number_read num xs 0 x some c.index.ensures d ∙ sym (c.upper_half-first.ensures.value ∙ ap upper_half c.ssn.ensures) in
    sorted num xs s c.upper_half-first.result is_first some

pub overflow_sub-place : goal.overflow_sub-place
overflow_sub-place c =
    let num = (λ (s : ChunkSet). upper_half s.ssn) in
    let xs = c.args.sets.now.items in
    let n = upper_half c.args.ssn in
    let x = c.index.result.now in
    let first = c.upper_half-first.result in
    let place = c.place_within-place.result in
    let some : 0 < length xs = omega (arith, c.if-len-eq0.false, c.len-len.ensures) in
    let s = order_on num c.args.ascending xs c.if-not-ascending.false c.requires.order in
    let is_first = λ (d : ChunkSet). number_read num xs 0 x some c.index.ensures d ∙ sym (c.upper_half-first.ensures.value ∙ ap upper_half c.ssn.ensures) in
    let far : c.distance-far.result ≡ distance first n = c.distance-far.ensures.value ∙ ap (distance first) c.upper_half-number.ensures.value in
    let split = subst (λ t. IsPartitionPoint (λ (y : ChunkSet). distance first (upper_half y.ssn) ≤ t)
    (λ (y : ChunkSet). t < distance first (upper_half y.ssn)) xs place) far c.place_within-place.ensures.split in
    place_positive num xs s first is_first some n place (place_from_split num xs s first is_first some n place c.place_within-place.ensures.in_range split)

pub returns-then-ssn-clause-there : goal.returns-then-ssn-clause-there
returns-then-ssn-clause-there c =
    let num = (λ (s : ChunkSet). upper_half s.ssn) in
    let xs = c.args.sets.now.items in
    let ssn = c.args.ssn in
    let n = upper_half ssn in
    let fits = upper_half_small ssn c.ranges.ssn.fits in
    let x = c.index.result.now in
    let found = c.index-2.result.now in
    let first = c.upper_half-first.result in
    let place = c.place_within-place.result in
    let some : 0 < length xs = omega (arith, c.if-len-eq0.false, c.len-len.ensures) in
    let s = order_on num c.args.ascending xs c.if-not-ascending.false c.requires.order in
    let is_first = λ (d : ChunkSet). number_read num xs 0 x some c.index.ensures d ∙ sym (c.upper_half-first.ensures.value ∙ ap upper_half c.ssn.ensures) in
    let far : c.distance-far.result ≡ distance first n = c.distance-far.ensures.value ∙ ap (distance first) c.upper_half-number.ensures.value in
    let split = subst (λ t. IsPartitionPoint (λ (y : ChunkSet). distance first (upper_half y.ssn) ≤ t)
    (λ (y : ChunkSet). t < distance first (upper_half y.ssn)) xs place) far c.place_within-place.ensures.split in
    let p = place_from_split num xs s first is_first some n place c.place_within-place.ensures.in_range split in
    let pos = place_positive num xs s first is_first some n place p in
    let near : distance first n < 2 ^ 31 = omega (arith, c.if-far.false, c.if-far-2.false) in
    let same : found.ssn ≡ ssn = grind (arith, nat_tests, c.ssn-2.ensures, c.if-ssn.true) in (
      sym (there (has_ssn ssn) num set_before n fits (λ y. sym (same_upper_half y.ssn ssn)) (λ y e. before_upper_half_of ssn y.ssn e.ssn c.ranges.ssn.fits) xs s
          first is_first some found place near p pos (ap num (sym c.index-2.ensures) ∙ ap upper_half same)),
      omega (arith, c.place_within-place.ensures.in_range),
    )

pub returns-clause-free : goal.returns-clause-free
returns-clause-free c =
    let num = (λ (s : ChunkSet). upper_half s.ssn) in
    let xs = c.args.sets.now.items in
    let ssn = c.args.ssn in
    let n = upper_half ssn in
    let fits = upper_half_small ssn c.ranges.ssn.fits in
    let x = c.index.result.now in
    let found = c.index-2.result.now in
    let first = c.upper_half-first.result in
    let place = c.place_within-place.result in
    let some : 0 < length xs = omega (arith, c.if-len-eq0.false, c.len-len.ensures) in
    let s = order_on num c.args.ascending xs c.if-not-ascending.false c.requires.order in
    let is_first = λ (d : ChunkSet). number_read num xs 0 x some c.index.ensures d ∙ sym (c.upper_half-first.ensures.value ∙ ap upper_half c.ssn.ensures) in
    let far : c.distance-far.result ≡ distance first n = c.distance-far.ensures.value ∙ ap (distance first) c.upper_half-number.ensures.value in
    let split = subst (λ t. IsPartitionPoint (λ (y : ChunkSet). distance first (upper_half y.ssn) ≤ t)
    (λ (y : ChunkSet). t < distance first (upper_half y.ssn)) xs place) far c.place_within-place.ensures.split in
    let p = place_from_split num xs s first is_first some n place c.place_within-place.ensures.in_range split in
    let near : distance first n < 2 ^ 31 = omega (arith, c.if-far.false, c.if-far-2.false) in
    insertion_between (has_ssn ssn) num set_before n fits (λ y. sym (same_upper_half y.ssn ssn))
    (λ y e. before_upper_half_of ssn y.ssn e.ssn c.ranges.ssn.fits) xs s first is_first some place near p
    (λ d pos e.
    let x = upper_half_is (slice_index_or xs (place - 1) d).ssn in
    let y = upper_half_is ssn in
    let same : (slice_index_or xs (place - 1) d).ssn ≡ ssn = omega arith in
    let here = ap (λ (z : ChunkSet). z.ssn)
    (c.index-2.ensures ∙ get_or_default xs (place - 1) found d (omega (arith, c.place_within-place.ensures.in_range))) in
    c.if-ssn.false (c.ssn-2.ensures ∙ here ∙ same))

pub seek_by_walk-requires : goal.seek_by_walk-requires
seek_by_walk-requires c = off_on c.args.ascending (map (λ (s : ChunkSet). upper_half s.ssn) c.args.sets.now.items) c.if-not-ascending.true c.requires.exact

pub returns-then-far-clause-free : goal.returns-then-far-clause-free
returns-then-far-clause-free c =
    let num = (λ (s : ChunkSet). upper_half s.ssn) in
    let xs = c.args.sets.now.items in
    let ssn = c.args.ssn in
    let n = upper_half ssn in
    let fits = upper_half_small ssn c.ranges.ssn.fits in
    let x = c.index.result.now in
    let first = c.upper_half-first.result in
    let some : 0 < length xs = omega (arith, c.if-len-eq0.false, c.len-len.ensures) in
    let s = order_on num c.args.ascending xs c.if-not-ascending.false c.requires.order in
    let is_first = λ (d : ChunkSet). number_read num xs 0 x some c.index.ensures d ∙ sym (c.upper_half-first.ensures.value ∙ ap upper_half c.ssn.ensures) in
    let far : c.distance-far.result ≡ distance first n = c.distance-far.ensures.value ∙ ap (distance first) c.upper_half-number.ensures.value in
    subst (λ place. IsInsertion (has_ssn ssn) num set_before xs place false) {x = length xs} (omega (arith, c.len-len.ensures))
    (insertion_opposite (has_ssn ssn) num set_before n fits (λ y. sym (same_upper_half y.ssn ssn))
    (λ y e. before_upper_half_of ssn y.ssn e.ssn c.ranges.ssn.fits) xs s first is_first some (sym far ∙ c.if-far.true))

pub returns-then-far-clause-exact : goal.returns-then-far-clause-exact
returns-then-far-clause-exact c y same =
    let num = (λ (s : ChunkSet). upper_half s.ssn) in
    let xs = c.args.sets.now.items in
    let x = c.index.result.now in
    let first = c.upper_half-first.result in
    let some : 0 < length xs = omega (arith, c.if-len-eq0.false, c.len-len.ensures) in
    let far : distance (num x) (num y) ≡ c.distance-far.result = ap (λ t. distance t (num y))
    (sym (c.upper_half-first.ensures.value ∙ ap upper_half c.ssn.ensures))
    ∙ ap (distance first) (ap upper_half same ∙ sym c.upper_half-number.ensures.value) ∙ sym c.distance-far.ensures.value in
    subst (λ place. IsAscending (map num (insert xs place y)) → ⊥) {x = length xs} (omega (arith, c.len-len.ensures))
    (too_far_behind num xs y x some c.index.ensures (omega (arith, far, c.if-far.true)))

pub returns-then-far-2-clause-exact : goal.returns-then-far-2-clause-exact
returns-then-far-2-clause-exact c y same =
    let num = (λ (s : ChunkSet). upper_half s.ssn) in
    let xs = c.args.sets.now.items in
    let last = c.index-then-far-2.result.now in
    let some : 0 < length xs = omega (arith, c.if-len-eq0.false, c.len-len.ensures) in
    let end : c.len-len.result - 1 ≡ length xs - 1 = omega arith in
    let far : distance (num y) (num last) ≡ c.distance.result = ap (λ t. distance t (num last)) (ap upper_half same ∙ sym c.upper_half-number.ensures.value)
    ∙ ap (distance c.upper_half-number.result) (sym (c.upper_half.ensures.value ∙ ap upper_half c.ssn-then-far-2.ensures)) ∙ sym c.distance.ensures.value in
    off_if _ (num y ∷ map num xs) (λ off.
    let long : 2 ^ 31 ≤ c.distance.result = grind (arith, nat_tests) in
    too_far_in_front num xs y last some (c.index-then-far-2.ensures ∙ ap (λ i. slice_index_or xs i last) end) (omega (arith, far, long)))

pub returns-then-ssn-clause-cost : goal.returns-then-ssn-clause-cost
returns-then-ssn-clause-cost c = omega (arith, digits_le (length c.args.sets.now.items), c.place_within-place.ensures.cost, c.tick.ensures, c.tick-2.ensures)

pub returns-clause-cost : goal.returns-clause-cost
returns-clause-cost c = omega (arith, digits_le (length c.args.sets.now.items), c.place_within-place.ensures.cost, c.tick.ensures, c.tick-2.ensures)
