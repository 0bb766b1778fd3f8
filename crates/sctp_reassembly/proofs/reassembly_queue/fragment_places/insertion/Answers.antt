use Rattle.std.proofs.Common.{◌≡◌, map, ◌-◌, ◌^◌, ◌<◌, ◌≤◌, length, slice_index_or, ◌∷◌, refl, sym, ap, subst, ◌∙◌, arith}
use Rattle.std.specs.List.Sorted.{IsPartitionPoint}
use Rattle.std.proofs.lemmas.Bool.Decides.{nat_tests}
use Rattle.std.proofs.lemmas.List.{get_or_default}
use Rattle.sctp_data.specs.declared.chunk.chunk_payload_data.ChunkPayloadData.{ChunkPayloadData}
use Rattle.sctp_util.specs.Serial.{distance, comes_before}
use Rattle.sctp_serial.specs.DataChunks.{has_tsn, chunk_before}
use Rattle.sctp_serial.proofs.lemmas.AscendingEdits.{before_half, first_small, sorted, place_from_split, place_positive, order_on, insertion_between}
use Rattle.sctp_serial.proofs.lemmas.AscendingEdits.{insertion_in_front}
use Rattle.sctp_reassembly.proofs.lemmas.reassembly_queue.Digits.{digits_le}
use Rattle.sctp_reassembly.proofs.lemmas.reassembly_queue.ExactFlags.{off_if, off_on, too_far_in_front, too_far_behind, insertion_opposite}
use Rattle.sctp_reassembly.proofs.reassembly_queue.fragment_places.insertion.Goals as goal

pub returns-then-far-2-clause-free : goal.returns-then-far-2-clause-free
returns-then-far-2-clause-free c =
    let num = (λ (x : ChunkPayloadData). x.tsn) in
    let xs = c.args.chunks.now in
    let n = c.args.tsn in
    let x = c.index-chunks-0.result in
    let last = c.index-chunks-len.result in
    let some : 0 < length xs = omega (arith, c.if-len-eq0.false) in
    let s = order_on num c.args.ascending xs c.if-not-ascending.false c.requires.order in
    let first = c.tsn_of-first.result in
    let is_first = λ (d : ChunkPayloadData). ap num (get_or_default xs 0 d x some ∙ sym c.index-chunks-0.is) ∙ sym c.tsn_of-first.ensures.value in
    let small = first_small num xs s first is_first some in
    insertion_in_front (has_tsn n) num chunk_before n c.ranges.tsn.fits (λ y. refl)
    (λ y e same lt. ap (λ t. comes_before t e.tsn) same) xs s first is_first some _ last c.index-chunks-len.is
    (before_half first n small c.ranges.tsn.fits (omega (arith, c.distance-far.ensures.value, c.if-far-2.true)))
    (λ on.
    let end : distance n (slice_index_or xs (length xs - 1) last).tsn ≡ distance n last.tsn = ap (λ (y : ChunkPayloadData). distance n y.tsn)
    (sym c.index-chunks-len.is) in
    grind (arith, nat_tests, c.distance.ensures.value, c.tsn_of.ensures.value))

pub place_within-place-requires : goal.place_within-place-requires
place_within-place-requires c =
    let num = (λ (x : ChunkPayloadData). x.tsn) in
    let xs = c.args.chunks.now in
    let x = c.index-chunks-0.result in
    let some : 0 < length xs = omega (arith, c.if-len-eq0.false) in
    let s = order_on num c.args.ascending xs c.if-not-ascending.false c.requires.order in
    sorted num xs s c.tsn_of-first.result (λ d. ap num (get_or_default xs 0 d x some ∙ sym c.index-chunks-0.is) ∙ sym c.tsn_of-first.ensures.value) some

pub overflow_sub-place : goal.overflow_sub-place
overflow_sub-place c =
    let num = (λ (x : ChunkPayloadData). x.tsn) in
    let xs = c.args.chunks.now in
    let n = c.args.tsn in
    let x = c.index-chunks-0.result in
    let place = c.place_within-place.result in
    let some : 0 < length xs = omega (arith, c.if-len-eq0.false) in
    let s = order_on num c.args.ascending xs c.if-not-ascending.false c.requires.order in
    let first = c.tsn_of-first.result in
    let is_first = λ (d : ChunkPayloadData). ap num (get_or_default xs 0 d x some ∙ sym c.index-chunks-0.is) ∙ sym c.tsn_of-first.ensures.value in
    let split = subst (λ far. IsPartitionPoint (λ (y : ChunkPayloadData). distance first y.tsn ≤ far)
    (λ (y : ChunkPayloadData). far < distance first y.tsn) xs place) c.distance-far.ensures.value c.place_within-place.ensures.split in
    place_positive num xs s first is_first some n place (place_from_split num xs s first is_first some n place c.place_within-place.ensures.in_range split)

pub returns-clause-free : goal.returns-clause-free
returns-clause-free c =
    let num = (λ (x : ChunkPayloadData). x.tsn) in
    let xs = c.args.chunks.now in
    let n = c.args.tsn in
    let x = c.index-chunks-0.result in
    let place = c.place_within-place.result in
    let some : 0 < length xs = omega (arith, c.if-len-eq0.false) in
    let s = order_on num c.args.ascending xs c.if-not-ascending.false c.requires.order in
    let first = c.tsn_of-first.result in
    let is_first = λ (d : ChunkPayloadData). ap num (get_or_default xs 0 d x some ∙ sym c.index-chunks-0.is) ∙ sym c.tsn_of-first.ensures.value in
    let split = subst (λ far. IsPartitionPoint (λ (y : ChunkPayloadData). distance first y.tsn ≤ far)
    (λ (y : ChunkPayloadData). far < distance first y.tsn) xs place) c.distance-far.ensures.value c.place_within-place.ensures.split in
    let near : distance first n < 2 ^ 31 = omega (arith, c.distance-far.ensures.value, c.if-far.false, c.if-far-2.false) in
    insertion_between (has_tsn n) num chunk_before n c.ranges.tsn.fits (λ y. refl)
    (λ y e same lt. ap (λ t. comes_before t e.tsn) same) xs s first is_first some place near
    (place_from_split num xs s first is_first some n place c.place_within-place.ensures.in_range split)
    (λ d pos e. c.if-deref-tsn.false (ap num (c.deref.ensures ∙ c.index-chunks-place.is)
    ∙ ap num (get_or_default xs (place - 1) c.index-chunks-place.result d (omega (arith, c.place_within-place.ensures.in_range))) ∙ e))

pub insertion_by_walk-requires : goal.insertion_by_walk-requires
insertion_by_walk-requires c = off_on c.args.ascending (map (λ (x : ChunkPayloadData). x.tsn) c.args.chunks.now) c.if-not-ascending.true c.requires.exact

pub returns-then-far-clause-free : goal.returns-then-far-clause-free
returns-then-far-clause-free c =
    let num = (λ (x : ChunkPayloadData). x.tsn) in
    let xs = c.args.chunks.now in
    let n = c.args.tsn in
    let x = c.index-chunks-0.result in
    let some : 0 < length xs = omega (arith, c.if-len-eq0.false) in
    let s = order_on num c.args.ascending xs c.if-not-ascending.false c.requires.order in
    let first = c.tsn_of-first.result in
    let is_first = λ (d : ChunkPayloadData). ap num (get_or_default xs 0 d x some ∙ sym c.index-chunks-0.is) ∙ sym c.tsn_of-first.ensures.value in
    insertion_opposite (has_tsn n) num chunk_before n c.ranges.tsn.fits (λ y. refl)
    (λ y e same lt. ap (λ t. comes_before t e.tsn) same) xs s first is_first some (sym c.distance-far.ensures.value ∙ c.if-far.true)

pub returns-then-far-clause-exact : goal.returns-then-far-clause-exact
returns-then-far-clause-exact c y same =
    let num = (λ (x : ChunkPayloadData). x.tsn) in
    let xs = c.args.chunks.now in
    let x = c.index-chunks-0.result in
    let some : 0 < length xs = omega (arith, c.if-len-eq0.false) in
    let far : distance x.tsn y.tsn ≡ c.distance-far.result = ap (λ t. distance t y.tsn) (sym c.tsn_of-first.ensures.value)
    ∙ ap (distance c.tsn_of-first.result) same ∙ sym c.distance-far.ensures.value in
    too_far_behind num xs y x some c.index-chunks-0.is (omega (arith, far, c.if-far.true))

pub returns-then-far-2-clause-exact : goal.returns-then-far-2-clause-exact
returns-then-far-2-clause-exact c y same =
    let num = (λ (x : ChunkPayloadData). x.tsn) in
    let xs = c.args.chunks.now in
    let last = c.index-chunks-len.result in
    let some : 0 < length xs = omega (arith, c.if-len-eq0.false) in
    let far : distance y.tsn last.tsn ≡ c.distance.result = ap (λ t. distance t last.tsn) same ∙ ap (distance c.args.tsn) (sym c.tsn_of.ensures.value)
    ∙ sym c.distance.ensures.value in
    off_if _ (y.tsn ∷ map num xs) (λ off.
    let long : 2 ^ 31 ≤ c.distance.result = grind (arith, nat_tests) in
    too_far_in_front num xs y last some c.index-chunks-len.is (omega (arith, far, long)))

pub returns-then-deref-tsn-clause-cost : goal.returns-then-deref-tsn-clause-cost
returns-then-deref-tsn-clause-cost c = omega (arith, digits_le (length c.args.chunks.now), c.place_within-place.ensures.cost, c.tick.ensures, c.tick-2.ensures)

pub returns-clause-cost : goal.returns-clause-cost
returns-clause-cost c = omega (arith, digits_le (length c.args.chunks.now), c.place_within-place.ensures.cost, c.tick.ensures, c.tick-2.ensures)
