use Rattle.std.proofs.Common.{◌≡◌, ◌+◌, ◌^◌, ◌<◌, length, get_or, sym, ap, subst, ◌∙◌, arith}
use Rattle.sctp_data.specs.ChunkSet.{ChunkSet}
use Rattle.sctp_util.specs.Serial.{distance}
use Rattle.sctp_serial.specs.Ascending.{upper_half}
use Rattle.sctp_serial.proofs.lemmas.AscendingEdits.{IsRising, ascending, rising_one, rising_more, rising_all, distance_self, number_read}
use Rattle.sctp_reassembly.proofs.lemmas.reassembly_queue.ExactFlags.{step_out_of_order}
use Rattle.sctp_reassembly.proofs.reassembly_queue.ordered_sets.are_ascending.Goals as goal
use Rattle.sctp_reassembly.proofs.reassembly_queue.ordered_sets.are_ascending.Goals.{then-next-far-via-then-next-far, then-next-far-via-else-next-far+then-next}

pub loop-place-init : goal.loop-place-init
loop-place-init c =
    let num = (λ (s : ChunkSet). upper_half s.ssn) in
    let xs = c.args.sets.now.items in
    let x = c.index.result.now in
    let some : 0 < length xs = omega (arith, c.if-len-eq0.false, c.len-len.ensures) in
    let first = c.upper_half-first.result in
    let same : num x ≡ first = sym (c.upper_half-first.ensures.value ∙ ap upper_half c.ssn.ensures) in
    let small : first < 2 ^ 32 = omega (arith, c.upper_half-first.type_inv) in
    record {
      rising = rising_one num xs first small x c.index.ensures same some;
      last = λ d. ap (distance first) (number_read num xs 0 x some c.index.ensures d ∙ same) ∙ distance_self first small;
      half = omega arith;
      small = small;
      turns = omega arith;
    }

pub returns-then-next-far-clause-exact : goal.returns-then-next-far-clause-exact
returns-then-next-far-clause-exact c =
    let num = (λ (s : ChunkSet). upper_half s.ssn) in
    let xs = c.args.sets.now.items in
    let x = c.index.result.now in
    let y = c.index-in-loop-place.result.now in
    let some : 0 < length xs = omega (arith, c.if-len-eq0.false, c.len-len.ensures) in
    let first = c.upper_half-first.result in
    let same : num x ≡ first = sym (c.upper_half-first.ensures.value ∙ ap upper_half c.ssn.ensures) in
    let here : c.upper_half-number.result ≡ num y = c.upper_half-number.ensures.value ∙ ap upper_half c.ssn-in-loop-place.ensures in
    let at : c.distance-next.result ≡ distance first (num y) = c.distance-next.ensures.value ∙ ap (distance first) here in
    step_out_of_order num xs first (λ d. number_read num xs 0 x some c.index.ensures d ∙ same) c.loop-place.place c.loop-place.far y
    (omega (arith, c.loop-place.auto)) (omega (arith, c.loop-place-test.true, c.len-len.ensures)) c.index-in-loop-place.ensures c.loop-place.invariant.last
    (λ up. elim c.then-next-far.branch [
      | then-next-far-via-then-next-far w ↦ absurd (omega (arith, at, up, w.if-next-far.true))
      | then-next-far-via-else-next-far+then-next w ↦ omega (arith, at, w.if-next.true)
    ])

pub loop-place-preserved : goal.loop-place-preserved
loop-place-preserved c =
    let num = (λ (s : ChunkSet). upper_half s.ssn) in
    let xs = c.args.sets.now.items in
    let y = c.index-in-loop-place.result.now in
    let first = c.upper_half-first.result in
    let i = c.loop-place.invariant in
    let here : c.upper_half-number.result ≡ num y = c.upper_half-number.ensures.value ∙ ap upper_half c.ssn-in-loop-place.ensures in
    let at : c.distance-next.result ≡ distance first (num y) = c.distance-next.ensures.value ∙ ap (distance first) here in
    let within : c.loop-place.place < length xs = omega (arith, c.loop-place-test.true, c.len-len.ensures) in
    let small : num y < 2 ^ 32 = omega (arith, here, c.upper_half-number.type_inv) in
    let more = rising_more num xs first i.small c.loop-place.far c.loop-place.place y within c.index-in-loop-place.ensures small
    (omega (arith, at, c.if-next-far.false)) i.rising in
    record {
      rising = subst (λ t. IsRising num xs first t (c.loop-place.place + 1)) (sym at) more;
      last = λ d. subst (λ k. distance first (num (get_or xs k d)) ≡ c.distance-next.result) {x = c.loop-place.place} (omega arith)
          (ap (distance first) (number_read num xs c.loop-place.place y within c.index-in-loop-place.ensures d) ∙ sym at);
      half = c.if-next.false;
      small = i.small;
      turns = omega arith;
    }

pub returns-clause-order : goal.returns-clause-order
returns-clause-order c =
    let num = (λ (s : ChunkSet). upper_half s.ssn) in
    let xs = c.args.sets.now.items in
    let first = c.upper_half-first.result in
    let i = c.loop-place.invariant in
    let all : c.loop-place.place ≡ length xs = omega (arith, c.if-len-eq0.false, c.loop-place-test.false, c.loop-place.auto, c.len-len.ensures) in
    ascending num xs (rising_all num xs first i.small c.loop-place.far i.half (subst (λ n. IsRising num xs first c.loop-place.far n) all i.rising))
