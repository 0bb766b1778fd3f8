use Rattle.std.proofs.Common.{◌≡◌, ◌<◌, length, sym, ap, subst, ◌∙◌, arith}
use Rattle.std.proofs.lemmas.List.{get_or_default}
use Rattle.sctp_util.specs.Serial.{distance}
use Rattle.sctp_data.specs.declared.chunk.chunk_payload_data.ChunkPayloadData.{ChunkPayloadData}
use Rattle.sctp_serial.proofs.lemmas.AscendingEdits.{IsRising, ascending, rising_one, rising_all, distance_self}
use Rattle.sctp_reassembly.proofs.lemmas.reassembly_queue.ExactFlags.{step_out_of_order}
use Rattle.sctp_reassembly.proofs.reassembly_queue.chunks.is_ascending.Goals as goal
use Rattle.sctp_reassembly.proofs.reassembly_queue.chunks.is_ascending.Goals.{then-next-far-via-then-next-far, then-next-far-via-else-next-far+then-next}

pub loop-place-init : goal.loop-place-init
loop-place-init c =
    let num = (λ (x : ChunkPayloadData). x.tsn) in
    let xs = c.args.chunks.now in
    let x = c.index-chunks-0.result in
    let some : 0 < length xs = omega (arith, c.if-len-eq0.false) in
    let first = c.tsn_of-first.result in
    record {
      rising = rising_one num xs first c.tsn_of-first.ensures.fits x c.index-chunks-0.is (sym c.tsn_of-first.ensures.value) some;
      last = λ d. ap (distance first) (ap num (get_or_default xs 0 d x some ∙ sym c.index-chunks-0.is) ∙ sym c.tsn_of-first.ensures.value)
          ∙ distance_self first c.tsn_of-first.ensures.fits;
      half = omega arith;
      small = c.tsn_of-first.ensures.fits;
      turns = omega arith;
    }

pub returns-clause-order : goal.returns-clause-order
returns-clause-order c =
    let num = (λ (x : ChunkPayloadData). x.tsn) in
    let xs = c.args.chunks.now in
    let first = c.tsn_of-first.result in
    let i = c.loop-place.invariant in
    let all : c.loop-place.place ≡ length xs = omega (arith, c.if-len-eq0.false, c.loop-place-test.false, c.loop-place.auto) in
    ascending num xs (rising_all num xs first i.small c.loop-place.far i.half (subst (λ n. IsRising num xs first c.loop-place.far n) all i.rising))

pub returns-then-next-far-clause-exact : goal.returns-then-next-far-clause-exact
returns-then-next-far-clause-exact c =
    let num = (λ (x : ChunkPayloadData). x.tsn) in
    let xs = c.args.chunks.now in
    let x = c.index-chunks-0.result in
    let y = c.index-chunks-place.result in
    let some : 0 < length xs = omega (arith, c.if-len-eq0.false) in
    let first = c.tsn_of-first.result in
    let at : c.distance-next.result ≡ distance first y.tsn = c.distance-next.ensures.value
    ∙ ap (λ (z : ChunkPayloadData). distance first z.tsn) c.deref.ensures in
    step_out_of_order num xs first (λ d. ap num (get_or_default xs 0 d x some ∙ sym c.index-chunks-0.is) ∙ sym c.tsn_of-first.ensures.value) c.loop-place.place
    c.loop-place.far y (omega (arith, c.loop-place.auto)) (omega arith) c.index-chunks-place.is c.loop-place.invariant.last
    (λ up. elim c.then-next-far.branch [
      | then-next-far-via-then-next-far w ↦ absurd (omega (arith, at, up, w.if-next-far.true))
      | then-next-far-via-else-next-far+then-next w ↦ omega (arith, at, w.if-next.true)
    ])
