use Rattle.std.proofs.Common.{◌≡◌, IsTrue, get_or, sym, ◌∙◌, subst, arith}
use Rattle.std.proofs.lemmas.Bool.{false≢true}
use Rattle.sctp_util.specs.Serial.{comes_before}
use Rattle.sctp_reassembly.proofs.lemmas.reassembly_queue.SerialPlaces.{number_at, upto_more}
use Rattle.sctp_reassembly.proofs.reassembly_queue.unassembled.are_serial.Goals as goal

pub returns-then-not-is_before-2-clause-flag : goal.returns-then-not-is_before-2-clause-flag
returns-then-not-is_before-2-clause-flag c s =
    let xs = c.args.chunks.now.items in
    let i = c.loop-place.place in
    let d = c.index.result.now in
    let front = number_at xs 0 d c.chunk.result.now (omega arith) c.index.ensures c.chunk.ensures in
    let here = number_at xs i c.index-in-loop-place.result.now c.chunk-in-loop-place.result.now
    (omega arith) c.index-in-loop-place.ensures c.chunk-in-loop-place.ensures in
    let up = s.ascending 0 i d (omega (arith, c.loop-place.auto.place)) (omega arith) in
    false≢true (sym (sym c.is_before-in-loop-place.ensures.value ∙ c.if-not-is_before-2.true) ∙ subst
    (λ t. IsTrue (comes_before t c.chunk-in-loop-place.result.now.tsn)) (front d) (subst (λ t. IsTrue (comes_before (get_or xs 0 d).tsn t)) (here d) up))

pub loop-place-preserved : goal.loop-place-preserved
loop-place-preserved c =
    let xs = c.args.chunks.now.items in
    let i = c.loop-place.place in
    let front = number_at xs 0 c.index.result.now c.chunk.result.now (omega arith) c.index.ensures c.chunk.ensures in
    let here = number_at xs i c.index-in-loop-place.result.now c.chunk-in-loop-place.result.now
    (omega arith) c.index-in-loop-place.ensures c.chunk-in-loop-place.ensures in
    record {
      last = λ d. subst (λ k. (get_or xs k d).tsn ≡ c.chunk-in-loop-place.result.now.tsn) {x = i} (omega arith) (here d);
      upto = upto_more xs i c.chunk.result.now.tsn c.loop-place.last c.chunk-in-loop-place.result.now.tsn
          (omega (arith, c.loop-place.auto.place)) c.is_before.ensures.second_fits front c.loop-place.invariant.last here c.loop-place.invariant.upto
          (sym c.is_before.ensures.value ∙ c.if-not-is_before.false) (sym c.is_before-in-loop-place.ensures.value ∙ c.if-not-is_before-2.false);
      turns = omega (arith, c.loop-place.invariant.turns, c.tick-in-loop-place.ensures, c.loop-place.auto.place);
    }
