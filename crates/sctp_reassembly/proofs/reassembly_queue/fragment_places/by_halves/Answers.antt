use Rattle.std.proofs.Common.{◌≡◌, ◌-◌, ap, ◌∙◌, arith}
use Rattle.sctp_data.specs.declared.chunk.chunk_payload_data.ChunkPayloadData.{ChunkPayloadData}
use Rattle.sctp_util.specs.Serial.{distance}
use Rattle.sctp_serial.proofs.lemmas.Halves.{halved, digits_left, one_more}
use Rattle.sctp_reassembly.proofs.lemmas.reassembly_queue.Digits.{cut_on, cut_back}
use Rattle.sctp_reassembly.proofs.reassembly_queue.fragment_places.by_halves.Goals as goal

pub loop-low-preserved-then-here-far : goal.loop-low-preserved-then-here-far
loop-low-preserved-then-here-far c =
    let num = (λ (x : ChunkPayloadData). distance c.args.first x.tsn) in
    let x = c.index-chunks-middle.result in
    let at : c.distance-here.result ≡ num x = c.distance-here.ensures.value ∙ ap num c.deref.ensures in
    let more = one_more c.args.turns.now c.loop-low.turns c.tick.new.self c.loop-low.invariant.not_back c.tick.ensures in
    record {
      cut = cut_on num c.args.far _ c.requires _ _ _ c.loop-low.invariant.cut x (omega arith)
          (omega arith) c.index-chunks-middle.is (omega (arith, at, c.if-here-far.true));
      not_back = omega arith;
      cost_left = rw more (halved _ (c.loop-low.high - c.loop-low.low) _ _ c.loop-low.invariant.cost_left (omega arith));
      cost = rw more (digits_left _ _ _ c.loop-low.invariant.cost_left (omega arith));
    }

pub loop-low-preserved : goal.loop-low-preserved
loop-low-preserved c =
    let num = (λ (x : ChunkPayloadData). distance c.args.first x.tsn) in
    let x = c.index-chunks-middle.result in
    let at : c.distance-here.result ≡ num x = c.distance-here.ensures.value ∙ ap num c.deref.ensures in
    let more = one_more c.args.turns.now c.loop-low.turns c.tick.new.self c.loop-low.invariant.not_back c.tick.ensures in
    record {
      cut = cut_back num c.args.far _ c.requires _ _ _ c.loop-low.invariant.cut x (omega arith)
          (omega arith) c.index-chunks-middle.is (omega (arith, at, c.if-here-far.false));
      not_back = omega arith;
      cost_left = rw more (halved _ (c.loop-low.high - c.loop-low.low) _ _ c.loop-low.invariant.cost_left (omega arith));
      cost = rw more (digits_left _ _ _ c.loop-low.invariant.cost_left (omega arith));
    }
