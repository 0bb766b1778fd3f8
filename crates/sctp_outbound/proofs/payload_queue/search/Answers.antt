use Rattle.std.proofs.Common.{◌-◌, sym, ap, ◌∙◌, arith}
use Rattle.std.specs.Option.{option_map}
use Rattle.sctp_data.specs.declared.chunk.chunk_payload_data.ChunkPayloadData.{ChunkPayloadData}
use Rattle.sctp_outbound.proofs.lemmas.payload_queue.Search.{before_latest, narrowed_right, narrowed_left, seen_tsn}
use Rattle.sctp_serial.proofs.lemmas.Halves.{halved, digits_left, one_more}
use Rattle.sctp_outbound.proofs.payload_queue.search.Goals as goal

pub returns-then-here-tsn-clause-cost : goal.returns-then-here-tsn-clause-cost
returns-then-here-tsn-clause-cost c =
    let more = one_more c.args.turns.now c.loop-low.turns c.see-seen.new.turns c.loop-low.invariant.not_back c.see-seen.ensures.turn in
    rw more (omega (arith, digits_left _ _ _ c.loop-low.invariant.cost_left (omega arith)))

pub loop-low-preserved-then-sna32lt : goal.loop-low-preserved-then-sna32lt
loop-low-preserved-then-sna32lt c =
    let more = one_more c.args.turns.now c.loop-low.turns c.see-seen.new.turns c.loop-low.invariant.not_back c.see-seen.ensures.turn in
    let middle = c.min-middle.result in
    let read = seen_tsn c.args.held.now.chunks middle c.tsn-here.result
    (ap (option_map (λ (x : ChunkPayloadData). x.tsn)) (sym c.see-seen.ensures.value) ∙ c.tsn-here.ensures) (omega arith) in
    let earlier = before_latest c.args.held.now.chunks c.args.tsn c.latest_place-latest.result middle c.tsn-here.result c.latest_place-latest.ensures.latest
    read (sym c.sna32lt.ensures ∙ c.if-sna32lt.true) (omega arith) (omega arith) in
    record {
      latest = omega arith;
      narrowed = narrowed_right _ c.requires c.args.tsn _ _ _ c.ranges.tsn.fits c.loop-low.invariant.narrowed c.tsn-here.result (omega arith)
          (omega arith) read c.if-here-tsn.false (sym c.sna32lt.ensures ∙ c.if-sna32lt.true);
      not_back = omega arith;
      cost_left = rw more (halved _ (c.loop-low.high - c.loop-low.low) _ _ c.loop-low.invariant.cost_left (omega arith));
      cost = rw more (digits_left _ _ _ c.loop-low.invariant.cost_left (omega arith));
    }

pub loop-low-preserved : goal.loop-low-preserved
loop-low-preserved c =
    let more = one_more c.args.turns.now c.loop-low.turns c.see-seen.new.turns c.loop-low.invariant.not_back c.see-seen.ensures.turn in
    let middle = c.min-middle.result in
    let read = seen_tsn c.args.held.now.chunks middle c.tsn-here.result
    (ap (option_map (λ (x : ChunkPayloadData). x.tsn)) (sym c.see-seen.ensures.value) ∙ c.tsn-here.ensures) (omega arith) in
    record {
      latest = c.loop-low.invariant.latest;
      narrowed = narrowed_left _ c.requires c.args.tsn _ _ _ c.ranges.tsn.fits c.loop-low.invariant.narrowed c.tsn-here.result (omega arith)
          (omega arith) read c.if-here-tsn.false (sym c.sna32lt.ensures ∙ c.if-sna32lt.false);
      not_back = omega arith;
      cost_left = rw more (halved _ (c.loop-low.high - c.loop-low.low) _ _ c.loop-low.invariant.cost_left (omega arith));
      cost = rw more (digits_left _ _ _ c.loop-low.invariant.cost_left (omega arith));
    }
