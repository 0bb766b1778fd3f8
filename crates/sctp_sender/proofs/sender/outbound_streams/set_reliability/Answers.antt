use Rattle.sctp_sender.proofs.Names.{◌<◌, ◌∙◌, length, length-set, rules, map_over_more, with_reliability}
use Rattle.sctp_sender.proofs.sender.outbound_streams.set_reliability.Goals as goal

pub loop-place-preserved : goal.loop-place-preserved
loop-place-preserved c =
    let x = c.index_mut.result.now in
    let lt : c.loop-place.place < length c.args.chunks.now.items = search rules in
    record {
      so_far = map_over_more (with_reliability c.args.reliability c.args.value) c.args.chunks.now.items c.loop-place.chunks.items c.loop-place.place x lt
          c.loop-place.invariant.so_far c.index_mut.ensures.value;
      count = length-set c.loop-place.chunks.items c.loop-place.place (with_reliability c.args.reliability c.args.value x) ∙ c.loop-place.invariant.count;
    }
