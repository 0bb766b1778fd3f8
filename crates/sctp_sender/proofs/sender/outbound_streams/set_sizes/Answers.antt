use Rattle.sctp_sender.proofs.Names.{◌<◌, ◌∙◌, ap, length, length-set, rules, set, map_over_more, with_size}
use Rattle.sctp_sender.proofs.sender.outbound_streams.set_sizes.Goals as goal

pub loop-place-preserved : goal.loop-place-preserved
loop-place-preserved c =
    let x = c.index_mut.result.now in
    let ls = c.loop-place.streams.items in
    let i = c.loop-place.place in
    let lt : i < length c.args.streams.now.items = search rules in
    record {
      so_far = ap (λ y. set ls i y) c.set_max_payload_size.ensures
          ∙ map_over_more (with_size c.args.size) c.args.streams.now.items ls i x lt c.loop-place.invariant.so_far c.index_mut.ensures.value;
      count = ap (λ y. length (set ls i y)) c.set_max_payload_size.ensures ∙ length-set ls i (with_size c.args.size x) ∙ c.loop-place.invariant.count;
    }
