use Rattle.std.proofs.Common.{◌+◌, drop, ap, ◌∙◌, arith}
use Rattle.std.specs.List.{filter}
use Rattle.sctp_reassembly.specs.reassembly_queue.Skips.{cannot_complete, ssn_past_sets}
use Rattle.sctp_reassembly.proofs.lemmas.reassembly_queue.SkipCosts.{left_with, past_from}
use Rattle.sctp_reassembly.proofs.reassembly_queue.incomplete.ssn_past_sets.Goals as goal

pub loop-place-preserved : goal.loop-place-preserved
loop-place-preserved c =
    let xs = c.args.sets.now.items in
    let i = c.loop-place.invariant in
    let x = c.index.result.now in
    let left = left_with xs c.loop-place.place x (omega arith) c.index.ensures in
    record {
      same = ap (λ n. ssn_past_sets n (filter (cannot_complete c.args.tsn) (drop (c.loop-place.place + 1) xs))) c.past_set-next.ensures.value
          ∙ past_from c.args.tsn c.loop-place.next xs c.loop-place.place x (omega arith) c.index.ensures ∙ i.same;
      not_back = omega (arith, i.not_back, c.past_set-next.ensures.not_back);
      walk = omega (arith, i.walk, left.0, left.1, c.past_set-next.ensures.walk);
    }
