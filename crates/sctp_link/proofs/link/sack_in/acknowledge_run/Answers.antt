use Rattle.sctp_link.proofs.Names.{◌+◌, ◌<◌, ◌∙◌, arith, length, length-set, and_run, fragment_slot}
use Rattle.sctp_link.proofs.acknowledgement.AckLoops.{marking-same, marking-one, run-more, run-all}
use Rattle.sctp_link.proofs.link.sack_in.acknowledge_run.Goals as goal

pub loop-place-preserved : goal.loop-place-preserved
loop-place-preserved c =
    let test = c.loop-place-test.true in
    let low = c.loop-place.auto.place in
    let all = c.requires (omega (arith, test, low)) in
    let lt : c.loop-place.place < length c.loop-place.slots = omega (arith, all, test, c.loop-place.invariant.count) in
    record {
      acked =
          λ w acked i. marking-same (and_run acked c.args.from (c.loop-place.place + 1)) (run-more acked c.args.from c.loop-place.place c.loop-place.auto.place)
          (marking-one c.loop-place.place (fragment_slot 0 0) lt (c.loop-place.invariant.acked w acked i));
      count = length-set c.loop-place.slots c.loop-place.place _ ∙ c.loop-place.invariant.count;
      reach = omega (arith, c.loop-place-test.true);
    }

pub returns : goal.returns
returns c = λ w acked i. marking-same (and_run acked c.args.from c.args.to)
    (run-all acked c.args.from c.loop-place.place c.args.to c.loop-place-test.false c.loop-place.invariant.reach) (c.loop-place.invariant.acked w acked i)
