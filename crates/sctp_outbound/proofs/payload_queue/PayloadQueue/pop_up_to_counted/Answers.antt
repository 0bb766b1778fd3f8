use Rattle.std.proofs.Common.{◌<◌, ◌∙◌, length, ap, arith}
use Rattle.std.proofs.lemmas.List.Edits.{length-remove}
use Rattle.std.proofs.lemmas.List.Sums.{sum_by-remove}
use Rattle.sctp_serial.proofs.lemmas.Serials.{serial_remove}
use Rattle.sctp_outbound.proofs.lemmas.payload_queue.Marked.{any_chunk}
use Rattle.sctp_outbound.proofs.lemmas.payload_queue.Passed.{without_passed}
use Rattle.sctp_outbound.proofs.payload_queue.PayloadQueue.pop_up_to_counted.Goals as goal

pub loop-self-preserved-in-loop-self : goal.loop-self-preserved-in-loop-self
loop-self-preserved-in-loop-self c =
    let xs = c.loop-self.self-inside.held.chunks in
    let inv = c.loop-self.invariant in
    let front = c.is_front_up_to.ensures.yes c.loop-self-test.true in
    let within : 0 < length xs = front.0 in
    let n = length-remove xs 0 within in
    let bytes = sum_by-remove (λ x. length x.user_data) xs 0 c.remove-removed.result within in
    let read = ap (λ x. length x.user_data) c.remove-removed.ensures.value in
    rw c.remove-removed.ensures.removed record {
      serial = serial_remove xs 0 within inv.serial;
      counted = omega (arith, inv.counted);
      kept = without_passed c.args.cumulative_tsn xs 0 any_chunk within (front.1 any_chunk) ∙ inv.kept;
      room = inv.room;
      same = inv.same;
      not_back = omega arith;
      cost = omega arith;
    }

pub loop-self-preserved : goal.loop-self-preserved
loop-self-preserved c =
    let xs = c.loop-self.self-inside.held.chunks in
    let inv = c.loop-self.invariant in
    let front = c.is_front_up_to.ensures.yes c.loop-self-test.true in
    let within : 0 < length xs = front.0 in
    let n = length-remove xs 0 within in
    let bytes = sum_by-remove (λ x. length x.user_data) xs 0 c.remove-removed.result within in
    let read = ap (λ x. length x.user_data) c.remove-removed.ensures.value in
    rw c.remove-removed.ensures.removed record {
      serial = serial_remove xs 0 within inv.serial;
      counted = omega (arith, inv.counted);
      kept = without_passed c.args.cumulative_tsn xs 0 any_chunk within (front.1 any_chunk) ∙ inv.kept;
      room = inv.room;
      same = inv.same;
      not_back = omega arith;
      cost = omega arith;
    }
