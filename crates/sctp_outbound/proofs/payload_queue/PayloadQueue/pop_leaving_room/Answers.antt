use Rattle.std.proofs.Common.{rules, ◌<◌, length, ap, arith}
use Rattle.std.proofs.lemmas.List.Sums.{sum_by-remove}
use Rattle.sctp_serial.proofs.lemmas.Serials.{serial_remove}
use Rattle.sctp_outbound.proofs.payload_queue.PayloadQueue.pop_leaving_room.Goals as goal

pub invariant_of-self : goal.invariant_of-self
invariant_of-self c =
    let xs = c.self.inside.held.chunks in
    let within : 0 < length xs = search rules in
    let bytes = sum_by-remove (λ x. length x.user_data) xs 0 c.remove_leaving_room-chunk.result within in
    let read = ap (λ x. length x.user_data) c.remove_leaving_room-chunk.ensures.value in
    rw c.remove_leaving_room-chunk.ensures.removed record {
      serial = serial_remove xs 0 within c.self.invariant.serial;
      counted = omega (arith, c.self.invariant.counted);
    }
