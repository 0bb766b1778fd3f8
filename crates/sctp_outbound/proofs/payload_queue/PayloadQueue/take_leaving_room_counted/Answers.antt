use Rattle.std.proofs.Common.{length, Some, sym, ap, ◌∙◌, arith}
use Rattle.std.proofs.lemmas.List.Sums.{sum_by-remove}
use Rattle.sctp_serial.specs.DataChunks.{has_tsn}
use Rattle.sctp_serial.proofs.lemmas.Serials.{serial_remove, only_here}
use Rattle.sctp_outbound.proofs.lemmas.payload_queue.Payloads.{same_but_chunks}
use Rattle.sctp_util.proofs.Edits.{those-only, those-none}
use Rattle.sctp_serial.proofs.lemmas.Serials.{fails_from_absent, find_held, not_found, read_is}
use Rattle.sctp_outbound.proofs.payload_queue.PayloadQueue.take_leaving_room_counted.Goals as goal

pub invariant_of-self : goal.invariant_of-self
invariant_of-self c =
    let xs = c.self.inside.held.chunks in
    let within = c.in-Ok.ensures.found.in_range in
    let bytes = sum_by-remove (λ x. length x.user_data) xs c.in-Ok.place c.remove_leaving_room-chunk.result within in
    let read = ap (λ x. length x.user_data) c.remove_leaving_room-chunk.ensures.value in
    rw c.remove_leaving_room-chunk.ensures.removed record {
      serial = serial_remove xs c.in-Ok.place within c.self.invariant.serial;
      counted = omega (arith, c.self.invariant.counted);
    }

pub returns-in-Ok-clause-taken : goal.returns-in-Ok-clause-taken
returns-in-Ok-clause-taken c =
    rw (← c.self.view_is) (sym (find_held _ c.args.tsn c.self.invariant.serial _ _ c.in-Ok.ensures.found
    ∙ ap Some (read_is _ _ _ _ c.in-Ok.ensures.found c.remove_leaving_room-chunk.ensures.value)))

pub returns-in-Ok-clause-rest : goal.returns-in-Ok-clause-rest
returns-in-Ok-clause-rest c =
    let xs = c.self.inside.held.chunks in
    rw (← c.self.view_is, c.remove_leaving_room-chunk.ensures.removed) (same_but_chunks
    (sym (those-only (has_tsn c.args.tsn) xs c.in-Ok.place (only_here xs c.args.tsn c.in-Ok.place _ c.self.invariant.serial c.in-Ok.ensures.found))))

pub returns-in-Err-clause-taken : goal.returns-in-Err-clause-taken
returns-in-Err-clause-taken c = rw (← c.self.view_is) (sym (not_found _ c.args.tsn c.in-Err.ensures.absent))

pub returns-in-Err-clause-rest : goal.returns-in-Err-clause-rest
returns-in-Err-clause-rest c =
    rw (← c.self.view_is) (same_but_chunks (sym (those-none (has_tsn c.args.tsn) _ (fails_from_absent _ c.args.tsn c.in-Err.ensures.absent))))
