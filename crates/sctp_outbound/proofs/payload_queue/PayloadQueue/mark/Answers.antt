use Rattle.std.proofs.Common.{length, is_some, sym, ap, slice_index_or, arith}
use Rattle.std.proofs.lemmas.List.Sums.{sum_by-set}
use Rattle.sctp_serial.specs.DataChunks.{has_tsn}
use Rattle.sctp_outbound.specs.Marks.{with_mark}
use Rattle.sctp_serial.proofs.lemmas.Serials.{serial_set_of, only_here}
use Rattle.sctp_outbound.proofs.lemmas.payload_queue.Payloads.{same_but_chunks}
use Rattle.sctp_util.proofs.Edits.{change_where-only, change_where-none}
use Rattle.sctp_serial.proofs.lemmas.Serials.{fails_from_absent, find_held, not_found}
use Rattle.sctp_outbound.proofs.lemmas.payload_queue.Marked.{marked-tsn}
use Rattle.sctp_outbound.proofs.payload_queue.PayloadQueue.mark.Goals as goal

pub invariant_of-self : goal.invariant_of-self
invariant_of-self c =
    let xs = c.self.inside.held.chunks in
    let chunk = c.in-Ok.field-0-1.now in
    let at = c.in-Ok.ensures.found in
    let bytes = sum_by-set (λ x. length x.user_data) xs c.in-Ok.place (with_mark c.args.mark (slice_index_or xs c.in-Ok.place chunk)) chunk at.in_range in
    rw (c.mark-left.ensures.changed chunk) record {
      serial = serial_set_of (with_mark c.args.mark) (marked-tsn c.args.mark) xs c.in-Ok.place chunk at.in_range c.self.invariant.serial;
      counted = omega (arith, c.self.invariant.counted, c.mark-left.ensures.left chunk);
    }

pub returns-in-Ok-clause-changed : goal.returns-in-Ok-clause-changed
returns-in-Ok-clause-changed c =
    let xs = c.self.inside.held.chunks in
    let chunk = c.in-Ok.field-0-1.now in
    rw (← c.self.view_is, c.mark-left.ensures.changed chunk) (same_but_chunks (sym (change_where-only (has_tsn c.args.tsn)
    (with_mark c.args.mark) xs c.in-Ok.place chunk (only_here xs c.args.tsn c.in-Ok.place chunk c.self.invariant.serial c.in-Ok.ensures.found))))

pub returns-in-Ok-clause-held : goal.returns-in-Ok-clause-held
returns-in-Ok-clause-held c = rw (← c.self.view_is) (sym (ap is_some (find_held _ c.args.tsn c.self.invariant.serial _ _ c.in-Ok.ensures.found)))

pub returns-clause-changed : goal.returns-clause-changed
returns-clause-changed c = rw (← c.self.view_is)
    (same_but_chunks (sym (change_where-none (has_tsn c.args.tsn) (with_mark c.args.mark) _ (fails_from_absent _ c.args.tsn c.in-Err.ensures.absent))))

pub returns-clause-held : goal.returns-clause-held
returns-clause-held c = rw (← c.self.view_is) (sym (ap is_some (not_found _ c.args.tsn c.in-Err.ensures.absent)))
