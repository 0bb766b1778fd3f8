use Rattle.std.proofs.Common.{◌<◌, true, length, length-set, get_or, set, refl, sym, ap, ◌∙◌, arith}
use Rattle.std.proofs.lemmas.List.Sums.{sum_by-set}
use Rattle.sctp_outbound.specs.Marks.{is_outstanding, with_retransmit}
use Rattle.sctp_serial.proofs.lemmas.Serials.{serial_set_of}
use Rattle.sctp_util.proofs.Edits.{changed_step, unchanged_step}
use Rattle.sctp_outbound.proofs.payload_queue.PayloadQueue.mark_all_to_retransmit.Goals as goal

pub loop-place-preserved : goal.loop-place-preserved
loop-place-preserved c =
    let xs = c.self.inside.held.chunks in
    let ys = c.loop-place.self-inside.held.chunks in
    let i = c.loop-place.place in
    let x = c.look.result.now in
    let within : i < length xs = omega arith in
    let short : i < length ys = omega (arith, c.loop-place.invariant.same_length) in
    let bytes = sum_by-set (λ (x : _). length x.user_data) ys i (with_retransmit true (get_or ys i x)) x short in
    let read = sym c.look.ensures.value in
    rw (c.mark.ensures.changed x) record {
      changed = ap (λ u. set ys i (with_retransmit true u)) read ∙ changed_step is_outstanding (with_retransmit true) xs ys i x within
          c.loop-place.invariant.changed c.look.ensures.value (sym c.is_outstanding.ensures ∙ c.if-not-is_outstanding.false);
      same_length = length-set ys i _ ∙ c.loop-place.invariant.same_length;
      serial = serial_set_of (with_retransmit true) (λ _. refl) ys i x short c.loop-place.invariant.serial;
      counted = omega (arith, c.loop-place.invariant.counted);
      room = c.loop-place.invariant.room;
      same = c.loop-place.invariant.same;
    }

pub loop-place-preserved-then-not-is_outstanding : goal.loop-place-preserved-then-not-is_outstanding
loop-place-preserved-then-not-is_outstanding c =
    let xs = c.self.inside.held.chunks in
    let ys = c.loop-place.self-inside.held.chunks in
    let within : c.loop-place.place < length xs = omega arith in
    record {
      changed = unchanged_step is_outstanding (with_retransmit true) xs ys c.loop-place.place c.look.result.now within c.loop-place.invariant.changed
          c.look.ensures.value (sym c.is_outstanding.ensures ∙ c.if-not-is_outstanding.true);
      same_length = c.loop-place.invariant.same_length;
      serial = c.loop-place.invariant.serial;
      counted = c.loop-place.invariant.counted;
      room = c.loop-place.invariant.room;
      same = c.loop-place.invariant.same;
    }
