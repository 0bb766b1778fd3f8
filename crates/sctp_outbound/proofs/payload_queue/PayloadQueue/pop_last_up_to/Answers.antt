use Rattle.std.proofs.Common.{◌≡◌, ◌-◌, ◌<◌, ◌∙◌, true, length, get_or, sym, ap, arith}
use Rattle.std.proofs.lemmas.List.Edits.{length-remove}
use Rattle.std.proofs.lemmas.List.Sums.{sum_by-remove}
use Rattle.sctp_serial.proofs.lemmas.Serials.{serial_remove}
use Rattle.sctp_data.specs.declared.chunk.chunk_payload_data.ChunkPayloadData.{ChunkPayloadData}
use Rattle.sctp_util.specs.Serial.{at_or_before}
use Rattle.sctp_outbound.proofs.lemmas.payload_queue.Marked.{any_chunk}
use Rattle.sctp_outbound.proofs.lemmas.payload_queue.Passed.{all_stay, one_stays, same_first, without_passed}
use Rattle.sctp_outbound.proofs.lemmas.payload_queue.Payloads.{same_but_chunks}
use Rattle.sctp_outbound.proofs.payload_queue.PayloadQueue.pop_last_up_to.Goals as goal

pub returns-then-not-sna32lte-clause-kept : goal.returns-then-not-sna32lte-clause-kept
returns-then-not-sna32lte-clause-kept c =
    let xs = c.loop-self.self-inside.held.chunks in
    let inv = c.loop-self.invariant in
    let tsn = c.args.cumulative_tsn in
    let all = all_stay tsn xs c.ranges.cumulative_tsn.fits inv.serial (omega arith) (inv.first (omega arith))
    (λ d. ap (λ k. at_or_before (get_or xs k d).tsn tsn) {x = length xs - 1} (omega arith) ∙ ap (λ t. at_or_before t tsn) (c.tsn_at.ensures.value d) ∙ sym c.sna32lte.ensures.value ∙ c.if-not-sna32lte.true) in
    rw (← c.self.view_is, inv.room, inv.same) (same_but_chunks (sym all ∙ inv.kept))

pub returns-clause-kept : goal.returns-clause-kept
returns-clause-kept c =
    let xs = c.loop-self.self-inside.held.chunks in
    let inv = c.loop-self.invariant in
    let all = one_stays c.args.cumulative_tsn xs (omega arith) inv.first in
    rw (← c.self.view_is, inv.room, inv.same) (same_but_chunks (sym all ∙ inv.kept))

pub loop-self-preserved-else-not-sna32lte : goal.loop-self-preserved-else-not-sna32lte
loop-self-preserved-else-not-sna32lte c =
    let xs = c.loop-self.self-inside.held.chunks in
    let last = c.len-last.result - 1 in
    let within : last < length xs = omega arith in
    let inv = c.loop-self.invariant in
    let n = length-remove xs last within in
    let bytes = sum_by-remove (λ x. length x.user_data) xs last c.remove-removed.result within in
    let read = ap (λ x. length x.user_data) c.remove-removed.ensures.value in
    let passed : at_or_before (get_or xs last any_chunk).tsn c.args.cumulative_tsn ≡ true =
    ap (λ t. at_or_before t c.args.cumulative_tsn) (c.tsn_at.ensures.value any_chunk) ∙ sym c.sna32lte.ensures.value ∙ c.if-not-sna32lte.false in
    rw c.remove-removed.ensures.removed record {
      serial = serial_remove xs last within inv.serial;
      counted = omega (arith, inv.counted);
      first = λ some d. ap (λ (x : ChunkPayloadData). at_or_before x.tsn c.args.cumulative_tsn) (same_first xs last d (omega arith))
          ∙ inv.first (omega arith) d;
      kept = without_passed c.args.cumulative_tsn xs last any_chunk within passed ∙ inv.kept;
      room = inv.room;
      same = inv.same;
      not_back = omega arith;
      cost = omega arith;
      left = omega arith;
    }

pub loop-self-preserved : goal.loop-self-preserved
loop-self-preserved c =
    let xs = c.loop-self.self-inside.held.chunks in
    let last = c.len-last.result - 1 in
    let within : last < length xs = omega arith in
    let inv = c.loop-self.invariant in
    let n = length-remove xs last within in
    let bytes = sum_by-remove (λ x. length x.user_data) xs last c.remove-removed.result within in
    let read = ap (λ x. length x.user_data) c.remove-removed.ensures.value in
    let passed : at_or_before (get_or xs last any_chunk).tsn c.args.cumulative_tsn ≡ true =
    ap (λ t. at_or_before t c.args.cumulative_tsn) (c.tsn_at.ensures.value any_chunk) ∙ sym c.sna32lte.ensures.value ∙ c.if-not-sna32lte.false in
    rw c.remove-removed.ensures.removed record {
      serial = serial_remove xs last within inv.serial;
      counted = omega (arith, inv.counted);
      first = λ some d. ap (λ (x : ChunkPayloadData). at_or_before x.tsn c.args.cumulative_tsn) (same_first xs last d (omega arith))
          ∙ inv.first (omega arith) d;
      kept = without_passed c.args.cumulative_tsn xs last any_chunk within passed ∙ inv.kept;
      room = inv.room;
      same = inv.same;
      not_back = omega arith;
      cost = omega arith;
      left = omega arith;
    }
