use Rattle.std.proofs.Common.{◌≡◌, ◌<◌, ◌+◌, ◌-◌, ◌^◌, ◌%◌, ◌++◌, true, ap, ◌∙◌, arith}
use Rattle.sctp_outbound.specs.payload_queue.PayloadQueue.{Payload, push_chunk}
use Rattle.sctp_receiver.specs.TsnFilter.{placeholder, rise_beyond}
use Rattle.sctp_receiver.specs.TsnRuns.{tsns_from}
use Rattle.sctp_serial.specs.DataChunks.{following_tsn, tsns}
use Rattle.sctp_link.proofs.tsns.QueueCalls.{few-bytes, within-room}
use Rattle.sctp_link.proofs.tsns.TakenBack.{back-window, back-new, back-placeholders, back-same}
use Rattle.sctp_link.proofs.link_receiver.tsn_queue.undo.put_back.Goals.{After-placeholder}
use Rattle.sctp_link.proofs.link_receiver.tsn_queue.undo.put_back.Goals as goal

more : (c : After-placeholder) → 1 < c.loop-left.left
more c = omega (arith, c.loop-left-test.true)

rise : (c : After-placeholder) → rise_beyond c.args.cumulative_tsn 1 (tsns_from (following_tsn (following_tsn c.args.cumulative_tsn))
    (c.loop-left.left - 1) ++ tsns c.loop-left.queue.chunks) ≡ true
rise c = ap (rise_beyond c.args.cumulative_tsn 1) c.loop-left.invariant.same ∙ c.requires.rise

pub push-requires-clause-window : goal.push-requires-clause-window
push-requires-clause-window c = rw (c.placeholder.ensures) (λ new. back-window c.args.cumulative_tsn c.loop-left.left c.loop-left.queue
    c.ranges.cumulative_tsn.fits (more c) c.loop-left.invariant.placeholders (rise c))

pub push-requires-clause-bytes : goal.push-requires-clause-bytes
push-requires-clause-bytes c = rw (c.placeholder.ensures) (λ new. few-bytes c.loop-left.queue.chunks c.loop-left.invariant.placeholders)

pub loop-left-preserved : goal.loop-left-preserved
loop-left-preserved c =
    let n = c.args.cumulative_tsn in
    let left = c.loop-left.left in
    let q = c.loop-left.queue in
    let now = c.push.new.self in
    let i = c.loop-left.invariant in
    let more : 1 < left = omega (arith, c.loop-left-test.true) in
    let rise : rise_beyond n 1 (tsns_from (following_tsn (following_tsn n)) (left - 1) ++ tsns q.chunks) ≡ true = ap (rise_beyond n 1) i.same
    ∙ c.requires.rise in
    let e = c.push.ensures in
    let f = rw (c.placeholder.ensures) at e in
    let new = back-new n left q c.ranges.cumulative_tsn.fits more i.placeholders rise in
    let place : 0 < q.room = omega (arith, i.room, i.down, more, c.requires.room) in
    let is : now ≡ push_chunk q (placeholder ((n + left) % 2 ^ 32)) =
    within-room c.push.result q now (placeholder ((n + left) % 2 ^ 32)) _ (f.succeeds place new) f.answer f.ok new in
    let room : now.room ≡ q.room - 1 = ap (λ (p : Payload). p.room) is in
    let others : now ≡ record q { chunks = now.chunks; room = now.room } = ap (λ (p : Payload). let r : Payload = record
    p { chunks = now.chunks; room = now.room } in r) is in
    record {
      placeholders = back-placeholders n left q c.ranges.cumulative_tsn.fits more i.placeholders rise now is;
      same = back-same n left q c.ranges.cumulative_tsn.fits more i.placeholders rise now is ∙ i.same;
      rest = others ∙ ap (λ (p : Payload). let r : Payload = record p { chunks = now.chunks; room = now.room } in r) i.rest;
      room = omega (arith, i.room, room, place, more);
      down = omega (arith, i.down);
      above = omega (arith, more);
    }
