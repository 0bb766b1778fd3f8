use Rattle.std.proofs.Common.{◌≡◌, ◌+◌, ◌-◌, ◌<◌, false, length, take, subst, arith}
use Rattle.std.specs.List.{All}
use Rattle.sctp_outbound.specs.pending_queue.PendingQueue.{is_to_start}
use Rattle.sctp_outbound.proofs.lemmas.pending_queue.CompleteMessages.{none_to_start}
use Rattle.sctp_outbound.proofs.pending_queue.line.place_of.Goals as goal

pub returns-then-index-first_message_id-clause-before : goal.returns-then-index-first_message_id-clause-before
returns-then-index-first_message_id-clause-before c =
    let xs = c.args.chunks.now.items in
    let place = c.loop-place.place in
    let within : place - 1 < length xs = omega (arith, c.loop-place.invariant, c.loop-place-test.true) in
    let same : place - 1 + 1 ≡ place = omega (arith, c.loop-place-test.true) in
    subst (λ n. All (λ x. is_to_start c.args.first_message_id x ≡ false) (take n xs)) same
    (none_to_start c.args.first_message_id xs (place - 1) c.index.result.now c.requires within c.index.ensures c.if-index-first_message_id.true)
