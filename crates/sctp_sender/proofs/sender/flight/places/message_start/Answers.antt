use Rattle.sctp_sender.proofs.Names.{◌≡◌, ◌≢◌, ◌-◌, suc, get_or, sym, subst, arith, IsApartAt}
use Rattle.sctp_sender.proofs.CompleteMessages.{cut-at}
use Rattle.sctp_sender.proofs.sender.flight.places.message_start.Goals as goal

pub returns-then-begins_another-clause-apart : goal.returns-then-begins_another-clause-apart
returns-then-begins_another-clause-apart c = λ s.
    let cs = c.args.queue.now.inflight.chunks in
    let at = c.loop-start.start - 1 in
    let next : suc at ≡ c.loop-start.start = omega arith in
    let differ = c.begins_another.ensures c.if-begins_another.true in
    subst (λ k. IsApartAt k cs) next
    (cut-at cs at s (λ d. subst (λ k. (get_or cs at d).message_id ≢ (get_or cs k d).message_id) (sym next) (differ d)) (omega (arith, next)))
