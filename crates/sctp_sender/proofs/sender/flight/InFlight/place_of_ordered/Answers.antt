use Rattle.sctp_sender.proofs.Names.{true, false, sym, ◌∙◌, is_ordered_on}
use Rattle.sctp_sender.proofs.Walks.{find-step}
use Rattle.sctp_sender.proofs.sender.flight.InFlight.place_of_ordered.Goals as goal

pub returns-then-is_ordered_on-clause-some : goal.returns-then-is_ordered_on-clause-some
returns-then-is_ordered_on-clause-some c =
    let cs = c.args.self.now.queue.inflight.chunks in
    let x = c.in-Some.chunk.now in
    sym c.in-Some.ensures ∙ sym (c.loop-place.invariant
    ∙ find-step (is_ordered_on c.args.stream) cs c.loop-place.place x true (sym c.in-Some.ensures) (sym c.is_ordered_on.ensures ∙ c.if-is_ordered_on.true))

pub loop-place-preserved : goal.loop-place-preserved
loop-place-preserved c =
    let cs = c.args.self.now.queue.inflight.chunks in
    let x = c.in-Some.chunk.now in
    c.loop-place.invariant
    ∙ find-step (is_ordered_on c.args.stream) cs c.loop-place.place x false (sym c.in-Some.ensures) (sym c.is_ordered_on.ensures ∙ c.if-is_ordered_on.false)
