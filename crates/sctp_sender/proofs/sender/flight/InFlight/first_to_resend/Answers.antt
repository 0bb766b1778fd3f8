use Rattle.sctp_sender.proofs.Names.{true, false, sym, ◌∙◌, is_to_resend}
use Rattle.sctp_sender.proofs.Unmarked.{find-behind}
use Rattle.sctp_sender.proofs.Walks.{find-step}
use Rattle.sctp_sender.proofs.sender.flight.InFlight.first_to_resend.Goals as goal

pub returns-then-is_to_resend-clause-some : goal.returns-then-is_to_resend-clause-some
returns-then-is_to_resend-clause-some c =
    let cs = c.args.self.now.queue.inflight.chunks in
    let x = c.in-Some.chunk.now in
    sym c.in-Some.ensures ∙ sym (c.loop-place.invariant
    ∙ find-step is_to_resend cs c.loop-place.place x true (sym c.in-Some.ensures) (sym c.is_to_resend.ensures ∙ c.if-is_to_resend.true))

pub loop-place-preserved : goal.loop-place-preserved
loop-place-preserved c =
    let cs = c.args.self.now.queue.inflight.chunks in
    let x = c.in-Some.chunk.now in
    c.loop-place.invariant ∙ find-step is_to_resend cs c.loop-place.place x false (sym c.in-Some.ensures) (sym c.is_to_resend.ensures ∙ c.if-is_to_resend.false)

pub loop-place-init : goal.loop-place-init
loop-place-init c = rw (← c.self.view_is) (find-behind c.self.inside.unmarked c.self.inside.queue.inflight.chunks c.self.invariant.unmarked.each)
