use Rattle.sctp_sender.proofs.Names.{◌≡◌, List, ℕ, ap, sym, subst, ◌∙◌, is_late, Flight, IsContiguous, leaving_each, tail_first}
use Rattle.sctp_outbound.specs.outbound_queue.OutboundQueue.{late_tsns}
use Rattle.sctp_sender.proofs.Resends.{late-open, none-of-them}
use Rattle.sctp_sender.proofs.sender.flight.InFlight.expire_late.Goals as goal

pub returns-clause-none : goal.returns-clause-none
returns-clause-none c =
    let f : Flight = c.args.self.now in
    let ts = c.deref.result.now in
    let late : ts ≡ late_tsns c.args.now f.queue =
    subst (λ (g : Flight). ts ≡ late_tsns c.args.now g.queue) c.self.view_is (c.deref.ensures.value ∙ c.in_ok-tsns.ensures.ok) in
    λ none. none-of-them f (subst IsContiguous c.self.view_is c.self.invariant.contiguous) (is_late c.args.now f.queue.pending)
    (late-open c.args.now f.queue.pending)
    (ap (λ (us : List ℕ). leaving_each (tail_first us f) f) (sym late) ∙ sym c.in_ok-abandoned.ensures.answer ∙ none)
