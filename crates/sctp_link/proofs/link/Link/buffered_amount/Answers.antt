use Rattle.sctp_link.proofs.Names.{None, Some, refl, ap, sym, ◌∙◌, option_map, option_copied, OutboundStream}
use Rattle.sctp_link.proofs.sides.Changes.{state-answered}
use Rattle.sctp_link.proofs.upkeep.Accessors.{amount-is}
use Rattle.sctp_link.proofs.link.Link.buffered_amount.Goals as goal

pub returns-in_err-state : goal.returns-in_err-state
returns-in_err-state g c =
    rw (← c.self.view_is) (c.from_residual.ensures ∙ state-answered c.self.invariant.0 (λ (l : OutboundStream). l.buffered_amount) c.args.stream None
    (ap (λ o. option_map (λ (l : OutboundStream). l.buffered_amount) (option_copied o)) (sym c.in_err-state.was)
    ∙ ap (option_map (λ (l : OutboundStream). l.buffered_amount)) c.stream.ensures) ∙ amount-is c.self.invariant.1 c.args.stream refl)

pub returns : goal.returns
returns g c =
    rw (← c.self.view_is) (ap (λ n. Some n) c.buffered_amount.ensures ∙ state-answered c.self.invariant.0 (λ (l : OutboundStream). l.buffered_amount)
    c.args.stream (Some c.in_ok-state.state.now.buffered_amount)
    (ap (λ o. option_map (λ (l : OutboundStream). l.buffered_amount) (option_copied o)) (sym c.in_ok-state.was)
    ∙ ap (option_map (λ (l : OutboundStream). l.buffered_amount)) c.stream.ensures) ∙ amount-is c.self.invariant.1 c.args.stream refl)
