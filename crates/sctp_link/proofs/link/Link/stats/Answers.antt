use Rattle.sctp_link.proofs.Names.{None, Some, refl, ap, sym, ◌∙◌, option_map, option_copied, OutboundStream, InboundStream, sides_in, stream_in, OpenStream}
use Rattle.sctp_link.proofs.Names.{both_ways, stats_in, Reception}
use Rattle.sctp_receiver.specs.Receiver.{stream_of}
use Rattle.sctp_link.proofs.sides.Changes.{state-answered, inbound-answered, answered-none, both-answered}
use Rattle.sctp_link.proofs.upkeep.Accessors.{stats-is}
use Rattle.sctp_link.proofs.link.Link.stats.Goals as goal

pub returns-in_err-state : goal.returns-in_err-state
returns-in_err-state g c =
    let o = stream_in c.args.stream (sides_in c.self.inside) in
    rw (← c.self.view_is) (c.from_residual.ensures ∙ answered-none (λ (l : OpenStream). l.state.stats) stats_in o None
    (state-answered c.self.invariant.0 (λ (l : OutboundStream). l.stats) c.args.stream None
    (ap (λ x. option_map (λ (l : OutboundStream). l.stats) (option_copied x)) (sym c.in_err-state.was)
    ∙ ap (option_map (λ (l : OutboundStream). l.stats)) c.stream.ensures)) refl ∙ stats-is c.self.invariant.1 c.args.stream refl)

pub returns-in_err-read : goal.returns-in_err-read
returns-in_err-read g c =
    let o = stream_in c.args.stream (sides_in c.self.inside) in
    rw (← c.self.view_is) (c.from_residual-in_err-read.ensures ∙ answered-none (λ (l : OpenStream). l.inbound.stats) stats_in o c.stats.result
    (inbound-answered c.self.invariant.0 (λ (l : InboundStream). l.stats) c.args.stream c.stats.result (c.stats.ensures
    ∙ ap (λ (r : Reception). option_map (λ (l : InboundStream). l.stats) (stream_of c.args.stream r)) c.receiver.ensures)) c.in_err-read.was
    ∙ stats-is c.self.invariant.1 c.args.stream refl)

pub returns : goal.returns
returns g c =
    let o = stream_in c.args.stream (sides_in c.self.inside) in
    let sent = c.in_ok-state.state.now.stats in
    rw (← c.self.view_is) (ap (λ s. Some (both_ways s c.in_ok-read.read)) c.stats-sent.ensures ∙ both-answered o (Some sent) c.stats.result sent
    c.in_ok-read.read (state-answered c.self.invariant.0 (λ (l : OutboundStream). l.stats) c.args.stream (Some sent)
    (ap (λ x. option_map (λ (l : OutboundStream). l.stats) (option_copied x)) (sym c.in_ok-state.was)
    ∙ ap (option_map (λ (l : OutboundStream). l.stats)) c.stream.ensures))
    (inbound-answered c.self.invariant.0 (λ (l : InboundStream). l.stats) c.args.stream c.stats.result (c.stats.ensures
    ∙ ap (λ (r : Reception). option_map (λ (l : InboundStream). l.stats) (stream_of c.args.stream r)) c.receiver.ensures)) refl c.in_ok-read.was
    ∙ stats-is c.self.invariant.1 c.args.stream refl)
