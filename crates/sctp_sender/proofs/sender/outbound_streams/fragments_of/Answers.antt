use Rattle.sctp_sender.proofs.Names.{ap, ◌∙◌, map, length, with_reliability, bytes_of}
use Rattle.sctp_sender.proofs.SenderStreams.{bytes-are}
use Rattle.sctp_sender.proofs.sender.outbound_streams.fragments_of.Goals as goal

pub returns-clause-ok : goal.returns-clause-ok
returns-clause-ok c =
    c.set_reliability.ensures
    ∙ ap (λ r. map (with_reliability r c.reliability_value.result) c.in_ok-chunks.chunks.items) c.reliability_type.ensures
    ∙ ap (λ v. map (with_reliability c.args.state.now.reliability_type v) c.in_ok-chunks.chunks.items) c.reliability_value.ensures
    ∙ ap (map (with_reliability c.args.state.now.reliability_type c.args.state.now.reliability_value)) c.in_ok-chunks.ensures.ok

pub returns-clause-length : goal.returns-clause-length
returns-clause-length c =
    ap bytes_of c.set_reliability.ensures ∙ bytes-are c.reliability_type.result c.reliability_value.result c.in_ok-chunks.chunks.items
    ∙ ap length c.in_ok-chunks.ensures.joined
