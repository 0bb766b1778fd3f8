use Rattle.sctp_link.proofs.Names.{ap, sym, ◌∙◌, None, place_of, is_in_flight, is_partially_sent, unless, NotInFlight, message_of_tsn, find-among}
use Rattle.sctp_link.proofs.link.Link.abandon_partially_sent.Goals as goal

pub abandon_message-requires : goal.abandon_message-requires
abandon_message-requires g c =
    let w = c.args.self.now.recorded in
    ap (λ b. unless b NotInFlight None) (find-among (λ t. is_partially_sent w (message_of_tsn w t))
    (λ t. is_in_flight w (place_of w t)) c.args.tsns.now c.in-Some.tsn c.requires (sym c.first_partially_sent.ensures ∙ c.in-Some.is))
