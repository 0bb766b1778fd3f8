use Rattle.sctp_link.proofs.Names.{◌+◌, ◌-◌, ◌^◌, refl, ap, ◌∙◌, find, min, with_nsent, has_tsn, Transmission, found-changed}
use Rattle.sctp_link.proofs.link.sends.write_again.Goals as goal

pub returns-clause-noted : goal.returns-clause-noted
returns-clause-noted g c d e =
    ap (λ (t : Transmission). find (has_tsn c.args.tsn) t.flight.queue.inflight.chunks) (c.count_resend.ensures.counted d e)
    ∙ found-changed (has_tsn c.args.tsn) (with_nsent (min (d.nsent + 1) (2 ^ 32 - 1))) (λ x. refl) c.args.sender.now.flight.queue.inflight.chunks d e
