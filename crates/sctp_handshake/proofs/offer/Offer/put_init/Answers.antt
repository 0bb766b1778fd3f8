use Rattle.std.proofs.Common.{arith}
use Rattle.std.proofs.lemmas.List.{length-append}
use Rattle.sctp_handshake.specs.InitValues.{number_bytes, offer_params}
use Rattle.sctp_handshake.proofs.InitSteps.{length-number_bytes}
use Rattle.sctp_handshake.proofs.offer.Offer.put_init.Goals as goal

pub returns-clause-spare : goal.returns-clause-spare
returns-clause-spare c =
    let o = c.args.self.now in rw (length-append (number_bytes o) (offer_params o)) (omega (arith, length-number_bytes o))
