use Rattle.std.proofs.lemmas.Result.{IfErr-weaker}
use Rattle.sctp_capture.proofs.Frames.{ethernet_network}
use Rattle.sctp_capture.proofs.frame.ethernet_place.Goals as goal

pub returns-clause-refused : goal.returns-clause-refused
returns-clause-refused c = IfErr-weaker c.network_place.result _ _ (λ e no at it.
    no at (ethernet_network _ c.args.frame.now _ at c.ethertype_in-typ.ensures.place c.ethertype_in-typ.ensures.is it)) c.network_place.ensures.refused
