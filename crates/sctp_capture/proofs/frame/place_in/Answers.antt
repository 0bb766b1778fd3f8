use Rattle.std.proofs.lemmas.Result.{IfErr-weaker}
use Rattle.sctp_capture.proofs.Frames.{only_ethernet}
use Rattle.sctp_capture.proofs.frame.place_in.Goals as goal

pub returns-in-1-clause-refused : goal.returns-in-1-clause-refused
returns-in-1-clause-refused c = IfErr-weaker c.ethernet_place.result _ _
    (λ e no at it. no at (only_ethernet c.args.link_type c.args.frame.now at c.in-1.is it)) c.ethernet_place.ensures.refused
