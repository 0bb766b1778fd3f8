use Rattle.std.proofs.Common.{arith}
use Rattle.std.proofs.lemmas.Result.{IfErr-weaker}
use Rattle.sctp_capture.proofs.Frames.{only_labels}
use Rattle.sctp_capture.proofs.frame.network_place.Goals as goal

pub returns-in-34887-clause-refused : goal.returns-in-34887-clause-refused
returns-in-34887-clause-refused c = IfErr-weaker c.mpls_place.result _ _
    (λ e no at it. no at (only_labels c.args.typ c.args.frame.now c.args.from at (omega arith) (omega arith) it)) c.mpls_place.ensures.refused
