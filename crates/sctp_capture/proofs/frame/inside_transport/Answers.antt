use Rattle.std.proofs.lemmas.Result.{IfErr-weaker}
use Rattle.std.proofs.Common.{arith}
use Rattle.sctp_capture.proofs.Frames.{only_udp}
use Rattle.sctp_capture.proofs.frame.inside_transport.Goals as goal

pub returns-then-protocol-eq-UDP-clause-refused : goal.returns-then-protocol-eq-UDP-clause-refused
returns-then-protocol-eq-UDP-clause-refused c = IfErr-weaker c.inside_udp.result _ _
    (λ e no bytes missing it.
    no bytes missing (only_udp c.args.port c.args.protocol _ _ bytes missing (grind (arith, c.if-protocol-eq-UDP.true)) it)) c.inside_udp.ensures.refused
