use Rattle.std.proofs.lemmas.Result.{IfErr-weaker}
use Rattle.sctp_capture.proofs.Frames.{only_ipv4, only_ipv6}
use Rattle.sctp_capture.proofs.frame.ip_payload.Goals as goal

pub returns-in-4-clause-refused : goal.returns-in-4-clause-refused
returns-in-4-clause-refused c =
    IfErr-weaker c.ipv4_payload.result _ _ (λ e no p q cut it. no p q cut (only_ipv4 _ c.args.lost p q cut c.in-4.is it)) c.ipv4_payload.ensures.refused

pub returns-in-6-clause-refused : goal.returns-in-6-clause-refused
returns-in-6-clause-refused c =
    IfErr-weaker c.ipv6_payload.result _ _ (λ e no p q cut it. no p q cut (only_ipv6 _ c.args.lost p q cut c.in-6.is it)) c.ipv6_payload.ensures.refused
