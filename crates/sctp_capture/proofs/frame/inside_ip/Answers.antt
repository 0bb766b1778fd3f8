use Rattle.sctp_capture.proofs.Frames.{of_err}
use Rattle.sctp_capture.proofs.Tunnels.{only_payload}
use Rattle.sctp_capture.proofs.frame.inside_ip.Goals as goal

pub returns-in_err-upper-clause-refused : goal.returns-in_err-upper-clause-refused
returns-in_err-upper-clause-refused c = of_err c.from_residual.result _ (λ e bytes missing it.
    c.in_err-upper.ensures.refused it.protocol it.payload it.cut it.is)

pub returns-in_err-bytes-clause-refused : goal.returns-in_err-bytes-clause-refused
returns-in_err-bytes-clause-refused c = of_err c.from_residual-in_err-bytes.result _ (λ e bytes missing it.
    let same = only_payload c.args.packet.now c.args.lost it.protocol it.payload it.cut _ _ _ it.is c.in_ok-upper.ensures.found in
    c.in_err-bytes.ensures.refused bytes missing (rw (← same.0, ← same.1, ← same.2) it.carried))
