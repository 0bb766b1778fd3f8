use Rattle.std.proofs.Common.{arith}
use Rattle.std.proofs.lemmas.Result.{IfErr-weaker}
use Rattle.sctp_capture.proofs.Frames.{of_err, only_place}
use Rattle.sctp_capture.proofs.Tunnels.{no_room, only_inner}
use Rattle.sctp_capture.proofs.frame.inside_frame.Goals as goal

pub returns-in_err-at-clause-refused : goal.returns-in_err-at-clause-refused
returns-in_err-at-clause-refused c = of_err c.from_residual.result _ (λ e bytes missing it.
    no_room c.args.port c.args.frame.now c.args.lost it.packet it.cut bytes missing it.at (c.in_err-at.ensures.refused it.at it.place) it.inner it.inside)

pub returns-clause-refused : goal.returns-clause-refused
returns-clause-refused c = IfErr-weaker c.inside_ip.result _ _ (λ e no bytes missing it.
    let same = only_place c.args.link_type c.args.frame.now it.at c.in_ok-at.at it.place c.in_ok-at.ensures.found in
    let inner =
    only_inner 4 _ c.args.lost it.packet it.cut c.innermost-cut.result.0.now c.innermost-cut.result.1 (rw same at it.inner) c.innermost-cut.ensures.is in
    no bytes missing (rw (inner.0, inner.1) at it.inside)) c.inside_ip.ensures.refused

pub returns-then-frame-at-clause-refused : goal.returns-then-frame-at-clause-refused
returns-then-frame-at-clause-refused c bytes missing it =
    let same = only_place c.args.link_type c.args.frame.now it.at c.in_ok-at.at it.place c.in_ok-at.ensures.found in
    no_room c.args.port c.args.frame.now c.args.lost it.packet it.cut bytes missing it.at (omega (arith, same, c.if-frame-at.true)) it.inner it.inside
