use Rattle.std.proofs.Common.{◌≡◌, ◌≢◌, arith}
use Rattle.std.proofs.lemmas.Grind.{common_steps}
use Rattle.std.proofs.lemmas.Result.{IfErr-weaker}
use Rattle.sctp_capture.proofs.Frames.{held_exported, held_framed}
use Rattle.sctp_capture.proofs.frame.datagram_in.Goals as goal

pub returns-in-252-clause-refused : goal.returns-in-252-clause-refused
returns-in-252-clause-refused c =
    let is : c.args.link_type ≡ 252 = grind (arith, common_steps) in
    IfErr-weaker c.inside_exported.result _ _
    (λ e none bytes missing it.
    held_exported c.args.link_type c.args.port c.args.frame.now c.args.lost bytes missing is none it) c.inside_exported.ensures.refused

pub returns-in_default-clause-refused : goal.returns-in_default-clause-refused
returns-in_default-clause-refused c =
    let other : c.args.link_type ≢ 252 = grind (arith, common_steps) in
    IfErr-weaker c.inside_frame.result _ _
    (λ e none bytes missing it.
    held_framed c.args.link_type c.args.port c.args.frame.now c.args.lost bytes missing other none it) c.inside_frame.ensures.refused
