use Rattle.sctp_receiver.proofs.Names.{arith, ◌<◌, ◌^◌, le-ltb, distance, distance_self}
use Rattle.sctp_receiver.proofs.receiver.spans.TsnSpan.of.Goals as goal

pub returns-clause-here : goal.returns-clause-here
returns-clause-here c =
    let fits : c.args.tsn < 2 ^ 32 = omega arith in
    le-ltb 0 (distance c.args.tsn c.args.tsn) (omega (arith, distance_self c.args.tsn fits))
