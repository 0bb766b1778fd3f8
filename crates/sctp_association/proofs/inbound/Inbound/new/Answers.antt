use Rattle.std.proofs.Common.{rules, ◌<◌, ◌^◌}
use Rattle.sctp_association.proofs.inbound.Inbound.new.Goals as goal
use Rattle.sctp_association.proofs.Reaching.{begun}

pub invariant_of-result : goal.invariant_of-result
invariant_of-result c =
    let fits : c.args.config.now.limits.window < 2 ^ 64 = search rules in
    record { limited = begun _ _ _ _ _ fits c.new.ensures }
