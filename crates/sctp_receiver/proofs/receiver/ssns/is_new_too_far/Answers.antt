use Rattle.sctp_receiver.proofs.Names.{◌-◌, length, arith, within_digits}
use Rattle.sctp_receiver.proofs.receiver.ssns.is_new_too_far.Goals as goal

pub returns-clause-cost : goal.returns-clause-cost
returns-clause-cost c =
    let n = length c.args.filter.now.beyond in
    omega (arith, within_digits n (c.has_come_counted.new.turns - c.tick-2.new.self) c.has_come_counted.ensures.cost)
