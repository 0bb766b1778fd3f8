use Rattle.sctp_sender.proofs.Names.{ap, arith, nat_tests, take_all, bytes_back}
use Rattle.sctp_sender.proofs.sender.kept.is_room_for.Goals as goal

pub returns-clause-value : goal.returns-clause-value
returns-clause-value c = let all = ap bytes_back (take_all c.loop-one.one-index c.args.answered.now (omega arith)) in grind (arith, nat_tests, all)
