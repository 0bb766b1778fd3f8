use Rattle.sctp_delivery.proofs.BothWays as ways
use Rattle.sctp_delivery.proofs.laws.both_ways.each_way_is_a_session.Goals as goal

pub returns : goal.returns
returns c = record { session = ways.each-way; read = ways.read-both-ways; recent = ways.read-while-young }
