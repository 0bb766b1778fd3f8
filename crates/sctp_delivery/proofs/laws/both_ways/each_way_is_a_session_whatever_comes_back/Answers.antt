use Rattle.sctp_delivery.proofs.BothWays as ways
use Rattle.sctp_delivery.proofs.laws.both_ways.each_way_is_a_session_whatever_comes_back.Goals as goal

pub returns : goal.returns
returns c = record { session = ways.each-way-so; read = ways.read-both-ways-so }
