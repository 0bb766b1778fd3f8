use Rattle.sctp_model.proofs.sender.Slots.{slots_in_order}
use Rattle.sctp_model.proofs.sender.Slots.{slots_follow}
use Rattle.sctp_model.proofs.sender.Slots.{one_partially_sent}
use Rattle.sctp_model.proofs.sender.Slots.{sent_in_turn}
use Rattle.sctp_model.proofs.sender.Slots.{indexes_leave_no_gap}
use Rattle.sctp_model.proofs.sender.Network.{no_terminal_chunk_is_sent}
use Rattle.sctp_model.proofs.sender.Network.{datagrams_stay}
use Rattle.sctp_model.proofs.laws.slots_are_valid.Goals as goal

pub returns-clause-in_order : goal.returns-clause-in_order
returns-clause-in_order c = slots_in_order

pub returns-clause-follow : goal.returns-clause-follow
returns-clause-follow c = slots_follow

pub returns-clause-one_partially_sent : goal.returns-clause-one_partially_sent
returns-clause-one_partially_sent c = one_partially_sent

pub returns-clause-in_turn : goal.returns-clause-in_turn
returns-clause-in_turn c = sent_in_turn

pub returns-clause-no_gap : goal.returns-clause-no_gap
returns-clause-no_gap c = indexes_leave_no_gap

pub returns-clause-no_terminal_chunk : goal.returns-clause-no_terminal_chunk
returns-clause-no_terminal_chunk c = no_terminal_chunk_is_sent

pub returns-clause-stay : goal.returns-clause-stay
returns-clause-stay c = datagrams_stay
