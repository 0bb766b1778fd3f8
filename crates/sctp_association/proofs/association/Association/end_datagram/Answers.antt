use Rattle.std.proofs.Common.{Option, ap, ◌∙◌}
use Rattle.sctp_association.specs.AcksDue.{acks_of}
use Rattle.sctp_association.specs.Entering.{usable_in}
use Rattle.sctp_association.specs.declared.inbound.Inbound.{Inbound}
use Rattle.sctp_association.proofs.Telling.{end_then}
use Rattle.sctp_association.proofs.Known.{keeps_kept, keeps_then}
use Rattle.sctp_association.proofs.association.Association.end_datagram.Goals as goal

pub returns-clause-peer : goal.returns-clause-peer
returns-clause-peer c = keeps_then _ _ _ (keeps_kept _ _ c.datagram_ended.ensures.kept) c.settle.ensures.peer

pub returns-clause-tells : goal.returns-clause-tells
returns-clause-tells c = end_then c.datagram_ended.ensures.tells c.settle.ensures.tells

pub returns-clause-usable : goal.returns-clause-usable
returns-clause-usable c s = ap (λ (x : Option Inbound). usable_in s x) c.settle.ensures.inbound ∙ c.datagram_ended.ensures.usable s

pub returns-clause-acks : goal.returns-clause-acks
returns-clause-acks c = ap (λ (x : Option Inbound). acks_of x) c.settle.ensures.inbound ∙ c.datagram_ended.ensures.acks
