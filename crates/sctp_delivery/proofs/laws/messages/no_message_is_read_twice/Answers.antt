use Rattle.sctp_delivery.proofs.FewYoung as few_young
use Rattle.sctp_delivery.proofs.ReadOnce as read_once
use Rattle.sctp_delivery.proofs.YoungOwn as young_own
use Rattle.sctp_delivery.proofs.laws.messages.no_message_is_read_twice.Goals as goal

pub returns : goal.returns
returns c = record { tsns = read_once.none-twice; writes = few_young.of-their-own; recent = young_own.law }
