use Rattle.std.specs.Option.{option_map}
use Rattle.sctp_association.specs.AcksDue.{Acks, acks_of, ended}
use Rattle.sctp_association.specs.Entering.{usable_in}
use Rattle.sctp_association.specs.declared.inbound.Inbound.{Inbound}
use Rattle.sctp_receiver.specs.Receiver.{Reception}
use Rattle.std.proofs.Common.{Option, Some, ap, refl, sym, ◌∙◌}
use Rattle.sctp_association.proofs.Telling.{streams_in, to_alike}
use Rattle.sctp_association.proofs.association.Association.datagram_ended.Goals as goal

pub returns-in-Some-clause-tells : goal.returns-in-Some-clause-tells
returns-in-Some-clause-tells c =
    to_alike _ _ _ _ _ _ (ap (λ (r : Reception). r.streams) c.datagram_ended.ensures.receiver ∙ sym (ap streams_in c.in-Some.is)) refl refl

pub returns-in-Some-clause-usable : goal.returns-in-Some-clause-usable
returns-in-Some-clause-usable c s = c.datagram_ended.ensures.usable s ∙ sym (ap (λ (x : Option Inbound). usable_in s x) c.in-Some.is)

pub returns-in-Some-clause-acks : goal.returns-in-Some-clause-acks
returns-in-Some-clause-acks c =
    ap (λ (a : Acks). Some a) c.datagram_ended.ensures.acks
    ∙ sym (ap (λ (x : Option Inbound). option_map (ended c.args.now) (acks_of x)) c.in-Some.is)
