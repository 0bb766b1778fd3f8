use Rattle.sctp_association.proofs.Telling.{to_in}
use Rattle.std.proofs.Common.{Option, Some, ap, refl, sym, ◌∙◌}
use Rattle.sctp_association.specs.AcksDue.{Acks, acks_of}
use Rattle.sctp_association.specs.declared.inbound.Inbound.{Inbound}
use Rattle.sctp_association.proofs.Arrived.{received_in, received_in_same}
use Rattle.sctp_association.proofs.Kept.{same_machine}
use Rattle.sctp_association.proofs.Reconfigs.{stream_in, stream_none}
use Rattle.sctp_association.proofs.Partly.{unreset_in}
use Rattle.sctp_association.proofs.association.Association.perform_one.Goals as goal

pub returns-in-Some-clause-received : goal.returns-in-Some-clause-received
returns-in-Some-clause-received c = received_in _ _ _ _ c.reset.new.self c.in-Some.is refl c.reset.ensures.received

pub returns-in-None-clause-received : goal.returns-in-None-clause-received
returns-in-None-clause-received c = received_in_same _ _ _ refl

pub returns-in-Some-clause-tells : goal.returns-in-Some-clause-tells
returns-in-Some-clause-tells c = to_in _ _ _ _ _ _ c.in-Some.is c.reset.ensures.tells

pub returns-in-Some-clause-rest : goal.returns-in-Some-clause-rest
returns-in-Some-clause-rest c = record {
  due = refl;
  control = refl;
  guard = refl;
  over = refl;
  wants = refl;
  events = c.reset.ensures.events;
  acks = ap (λ (a : Acks). Some a) c.reset.ensures.acks ∙ sym (ap (λ (x : Option Inbound). acks_of x) c.in-Some.is);
}

pub returns-in-Some-clause-one : goal.returns-in-Some-clause-one
returns-in-Some-clause-one c = stream_in c.args.stream c.args.last_tsn c.args.is_named _ _ c.reset.result _ c.reset.new.self c.in-Some.is refl
    c.reset.ensures.resets (record {
      config = refl;
      key = refl;
      machine = refl;
      is_over = refl;
      wants_shutdown = refl;
      outbound = refl;
      requests = refl;
      peer_requests = refl;
      control = refl;
      guard = refl;
      heartbeat = refl;
      cookie = refl;
      due = refl;
      draft = refl;
    })

pub returns-in-None-clause-one : goal.returns-in-None-clause-one
returns-in-None-clause-one c = stream_none c.args.stream c.args.last_tsn c.args.is_named _ _ c.in-None.is (same_machine c.args.self.now _ _ refl)

pub returns-in-Some-clause-cut : goal.returns-in-Some-clause-cut
returns-in-Some-clause-cut c = unreset_in c.reset.result c.args.self.now _ _ c.reset.new.self c.in-Some.is refl c.reset.ensures.cut (record {
  config = refl;
  key = refl;
  machine = refl;
  is_over = refl;
  wants_shutdown = refl;
  outbound = refl;
  requests = refl;
  peer_requests = refl;
  control = refl;
  guard = refl;
  heartbeat = refl;
  cookie = refl;
  due = refl;
  draft = refl;
})
