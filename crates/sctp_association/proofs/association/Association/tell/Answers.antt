use Rattle.sctp_association.specs.declared.event.Events.{Events}
use Rattle.sctp_association.specs.declared.association.Association.{Association}
use Rattle.sctp_association.proofs.Telling.{end_then, passes_as, streams_in, to_connected, to_none, to_over, to_restarted, to_shutdown}
use Rattle.std.proofs.Common.{None, Some, ap, refl, rules, ◌≡◌, ◌∙◌, true}
use Rattle.sctp_association.proofs.AcksOn.{told_begun, told_by}
use Rattle.sctp_association.proofs.Begun.{begun_by}
use Rattle.sctp_association.specs.Arrivals.{halves, new_sender}
use Rattle.sctp_association.specs.Halves.{fragment_size, halves_of}
use Rattle.sctp_association.proofs.association.Association.tell.Goals as goal
use Rattle.sctp_handshake.specs.declared.answer.Told.TheVariants as told

pub returns-in-Connected-clause-begun : goal.returns-in-Connected-clause-begun
returns-in-Connected-clause-begun c =
    let is : c.args.told ≡ told.Connected = search rules in
    begun_by _ _ _ _ _ _ is c.begin.ensures.begun

pub returns-in-Restarted-clause-begun : goal.returns-in-Restarted-clause-begun
returns-in-Restarted-clause-begun c =
    let is : c.args.told ≡ told.Restarted = search rules in
    let size : c.outbound_config.result.mtu ≡ c.args.self.now.config.mtu = search rules in
    let max : c.outbound_config.result.max_message_size ≡ c.args.self.now.config.max_message_size = search rules in
    let sender : c.new.result.sender
    ≡ new_sender c.args.self.now.machine.own.first_tsn (fragment_size c.args.self.now.config.mtu) c.args.self.now.config.max_message_size = search rules in
    begun_by _ _ _ _ _ _ is (record {
      middle = halves c.new.result.sender None;
      renewed = (refl, sender);
      begun = c.begin-in-Restarted.ensures.begun refl;
    })

pub returns-in-ShutdownBegun-clause-begun : goal.returns-in-ShutdownBegun-clause-begun
returns-in-ShutdownBegun-clause-begun c =
    let is : c.args.told ≡ told.ShutdownBegun = search rules in
    begun_by _ _ _ _ _ _ is refl

pub returns-in-Closed-clause-begun : goal.returns-in-Closed-clause-begun
returns-in-Closed-clause-begun c =
    let is : c.args.told ≡ told.Closed = search rules in
    begun_by _ _ _ _ _ _ is (ap halves_of c.end.ensures.rest)

pub returns-in-Failed-clause-begun : goal.returns-in-Failed-clause-begun
returns-in-Failed-clause-begun c =
    let is : c.args.told ≡ told.Failed = search rules in
    begun_by _ _ _ _ _ _ is (ap halves_of c.end-in-Failed.ensures.rest)

pub returns-in-Connected-clause-tells : goal.returns-in-Connected-clause-tells
returns-in-Connected-clause-tells c =
    let is : c.args.told ≡ told.Connected = search rules in
    passes_as _ _ _ _ _ is (record {
      end = end_then c.begin.ensures.tells (to_connected _ _ _);
      told = ap (λ (e : Events). record e { connected = true }) c.begin.ensures.events;
    })

pub returns-in-Restarted-clause-tells : goal.returns-in-Restarted-clause-tells
returns-in-Restarted-clause-tells c =
    let is : c.args.told ≡ told.Restarted = search rules in
    passes_as _ _ _ _ _ is (record {
      end = end_then (to_none _ _ _) (end_then c.begin-in-Restarted.ensures.tells (to_restarted _ _ _));
      told = ap (λ (e : Events). record e { restarted = true }) c.begin-in-Restarted.ensures.events;
    })

pub returns-in-ShutdownBegun-clause-tells : goal.returns-in-ShutdownBegun-clause-tells
returns-in-ShutdownBegun-clause-tells c =
    let is : c.args.told ≡ told.ShutdownBegun = search rules in
    passes_as _ _ _ _ _ is (record { end = to_shutdown _ _ _; told = refl })

pub returns-in-Closed-clause-tells : goal.returns-in-Closed-clause-tells
returns-in-Closed-clause-tells c =
    let is : c.args.told ≡ told.Closed = search rules in
    let rest = c.end.ensures.rest in
    passes_as _ _ _ _ _ is (record {
      end = to_over _ _ _ _ _ _ _ (ap (λ (x : Association). streams_in x.inbound) rest) c.end.ensures.told c.end.ensures.over;
      told = c.end.ensures.told;
    })

pub returns-in-Failed-clause-tells : goal.returns-in-Failed-clause-tells
returns-in-Failed-clause-tells c =
    let is : c.args.told ≡ told.Failed = search rules in
    let rest = c.end-in-Failed.ensures.rest in
    passes_as _ _ _ _ _ is (record {
      end = to_over _ _ _ _ _ _ _ (ap (λ (x : Association). streams_in x.inbound) rest) c.end-in-Failed.ensures.told c.end-in-Failed.ensures.over;
      told = c.end-in-Failed.ensures.told ∙ ap (λ how. record c.args.self.now.events { closed = Some how }) c.failure.ensures;
    })

pub returns-in-Connected-clause-acks : goal.returns-in-Connected-clause-acks
returns-in-Connected-clause-acks c =
    let is : c.args.told ≡ told.Connected = search rules in
    told_by _ _ _ _ _ is (told_begun _ _ _ c.begin.ensures.acks)

pub returns-in-Restarted-clause-acks : goal.returns-in-Restarted-clause-acks
returns-in-Restarted-clause-acks c =
    let is : c.args.told ≡ told.Restarted = search rules in
    told_by _ _ _ _ _ is (told_begun _ _ _ c.begin-in-Restarted.ensures.acks)

pub returns-in-ShutdownBegun-clause-acks : goal.returns-in-ShutdownBegun-clause-acks
returns-in-ShutdownBegun-clause-acks c =
    let is : c.args.told ≡ told.ShutdownBegun = search rules in
    told_by _ _ _ _ _ is refl

pub returns-in-Closed-clause-acks : goal.returns-in-Closed-clause-acks
returns-in-Closed-clause-acks c =
    let is : c.args.told ≡ told.Closed = search rules in
    told_by _ _ _ _ _ is tt

pub returns-in-Failed-clause-acks : goal.returns-in-Failed-clause-acks
returns-in-Failed-clause-acks c =
    let is : c.args.told ≡ told.Failed = search rules in
    told_by _ _ _ _ _ is tt
