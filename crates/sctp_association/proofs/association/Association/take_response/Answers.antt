use Rattle.sctp_association.proofs.Telling.{end_then, stays_insert, to_by_us, to_same}
use Rattle.std.proofs.Common.{ap, arith, refl, ◌≡◌, rules}
use Rattle.sctp_association.specs.declared.event.Events.{Events}
use Rattle.sctp_association.proofs.Arriving.{acknowledged_restart_by, acknowledged_same, acknowledged_then}
use Rattle.sctp_association.proofs.Kept.{same_requests, same_told}
use Rattle.sctp_association.proofs.Known.{kept_by, rest_same}
use Rattle.sctp_association.proofs.Reconfigs.{is_put, refused_all, refused_next, response_made, restarts_all, restarts_by, restarts_next}
use Rattle.sctp_association.proofs.Reconfigs.{restarts_none}
use Rattle.sctp_association.proofs.Reconfigs.{waits_made}
use Rattle.sctp_association.proofs.association.Association.take_response.Goals as goal
use Rattle.sctp_sender.specs.declared.sender.refusal.SenderRefusal.TheVariants.{StreamUnknown}
use Rattle.std.specs.Prelude.{IfErr}

pub loop-stream-init : goal.loop-stream-init
loop-stream-init c = (
  acknowledged_same _ _ _ refl,
  refl,
  record {
    config = refl;
    key = refl;
    machine = refl;
    owes = λ t e. e;
    sending = (λ e. e, λ e. e);
  },
  to_same,
  rest_same _,
  restarts_none _ _,
)

pub loop-stream-preserved : goal.loop-stream-preserved
loop-stream-preserved c =
    let unknown : IfErr c.reset.result (λ e. e ≡ StreamUnknown) = search rules in (
      acknowledged_then _ _ _ _ c.loop-stream.invariant.0
          (acknowledged_restart_by _ _ _ c.reset.result c.reset.ensures.ok c.reset.ensures.accepted c.reset.ensures.err),
      c.loop-stream.invariant.1,
      kept_by c.loop-stream.invariant.2 refl refl refl (λ t e. e) (λ e. e, λ e. e),
      end_then c.loop-stream.invariant.3
          (to_by_us _ _ _ _ (stays_insert _ _ _ c.insert.ensures.value c.insert.ensures.full) (omega (arith, c.insert.ensures.room))),
      record {
        due = c.loop-stream.invariant.4.due;
        control = c.loop-stream.invariant.4.control;
        guard = c.loop-stream.invariant.4.guard;
        over = c.loop-stream.invariant.4.over;
        wants = c.loop-stream.invariant.4.wants;
        acks = c.loop-stream.invariant.4.acks;
        events = ap (λ (e : Events). record e { reset_by_us = c.insert.new.self }) c.loop-stream.invariant.4.events;
      },
      restarts_next _ _ _ _ c.loop-stream.invariant.5 _ c.loop-stream-test.true
          (restarts_by _ _ _ c.reset.result c.reset.ensures.ok c.reset.ensures.refused c.reset.ensures.err unknown)
          (is_put _ _ _ c.insert.ensures.value c.insert.ensures.full c.insert.ensures.room) (same_told c.loop-stream.self _ _ _),
    )

pub returns-in-Err : goal.returns-in-Err
returns-in-Err c = record {
  hearing = acknowledged_then _ _ _ _ c.loop-stream.invariant.0
      (acknowledged_restart_by _ _ _ c.reset.result c.reset.ensures.ok c.reset.ensures.accepted c.reset.ensures.err);
  inbound = c.loop-stream.invariant.1;
  kept = record {
    config = c.loop-stream.invariant.2.config;
    key = c.loop-stream.invariant.2.key;
    machine = c.loop-stream.invariant.2.machine;
    owes = c.loop-stream.invariant.2.owes;
    sending = c.loop-stream.invariant.2.sending;
  };
  tells = c.loop-stream.invariant.3;
  rest = record {
    due = c.loop-stream.invariant.4.due;
    control = c.loop-stream.invariant.4.control;
    guard = c.loop-stream.invariant.4.guard;
    over = c.loop-stream.invariant.4.over;
    wants = c.loop-stream.invariant.4.wants;
    acks = c.loop-stream.invariant.4.acks;
    events = c.loop-stream.invariant.4.events;
  };
  made = tt;
}

pub loop-stream-2-preserved : goal.loop-stream-2-preserved
loop-stream-2-preserved c = (
  c.loop-stream-2.invariant.0,
  c.loop-stream-2.invariant.1,
  kept_by c.loop-stream-2.invariant.2 refl refl refl (λ t e. e) (λ e. e, λ e. e),
  search rules,
  record {
    due = c.loop-stream-2.invariant.4.due;
    control = c.loop-stream-2.invariant.4.control;
    guard = c.loop-stream-2.invariant.4.guard;
    over = c.loop-stream-2.invariant.4.over;
    wants = c.loop-stream-2.invariant.4.wants;
    acks = c.loop-stream-2.invariant.4.acks;
    events = ap (λ (e : Events). record e { reset_refused = c.insert-in-loop-stream-2.new.self }) c.loop-stream-2.invariant.4.events;
  },
  refused_next _ _ _ _ c.loop-stream-2.invariant.5 _ c.loop-stream-2-test.true
      (is_put _ _ _ c.insert-in-loop-stream-2.ensures.value c.insert-in-loop-stream-2.ensures.full c.insert-in-loop-stream-2.ensures.room)
      (same_told c.loop-stream-2.self _ _ _),
)

pub returns-after-loop-stream-clause-made : goal.returns-after-loop-stream-clause-made
returns-after-loop-stream-clause-made c =
    let streams : c.in-Performed.request.streams ≡ c.deref-stream-items.result.now = search rules in
    response_made c.args.response.now c.args.now c.args.self.now _ c.in-Performed.ensures.answer _ _
    (restarts_all _ _ _ _ c.loop-stream.invariant.5 c.loop-stream-test.false c.in-Performed.request streams) c.response.new.self
    (same_requests c.args.self.now _ _)
    c.get-rto.result c.in-Performed.ensures.rest c.get-rto.ensures.value

pub returns-after-loop-stream-2-clause-made : goal.returns-after-loop-stream-2-clause-made
returns-after-loop-stream-2-clause-made c =
    let streams : c.in-Refused.request.streams ≡ c.deref-stream-items-in-Refused.result.now = search rules in
    response_made c.args.response.now c.args.now c.args.self.now _ c.in-Refused.ensures.answer _ _
    (refused_all _ _ _ _ c.loop-stream-2.invariant.5 c.loop-stream-2-test.false c.in-Refused.request c.in-Refused.field-1 streams) c.response.new.self
    (same_requests c.args.self.now _ _) c.get-rto.result c.in-Refused.ensures.rest c.get-rto.ensures.value

pub returns-in-Wait-clause-made : goal.returns-in-Wait-clause-made
returns-in-Wait-clause-made c =
    response_made c.args.response.now c.args.now c.args.self.now c.response.result c.response.ensures.answer _ _
    (waits_made c.args.response.now c.args.now c.args.self.now c.response.result c.response.ensures.answer (search rules) _) c.response.new.self
    (same_requests c.args.self.now _ _) c.get-rto.result c.response.ensures.rest c.get-rto.ensures.value

pub returns-after-loop-stream-clause-hearing : goal.returns-after-loop-stream-clause-hearing
returns-after-loop-stream-clause-hearing c = c.loop-stream.invariant.0

pub returns-in-Wait-clause-hearing : goal.returns-in-Wait-clause-hearing
returns-in-Wait-clause-hearing c = acknowledged_same _ _ _ refl
